use Rattle.std.proofs.Common.{◌≡◌, ◌++◌, take}
use Rattle.mv_fold.specs.Needed.{code_uses}
use Rattle.mv_fold.proofs.uses.+uses.Given as goal

abbrev pub invariant-add_code-loop-stm : goal.invariant-add_code-loop-stm
invariant-add_code-loop-stm l = l.uses ≡ l.initial.uses ++ code_uses (take l.stm-index l.code)
