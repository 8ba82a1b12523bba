use Rattle.std.proofs.Common.{◌≡◌, ◌++◌, take}
use Rattle.mv_select.specs.Functions.Uses.{code_uses}
use Rattle.mv_select.proofs.uses.+uses.Given as goal

abbrev pub invariant-add_code-loop-stm : goal.invariant-add_code-loop-stm
invariant-add_code-loop-stm l = l.uses ≡ l.initial.uses ++ code_uses l.body l.w (take l.stm-index l.code)
