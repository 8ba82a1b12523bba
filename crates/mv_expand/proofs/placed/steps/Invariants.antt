use Rattle.std.proofs.Common.{◌≡◌, take}
use Rattle.mv_ast.specs.Flags.{is_set}
use Rattle.mv_expand.specs.Placed.{steps}
use Rattle.mv_expand.proofs.placed.steps.Given as goal

abbrev pub invariant-loop-stm : goal.invariant-loop-stm
invariant-loop-stm l = l.code ≡ steps l.base (is_set l.keeps) l.args l.target (take l.stm-index l.body)
