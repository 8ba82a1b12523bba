use Rattle.std.proofs.Common.{◌≤◌, take}
use Rattle.mv_ir.specs.Measures.{deepest}
use Rattle.mv_expand.proofs.measures.is_shallow.Given as goal

abbrev pub invariant-loop-stm : goal.invariant-loop-stm
invariant-loop-stm l = deepest (take l.stm-index l.code) ≤ 4
