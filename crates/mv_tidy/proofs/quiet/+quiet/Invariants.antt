use Rattle.std.proofs.Common.{◌≡◌, take}
use Rattle.mv_ir.specs.Measures.{calls}
use Rattle.mv_tidy.proofs.quiet.+quiet.Given as goal

abbrev pub invariant-calls_nothing-loop-i : goal.invariant-calls_nothing-loop-i
invariant-calls_nothing-loop-i l = calls (take l.i l.code) ≡ 0
