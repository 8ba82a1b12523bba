use Rattle.std.proofs.Common.{take}
use Rattle.mv_arms.specs.Walking.{Steers}
use Rattle.mv_arms.proofs.plan.tests_made.Given as goal

abbrev pub invariant-loop-stm : goal.invariant-loop-stm
invariant-loop-stm l = Steers l.temp l.places (take l.stm-index l.tests) l.made
