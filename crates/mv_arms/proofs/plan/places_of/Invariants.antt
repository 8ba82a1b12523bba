use Rattle.std.proofs.Common.{take}
use Rattle.mv_arms.specs.Arms.{AreArms}
use Rattle.mv_arms.proofs.plan.places_of.Given as goal

abbrev pub invariant-loop-arm : goal.invariant-loop-arm
invariant-loop-arm l = AreArms l.temp l.places (take l.arm-index l.arms)
