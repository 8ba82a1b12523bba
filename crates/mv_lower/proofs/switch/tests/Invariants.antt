use Rattle.std.proofs.Common.{◌≡◌, ◌++◌, drop}
use Rattle.mv_lower.specs.Switches.{tests_from}
use Rattle.mv_lower.proofs.switch.tests.Given as goal

abbrev pub invariant-loop-arm : goal.invariant-loop-arm
invariant-loop-arm l = (l.place ≡ l.arm-index) × (l.code ++ tests_from l.n l.arm-index (drop l.arm-index l.arms) ≡ tests_from l.n 0 l.arms)
