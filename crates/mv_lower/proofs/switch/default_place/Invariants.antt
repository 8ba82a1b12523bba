use Rattle.std.proofs.Common.{◌≡◌, drop}
use Rattle.mv_lower.specs.Switches.{default_place}
use Rattle.mv_lower.proofs.switch.default_place.Given as goal

abbrev pub invariant-loop-arm : goal.invariant-loop-arm
invariant-loop-arm l = (l.place ≡ l.arm-index) × (default_place l.arm-index (drop l.arm-index l.arms) ≡ default_place 0 l.arms)
