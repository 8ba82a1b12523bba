use Rattle.std.proofs.Common.{◌≡◌, map, take}
use Rattle.mv_parts.specs.Switches.{part_switch}
use Rattle.mv_parts.proofs.switches.part_switches.Given as goal

abbrev pub invariant-loop-number : goal.invariant-loop-number
invariant-loop-number l = l.parts ≡ map (part_switch l.program) (take l.number l.program.switches)
