use Rattle.std.proofs.Common.{◌≡◌, map, take}
use Rattle.mv_parts.specs.Switches.{part_pointer}
use Rattle.mv_parts.proofs.switches.part_pointers.Given as goal

abbrev pub invariant-loop-global : goal.invariant-loop-global
invariant-loop-global l = l.parts ≡ map (part_pointer l.program) (take l.global-index l.program.pointers)
