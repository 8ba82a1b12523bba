use Rattle.std.proofs.Common.{◌≡◌, map}
use Rattle.mv_types.specs.Contents.{present}
use Rattle.mv_types.specs.Units.{with_switches}
use Rattle.mv_types.proofs.program.functions_of.Given as goal

abbrev pub invariant-loop-function : goal.invariant-loop-function
invariant-loop-function l = l.done ≡ map (with_switches l.switches) (present l.yielded)
