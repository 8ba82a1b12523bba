use Rattle.std.proofs.Common.{◌≡◌, map, take}
use Rattle.mv_lower_spec.specs.Functions.{lower_function}
use Rattle.mv_lower.proofs.lower_bodies.Given as goal

abbrev pub invariant-loop-function : goal.invariant-loop-function
invariant-loop-function l = l.bodies ≡ map (lower_function l.program) (take l.function-index l.program.functions)
