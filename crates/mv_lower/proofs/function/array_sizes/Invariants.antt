use Rattle.std.proofs.Common.{◌≡◌, take}
use Rattle.mv_lower_spec.specs.Functions.{array_sizes}
use Rattle.mv_lower.proofs.function.array_sizes.Given as goal

abbrev pub invariant-loop-local : goal.invariant-loop-local
invariant-loop-local l = l.sizes ≡ array_sizes (take l.local-index l.locals)
