use Rattle.std.proofs.Common.{◌≡◌, ◌++◌, length, map}
use Rattle.mv_lower_expressions.specs.Values.{seen}
use Rattle.mv_lower.specs.Declarations.{values_stored}
use Rattle.mv_lower.proofs.declaration.store_values.Given as goal

abbrev pub invariant-loop-value : goal.invariant-loop-value
invariant-loop-value l = (l.i ≡ length l.yielded) × (l.code ≡ l.initial.code ++ values_stored l.size l.local 0 (map seen l.yielded))
