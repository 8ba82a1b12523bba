use Rattle.std.proofs.Common.{◌≡◌, map, take}
use Rattle.mv_lower_expressions.specs.Values.{seen}
use Rattle.mv_lower.specs.Declarations.{values_top_of}
use Rattle.mv_lower.proofs.declaration.values_top.Given as goal

abbrev pub invariant-loop-value : goal.invariant-loop-value
invariant-loop-value l = l.top ≡ values_top_of (map seen (take l.value-index l.values)) l.n
