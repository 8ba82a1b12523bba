use Rattle.mv_variants.specs.Variants.{AreGroupedFrom}
use Rattle.mv_variants.proofs.grouping.with_guards.Given as goal

abbrev pub invariant-loop-body : goal.invariant-loop-body
invariant-loop-body l = AreGroupedFrom l.guards l.yielded l.variants
