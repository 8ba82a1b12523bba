use Rattle.std.proofs.Common.{◌≡◌, ◌+◌, take}
use Rattle.std.specs.Prelude.{sum_by}
use Rattle.mv_parts.specs.Counts.{up_to_greatest, count_in_variant}
use Rattle.mv_parts.proofs.counts.in_variants.Given as goal

abbrev pub invariant-loop-variant : goal.invariant-loop-variant
invariant-loop-variant l = l.count ≡ up_to_greatest (l.initial.count + sum_by (count_in_variant l.what) (take l.variant-index l.variants))
