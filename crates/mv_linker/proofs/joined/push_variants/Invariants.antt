use Rattle.std.proofs.Common.{◌≡◌, ◌+◌, length, drop}
use Rattle.mv_linker.specs.Linked.{label_count, variant_codes}
use Rattle.mv_linker.specs.Joining.{with_codes}
use Rattle.mv_linker.proofs.joined.push_variants.Given as goal

abbrev pub invariant-loop-variant : goal.invariant-loop-variant
invariant-loop-variant l = record {
  joined : with_codes l.joined (variant_codes (drop l.variant-index l.variants)) ≡ with_codes l.fn.joined (variant_codes l.variants);
  labels : l.joined.code.labels + label_count (variant_codes (drop l.variant-index l.variants)) ≡ l.fn.joined.code.labels + label_count (variant_codes l.variants);
  entries : length l.joined.entries + length (variant_codes (drop l.variant-index l.variants)) ≡ length l.fn.joined.entries + length (variant_codes l.variants);
}
