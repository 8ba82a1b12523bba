use Rattle.std.proofs.Common.{◌≡◌, ◌+◌, length, drop}
use Rattle.mv_linker.specs.Linked.{label_count, variant_codes, function_variants}
use Rattle.mv_linker.specs.Joining.{with_codes}
use Rattle.mv_linker.proofs.joined.push_all_variants.Given as goal

abbrev pub invariant-loop-function : goal.invariant-loop-function
invariant-loop-function l = record {
  joined : with_codes l.joined (variant_codes (function_variants (drop l.function-index l.attributed))) ≡ with_codes l.fn.joined (variant_codes (function_variants l.attributed));
  labels : l.joined.code.labels + label_count (variant_codes (function_variants (drop l.function-index l.attributed))) ≡ l.fn.joined.code.labels + label_count (variant_codes (function_variants l.attributed));
  entries : length l.joined.entries + length (variant_codes (function_variants (drop l.function-index l.attributed))) ≡ length l.fn.joined.entries + length (variant_codes (function_variants l.attributed));
}
