use Rattle.std.proofs.Common.{ℕ, ◌<◌, get_or}
use Rattle.mv_num.specs.Bytes.{AreWords}
use Rattle.mv_descriptors.specs.declared.rows.VariantRow.{VariantRow}
use Rattle.mv_descriptors.specs.Widths.{VariantWhole}
use Rattle.mv_image.proofs.typed.variants.Given as goal

abbrev pub invariant-loop-row : goal.invariant-loop-row
invariant-loop-row l = (k : ℕ) (d : VariantRow) → k < l.row-index → VariantWhole (get_or l.rows k d) × AreWords (get_or l.rows k d).words
