use Rattle.std.proofs.Common.{◌≡◌, length}
use Rattle.mv_parts.proofs.Tables.{EachVariant}
use Rattle.mv_parts.proofs.attributed.part_variants.Given as goal

abbrev pub invariant-loop-variant : goal.invariant-loop-variant
invariant-loop-variant l = record { one_each : length l.parts ≡ l.variant-index; each : EachVariant l.variants l.parts }
