use Rattle.std.proofs.Common.{◌≡◌, ◌+◌, ◌++◌, All, drop, length, slice_index}
use Rattle.mv_linker.specs.Linked.{function_variants}
use Rattle.mv_linker.specs.Tables.{variant_rows, HasFewGuards}
use Rattle.mv_linker.proofs.rows.variant_rows.Given as goal

abbrev pub invariant-loop-function : goal.invariant-loop-function
invariant-loop-function l = record {
  rows : l.rows ++ variant_rows (slice_index l.starts) l.next (function_variants (drop l.function-index l.attributed)) ≡ variant_rows (slice_index l.starts) l.number (function_variants l.attributed);
  next : l.next + length (function_variants (drop l.function-index l.attributed)) ≡ l.number + length (function_variants l.attributed);
  guards : All HasFewGuards (function_variants (drop l.function-index l.attributed));
}
