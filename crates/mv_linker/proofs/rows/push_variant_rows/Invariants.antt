use Rattle.std.proofs.Common.{◌≡◌, ◌+◌, ◌++◌, drop, slice_index}
use Rattle.mv_linker.specs.Tables.{variant_rows}
use Rattle.mv_linker.proofs.rows.push_variant_rows.Given as goal

abbrev pub invariant-loop-index : goal.invariant-loop-index
invariant-loop-index l = l.rows ++ variant_rows (slice_index l.starts) (l.number + l.index) (drop l.index l.variants) ≡ l.fn.rows ++ variant_rows (slice_index l.starts) l.number l.variants
