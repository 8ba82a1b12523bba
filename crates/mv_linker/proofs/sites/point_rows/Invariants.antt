use Rattle.std.proofs.Common.{◌≡◌, ◌++◌, drop, slice_index}
use Rattle.mv_linker.specs.Tables.{pointer_addresses, points_from}
use Rattle.mv_linker.proofs.sites.point_rows.Given as goal

abbrev pub invariant-loop-index : goal.invariant-loop-index
invariant-loop-index l = l.rows ++ points_from (slice_index l.addresses) (pointer_addresses l.pointers) l.index (drop l.index l.lines) ≡ points_from (slice_index l.addresses) (pointer_addresses l.pointers) 0 l.lines
