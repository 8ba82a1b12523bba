use Rattle.std.proofs.Common.{◌≡◌, ◌++◌, drop, slice_index}
use Rattle.mv_linker.specs.Tables.{attributed_numbers, sites_from}
use Rattle.mv_linker.proofs.sites.site_rows.Given as goal

abbrev pub invariant-loop-index : goal.invariant-loop-index
invariant-loop-index l = l.rows ++ sites_from (slice_index l.addresses) (attributed_numbers l.attributed) l.index (drop l.index l.lines) ≡ sites_from (slice_index l.addresses) (attributed_numbers l.attributed) 0 l.lines
