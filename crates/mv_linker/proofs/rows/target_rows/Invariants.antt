use Rattle.std.proofs.Common.{◌≡◌, ◌++◌, drop, slice_index}
use Rattle.mv_linker.specs.Tables.{target_rows}
use Rattle.mv_linker.proofs.rows.target_rows.Given as goal

abbrev pub invariant-loop-number : goal.invariant-loop-number
invariant-loop-number l = l.rows ++ target_rows (slice_index l.starts) l.number (drop l.number l.targets) ≡ target_rows (slice_index l.starts) 0 l.targets
