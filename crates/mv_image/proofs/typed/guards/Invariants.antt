use Rattle.std.proofs.Common.{ℕ, ◌<◌, get_or}
use Rattle.mv_num.specs.Bytes.{AreWords}
use Rattle.mv_descriptors.specs.declared.rows.GuardRow.{GuardRow}
use Rattle.mv_descriptors.specs.Widths.{GuardWhole}
use Rattle.mv_image.proofs.typed.guards.Given as goal

abbrev pub invariant-loop-row : goal.invariant-loop-row
invariant-loop-row l = (k : ℕ) (d : GuardRow) → k < l.row-index → GuardWhole (get_or l.rows k d) × AreWords (get_or l.rows k d).low × AreWords (get_or l.rows k d).high
