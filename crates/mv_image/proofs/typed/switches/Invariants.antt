use Rattle.std.proofs.Common.{ℕ, ◌<◌, get_or}
use Rattle.mv_num.specs.Bytes.{AreWords}
use Rattle.mv_descriptors.specs.declared.rows.SwitchRow.{SwitchRow}
use Rattle.mv_descriptors.specs.Widths.{SwitchWhole}
use Rattle.mv_image.proofs.typed.switches.Given as goal

abbrev pub invariant-loop-row : goal.invariant-loop-row
invariant-loop-row l = (k : ℕ) (d : SwitchRow) → k < l.row-index → SwitchWhole (get_or l.rows k d) × AreWords (get_or l.rows k d).values
