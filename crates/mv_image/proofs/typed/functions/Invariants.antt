use Rattle.std.proofs.Common.{ℕ, ◌<◌, get_or}
use Rattle.mv_descriptors.specs.declared.rows.FunctionRow.{FunctionRow}
use Rattle.mv_descriptors.specs.Widths.{FunctionWhole}
use Rattle.mv_image.proofs.typed.functions.Given as goal

abbrev pub invariant-loop-row : goal.invariant-loop-row
invariant-loop-row l = (k : ℕ) (d : FunctionRow) → k < l.row-index → FunctionWhole (get_or l.rows k d)
