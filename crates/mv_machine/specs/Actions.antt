-- Which actions of the operator fit the switches of an image.
use Rattle.std.specs.Prelude.{ℕ, Bool, true, false, List, Option, Some, None, slice_get}
use Rattle.mv_num.specs.Kinds.{kind_number, is_value}
use Rattle.mv_descriptors.specs.declared.rows.SwitchRow.{SwitchRow}
use Rattle.mv_bindings.specs.declared.action.Action.{Action}
use Rattle.mv_bindings.specs.declared.action.Action.TheVariants.{Skip, Flip}

-- whether a word is a value of a switch
abbrev pub is_row_value : Option SwitchRow → ℕ → Bool
is_row_value None v = false
is_row_value (Some row) v = is_value (kind_number row.kind) v

-- An action fits_rows where its switch is one of the rows and its value is one of that row's kind.
abbrev pub fits_rows : List SwitchRow → Action → Bool
fits_rows rows Skip = true
fits_rows rows (Flip s v) = is_row_value (slice_get rows s) v
