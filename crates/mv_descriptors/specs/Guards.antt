-- When a guard row holds of values, and which variant fits them.
use Rattle.std.specs.Prelude.{ℕ, zero, suc, Bool, true, ◌&&◌, List, [], ◌∷◌, length, take, drop, slice_index, Option, Some, None, if◌then◌else◌}
use Rattle.std.specs.List.{list_any}
use Rattle.mv_num.specs.Kinds.{is_at_most}
use Rattle.mv_descriptors.specs.declared.rows.VariantRow.{VariantRow}
use Rattle.mv_descriptors.specs.declared.rows.GuardRow.{GuardRow}

-- what holds of each number below n
unfoldable pub each_below : (ℕ → Bool) → ℕ → Bool
each_below test zero = true
each_below test (suc n) = each_below test n && test n

-- a value lies between two others in the order of a kind
abbrev pub is_between : ℕ → ℕ → ℕ → ℕ → Bool
is_between kind low high value = is_at_most kind low value && is_at_most kind value high

-- the value of a switch, by the switch's number among those of the function, lies between a row's lowest and highest for it
abbrev pub value_fits : List ℕ → List ℕ → GuardRow → ℕ → Bool
value_fits kinds values row i = is_between (slice_index kinds i) (slice_index row.low i) (slice_index row.high i) (slice_index values i)

-- A row holds of the values of some switches where each lies between the row's lowest and highest for it, in the order of the switch's kind. A row for no switches always holds.
unfoldable pub holds : List ℕ → List ℕ → GuardRow → Bool
holds kinds values row = each_below (value_fits kinds values row) (length kinds)

-- The rows of variants stand one after the other. The variant that fits is that of the first row that holds: the first variant with such a row, counted from a number on.
unfoldable pub fitting : (GuardRow → Bool) → ℕ → List VariantRow → List GuardRow → Option ℕ
fitting test n [] rows = None
fitting test n (variant ∷ variants) rows =
    if list_any test (take variant.guards rows) then Some n else fitting test (suc n) variants (drop variant.guards rows)
