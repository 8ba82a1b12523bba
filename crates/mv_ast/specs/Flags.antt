-- Flags of what has numbers.
use Rattle.std.specs.Prelude.{ℕ, Bool, true, false, List, [], ◌∷◌, slice_set, slice_index_or}

-- what is behind the flags' end isn't set
abbrev pub is_set : List Bool → ℕ → Bool
is_set flags n = slice_index_or flags n false

-- the flags with those of some numbers set; a number behind their end sets none
abbrev pub flagged : List ℕ → List Bool → List Bool
flagged [] flags = flags
flagged (n ∷ ns) flags = flagged ns (slice_set flags n true)
