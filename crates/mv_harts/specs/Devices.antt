-- What the harts of `mvharts` read from and write to.
use Rattle.std.specs.Prelude.{ℕ, zero, suc, ◌+◌, List, [], ◌∷◌, ◌++◌, Option, Some, None}
use Rattle.mv_harts.specs.declared.devices.OneByte.{OneByte}

-- the byte, if there is one
abbrev pub byte_list : Option ℕ → List ℕ
byte_list None = []
byte_list (Some b) = b ∷ []

-- what a source of one byte has left
abbrev pub left_of : OneByte → List ℕ
left_of source = byte_list source.byte

-- a source of the digit that is the number, for each of so many harts
unfoldable pub first_sources : ℕ → List OneByte
first_sources zero = []
first_sources (suc n) = first_sources n ++ record { byte = Some (48 + n) } ∷ []
