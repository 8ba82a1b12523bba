-- The list of what the operator does: items `K:NAME=VALUE`, joined by commas.
use Prim.Native.Char.{code}
use Rattle.std.specs.Prelude.{ℕ, ℤ, pos, negsuc, ◌≡◌, ◌≢◌, ◌<◌, ◌≤◌, ◌++◌, Bool, false, ◌==◌, ◌&&◌, ◌||◌, List, [], ◌∷◌, map, All, IsTrue, codes}
use Rattle.std.specs.Char.{is_ascii_alphabetic, is_ascii_digit}
use Rattle.std.specs.List.{list_all, join_with_byte}
use Rattle.std.specs.Fmt.{decimal, signed_decimal}
use Rattle.mv_command.specs.declared.items.Item.{Item}
use Rattle.mv_command.specs.Spelled.{most_poll, most_value, least_value}

-- a letter or `_`
abbrev pub is_letter : ℕ → Bool
is_letter b = is_ascii_alphabetic b || b == code "_"

abbrev pub is_name_byte : ℕ → Bool
is_name_byte b = is_letter b || is_ascii_digit b

-- a letter or `_`, and then letters, digits and `_`
abbrev pub is_name : List ℕ → Bool
is_name [] = false
is_name (b ∷ rest) = is_letter b && list_all is_name_byte rest

-- a number that is a value of some integer type
abbrev pub IsValue : ℤ → Type 0
IsValue (pos n) = n ≤ most_value
IsValue (negsuc n) = n < least_value

pub record IsItem (item : Item) : Type 0 where
  pub poll : item.poll ≤ most_poll
  pub name : IsTrue (is_name item.name)
  pub value : IsValue item.value

-- `K:NAME=VALUE`
abbrev pub item_text : Item → List ℕ
item_text item = decimal item.poll ++ (codes ":" ++ (item.name ++ (codes "=" ++ signed_decimal item.value)))

-- the polls ascend, from behind this one on
abbrev pub Ascend : ℕ → List Item → Type 0
Ascend last [] = Unit {0}
Ascend last (item ∷ rest) = (last < item.poll) × Ascend item.poll rest

-- the text is the list of these items, with a comma between each two
pub record IsList (text : List ℕ) (items : List Item) : Type 0 where
  pub spelled : text ≡ join_with_byte (code ",") (map item_text items)
  pub some : items ≢ []
  pub each : All IsItem items
  pub ascend : Ascend 0 items
