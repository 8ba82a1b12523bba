-- Words by their places, in parts of which each leads to two others.
use Rattle.std.specs.Prelude.{ℕ, zero, suc, ◌≡◌, ◌<◌, ◌≤◌, ◌/◌, ◌%◌, bit_or, cond, eqb, List, length, slice_index_or}
use Rattle.std.specs.List.{All}
use Rattle.mv_regalloc.specs.declared.joins.Join.{Join}
use Rattle.mv_regalloc.specs.declared.parts.Part.{Part}

-- a part without words
abbrev pub no_part : Part
no_part = record { word = 0; odd = 0; even = 0 }

abbrev pub part_at : List Part → ℕ → Part
part_at parts number = slice_index_or parts number no_part

-- the part that a place but 0 leads to
abbrev pub further : Part → ℕ → ℕ
further part place = cond (eqb (place % 2) 1) part.odd part.even

-- the word of a place, where the way to it has so many parts at most
abbrev pub word_within : List Part → ℕ → ℕ → ℕ → ℕ
word_within parts zero number place = 0
word_within parts (suc most) number zero = (part_at parts number).word
word_within parts (suc most) number (suc n) = word_within parts most (further (part_at parts number) (suc n)) (n / 2)

-- the word of a place
unfoldable pub word_of : List Part → ℕ → ℕ → ℕ
word_of parts number place = word_within parts (suc place) number place

-- each part leads to earlier ones, and the first has no words
pub record AreParts (parts : List Part) : Type 0 where
  pub some : 0 < length parts
  pub first : part_at parts 0 ≡ no_part
  pub odd : (number : ℕ) → 0 < number → (part_at parts number).odd < number
  pub even : (number : ℕ) → 0 < number → (part_at parts number).even < number

-- the words of each number are the same among more parts
pub record Keeps (parts more : List Part) : Type 0 where
  pub long : length parts ≤ length more
  pub words : (number place : ℕ) → number < length parts → word_of more number place ≡ word_of parts number place

-- a part has the bits of two
pub record IsJoin (parts : List Part) (one other made : ℕ) : Type 0 where
  pub first : one < length parts
  pub second : other < length parts
  pub within : made < length parts
  pub words : (place : ℕ) → word_of parts made place ≡ bit_or (word_of parts one place) (word_of parts other place)

-- the part without words, joined to itself
abbrev pub no_join : Join
no_join = record { one = 0; other = 0; made = 0 }

-- parts, and joins of them
pub record AreJoined (parts : List Part) (joins : List Join) : Type 0 where
  pub are : AreParts parts
  pub made : All (λ j. IsJoin parts j.one j.other j.made) joins
