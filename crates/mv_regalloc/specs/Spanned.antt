-- The spans of temporaries as they are counted from the end of a body.
use Rattle.std.specs.Prelude.{ℕ, suc, ◌≡◌, ◌<◌, Bool, true, cond, List, [], ◌∷◌, length, map, slice_index, slice_set, zero}
use Rattle.mv_ir.specs.Live.{mark_at, marks_length}
use Rattle.mv_regalloc.specs.Rows.{Bits}
use Rattle.mv_ast.specs.Names.{any_of}

-- for each temporary how many positions there are from its first one on, or 0 where it has none, and how many there
-- are behind its last one; of so many positions
pub record SpanTable : Type 0 where
  pub positions : ℕ
  pub begins : List ℕ
  pub ends : List ℕ

-- a temporary's marks
abbrev pub column : ℕ → List Bits → List Bool
column t = map (λ bits. mark_at bits t)

-- how many positions there are from the first marked one on: none where none is marked
abbrev pub from_first : List Bool → ℕ
from_first [] = 0
from_first (x ∷ xs) = cond x (suc (marks_length xs)) (from_first xs)

-- how many positions there are behind the last marked one
abbrev pub behind_last : List Bool → ℕ
behind_last [] = 0
behind_last (x ∷ xs) = cond (any_of xs) (behind_last xs) (cond x (marks_length xs) 0)

-- a count of the marks of each of the first n temporaries
pub record AreCounts (count : List Bool → ℕ) (rows : List Bits) (n : ℕ) (xs : List ℕ) : Type 0 where
  pub long : length xs ≡ n
  pub items : (t : ℕ) → t < n → slice_index xs t ≡ count (column t rows)

-- the spans of the first n temporaries by the rows of all positions
pub record AreRowSpans (rows : List Bits) (n : ℕ) (s : SpanTable) : Type 0 where
  pub positions : s.positions ≡ length rows
  pub begins : AreCounts from_first rows n s.begins
  pub ends : AreCounts behind_last rows n s.ends

-- the spans of the first n temporaries by their marks
pub record AreSpansOf (marks : ℕ → List Bool) (n : ℕ) (s : SpanTable) : Type 0 where
  pub positions : (t : ℕ) → s.positions ≡ marks_length (marks t)
  pub begins_long : length s.begins ≡ n
  pub ends_long : length s.ends ≡ n
  pub begins : (t : ℕ) → t < n → slice_index s.begins t ≡ from_first (marks t)
  pub ends : (t : ℕ) → t < n → slice_index s.ends t ≡ behind_last (marks t)

-- the bits with those of the first n temporaries set
abbrev pub with_params : ℕ → Bits → Bits
with_params zero bits = bits
with_params (suc n) bits = slice_set (with_params n bits) n true
