-- What is live where a walk stands, with the sets that it keeps, over sets that share their parts.
use Rattle.std.specs.Prelude.{ℕ, ◌/◌, ◌<◌, false, List, ◌∷◌, ◌++◌, drop, length, map, replicate, reverse, slice_index_or}
use Rattle.std.specs.List.{All, range_with_len}
use Rattle.mv_regalloc.specs.declared.liveness.Level.{Level}
use Rattle.mv_regalloc.specs.declared.liveness.Numbers.{Numbers}
use Rattle.mv_regalloc.specs.declared.liveness.Row.{Row}
use Rattle.mv_regalloc.specs.declared.liveness.Row.TheVariants.{Empty, Live, Saved, Behind, Start}
use Rattle.mv_regalloc.specs.declared.parts.Part.{Part}
use Rattle.mv_regalloc.specs.LiveBits.{in_word}
use Rattle.mv_regalloc.specs.Parts.{word_of}
use Rattle.mv_regalloc.specs.Rows.{Bits, Enclosing, inside, outside}

-- what is live, the sets put aside, the last one first, the levels around, and the rows that were marked, the last one
-- first, which is that of the first position
pub record LiveSets : Type 0 where
  pub live : Bits
  pub saved : List Bits
  pub around : Enclosing
  pub rows : List Bits

-- a row of these, which is empty where there is no such one
abbrev pub row_of : LiveSets → Row → Bits
row_of s Empty = s.around.none
row_of s Live = s.live
row_of s (Saved k) = slice_index_or s.saved k s.around.none
row_of s (Behind k) = slice_index_or s.around.leaves k s.around.none
row_of s (Start k) = slice_index_or s.around.restarts k s.around.none

abbrev pub with_live : LiveSets → Bits → LiveSets
with_live s bits = record s { live = bits }

abbrev pub with_rows : LiveSets → List Bits → LiveSets
with_rows s rows = record s { rows = rows ++ s.rows }

-- the same where something else is live, after the rows of some code before
abbrev pub walked : LiveSets → Bits → List Bits → LiveSets
walked s live rows = record s { live = live; rows = rows ++ s.rows }

abbrev pub with_saved : LiveSets → Bits → LiveSets
with_saved s bits = record s { saved = bits ∷ s.saved }

abbrev pub forgotten : LiveSets → LiveSets
forgotten s = record s { saved = drop 1 s.saved }

abbrev pub entered : LiveSets → Bits → Bits → LiveSets
entered s behind start = record s { around = inside s.around behind start }

abbrev pub left : LiveSets → LiveSets
left s = record s { around = outside s.around }

-- the numbers of the parts that stand for them
pub record Numbered : Type 0 where
  pub live : ℕ
  pub saved : List ℕ
  pub levels : List Level
  pub rows : List ℕ

abbrev pub numbered : Numbers → Numbered
numbered n = record { live = n.live; saved = n.saved.items; levels = n.levels.items; rows = n.rows.items }

-- and that of no temporaries
abbrev pub number_of : ℕ → Numbered → Row → ℕ
number_of none n Empty = none
number_of none n Live = n.live
number_of none n (Saved k) = slice_index_or (reverse n.saved) k none
number_of none n (Behind k) = slice_index_or (map (λ l. l.behind) (reverse n.levels)) k none
number_of none n (Start k) = slice_index_or (map (λ l. l.start) (reverse n.levels)) k none

-- the bits of so many temporaries, by the words of a part
abbrev pub bits_at : ℕ → List Part → ℕ → Bits
bits_at temps parts number = map (λ t. in_word (word_of parts number (t / 64)) t) (range_with_len 0 temps)

abbrev pub levels_at : ℕ → List Part → List Level → Enclosing
levels_at temps parts levels = record {
  none = replicate temps false;
  leaves = map (λ l. bits_at temps parts l.behind) (reverse levels);
  restarts = map (λ l. bits_at temps parts l.start) (reverse levels);
}

abbrev pub sets_at : ℕ → List Part → Numbered → LiveSets
sets_at temps parts n = record {
  live = bits_at temps parts n.live;
  saved = map (λ k. bits_at temps parts k) (reverse n.saved);
  around = levels_at temps parts n.levels;
  rows = map (λ k. bits_at temps parts k) (reverse n.rows);
}

-- each number is that of a part
pub record AreWithin (parts : List Part) (n : Numbered) : Type 0 where
  pub live : n.live < length parts
  pub saved : All (λ k. k < length parts) (reverse n.saved)
  pub behind : All (λ l. l.behind < length parts) (reverse n.levels)
  pub start : All (λ l. l.start < length parts) (reverse n.levels)
  pub rows : All (λ k. k < length parts) (reverse n.rows)
