-- Temporaries told row by row: each gets the value of the first row that has it.
use Rattle.std.specs.Prelude.{ℕ, ◌≡◌, ◌+◌, ◌*◌, ◌/◌, ◌<◌, Bool, true, false, cond, not, ◌&&◌, ◌||◌, List, length, slice_index, slice_index_or, Some, None}
use Rattle.mv_regalloc.specs.declared.told.Firsts.{Firsts}
use Rattle.mv_regalloc.specs.declared.told.Places.{Places}
use Rattle.mv_regalloc.specs.declared.parts.Part.{Part}
use Rattle.mv_regalloc.specs.LiveBits.{in_word, word_bit}
use Rattle.mv_regalloc.specs.Parts.{word_of}

-- the second list is the first with a value at the selected places
pub record IsPut (selected : ℕ → Bool) (v : ℕ) (xs ys : List ℕ) : Type 0 where
  pub long : length ys ≡ length xs
  pub items : (t : ℕ) → t < length xs → slice_index ys t ≡ cond (selected t) v (slice_index xs t)

-- each temporary of a part has been told, where its words stand for a first place and those a step apart behind it
abbrev pub IsAllTold : List Part → ℕ → ℕ → ℕ → Firsts → Type 0
IsAllTold parts number first step s =
    (q t : ℕ) → t < length s.values → t / 64 ≡ first + step * q → in_word (word_of parts number q) t ≡ true → word_bit s.told t ≡ true

-- the places that are noted for parts are such
abbrev pub AreSeen : List Part → Firsts → Type 0
AreSeen parts s = (number : ℕ) (at : Places) → slice_index_or s.seen.items number None ≡ Some at → IsAllTold parts number at.first at.step s

-- some temporaries are told: those that hadn't been get a value
pub record AreTold (v : ℕ) (s s' : Firsts) : Type 0 where
  pub long : length s'.told ≡ length s.told
  pub values : IsPut (λ t. word_bit s'.told t && not (word_bit s.told t)) v s.values s'.values
  pub kept : (t : ℕ) → t < length s.values → word_bit s.told t ≡ true → word_bit s'.told t ≡ true

-- those of a part at such places are told, and no others
pub record IsPartTold (parts : List Part) (number first step v : ℕ) (s s' : Firsts) : Type 0 where
  pub told : AreTold v s s'
  pub all : IsAllTold parts number first step s'
  pub others : (t : ℕ) → t < length s.values → ((q : ℕ) → t / 64 ≡ first + step * q → in_word (word_of parts number q) t ≡ false) → word_bit s'.told t ≡ word_bit s.told t

-- the temporaries of a row are told: those that haven't been get a value
pub record IsRowTold (row : ℕ → Bool) (v : ℕ) (s s' : Firsts) : Type 0 where
  pub long : length s'.told ≡ length s.told
  pub values : IsPut (λ t. row t && not (word_bit s.told t)) v s.values s'.values
  pub told : (t : ℕ) → t < length s.values → word_bit s'.told t ≡ (row t || word_bit s.told t)
