-- Temporaries in words of 64 bits.
use Rattle.std.specs.Prelude.{ℕ, ◌/◌, ◌%◌, Bool, List, eqb, slice_index}
use Rattle.std.specs.Int.{bit_at}

-- whether the bit of a temporary is set in the word that has it
unfoldable pub in_word : ℕ → ℕ → Bool
in_word word t = eqb (bit_at word (t % 64)) 1

-- the same of words, of which those past the end are 0
abbrev pub word_bit : List ℕ → ℕ → Bool
word_bit words t = in_word (slice_index words (t / 64)) t
