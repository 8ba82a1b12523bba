-- The numbers that stand in a file, the lowest byte first.
use Rattle.std.specs.Prelude.{ℕ, List}
use Rattle.byteorder.specs.Endian.{little_from}

-- the number in the two bytes from an offset on
unfoldable pub half_at : List ℕ → ℕ → ℕ
half_at bytes at = little_from at 2 bytes

-- the number in the four bytes from an offset on
unfoldable pub word_at : List ℕ → ℕ → ℕ
word_at bytes at = little_from at 4 bytes
