-- Where two files differ.
use Rattle.std.specs.Prelude.{ℕ, ◌≡◌, ◌≢◌, List, take, slice_get}

-- The bytes before an offset are the same, and at it they aren't, or one of the files has ended.
pub record IsFirstDifference (a b : List ℕ) (offset : ℕ) : Type 0 where
  pub before : take offset a ≡ take offset b
  pub at : slice_get a offset ≢ slice_get b offset
