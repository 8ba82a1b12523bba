-- Where two texts differ.
use Rattle.std.specs.Prelude.{ℕ, ◌≡◌, ◌≢◌, ◌+◌, ◌*◌, ◌==◌, if◌then◌else◌, List, [], ◌∷◌, slice_get, Some}
pub use Rattle.mv_num.specs.Regions.{text_start}
use Rattle.mv_patch.specs.declared.prepared.Pair.{Pair}

-- the address of a word of text by its index
abbrev pub place : ℕ → ℕ
place k = text_start + 4 * k

abbrev pub pair_of : (address word : ℕ) → Pair
pair_of address word = record { address = address; word = word }

-- the pairs at which two texts differ, with the words of the second; the first word of both stands at an address
unfoldable pub differing : (at : ℕ) → (old new : List ℕ) → List Pair
differing at [] new = []
differing at (o ∷ old) [] = []
differing at (o ∷ old) (n ∷ new) = if o == n then differing (at + 4) old new else (pair_of at n ∷ differing (at + 4) old new)

-- the pairs that make one text the other
abbrev pub pairs_between : (old new : List ℕ) → List Pair
pairs_between old new = differing text_start old new

-- A pair stands where two texts differ, with the word of the second.
pub record IsDifference (old new : List ℕ) (pair : Pair) : Type 0 where
  pub index : ℕ
  pub address : pair.address ≡ place index
  pub word : ℕ
  pub before : slice_get old index ≡ Some word
  pub after : slice_get new index ≡ Some pair.word
  pub differs : word ≢ pair.word
