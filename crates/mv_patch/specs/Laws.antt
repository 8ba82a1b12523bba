-- What plans are made of: the pairs of two texts, and the addresses that the tables of an image tell.
use Rattle.std.specs.Prelude.{ℕ, ◌≡◌, ◌≢◌, ◌<◌, ◌≤◌, List, [], length, slice_get, slice_index, slice_index_or, Some}
use Rattle.std.specs.List.{All, Contains}
use Rattle.mv_bindings.specs.declared.binding.Binding.{Binding}
use Rattle.mv_fetch.specs.Held.{Held}
use Rattle.mv_image.specs.Spelling.{Fields}
use Rattle.mv_image.specs.Faults.{Rules}
use Rattle.mv_image.specs.Patched.{Bindings, text_of, ShowsAt}
use Rattle.mv_patch.specs.declared.prepared.Pair.{Pair}
use Rattle.mv_patch.specs.Orders.{binding_count, bindings_ordered}
use Rattle.mv_patch.specs.Pairs.{place, pair_of, pairs_between, IsDifference}
use Rattle.mv_patch.specs.Tables.{patchable, patched_places, pairs_at}

-- A list of pairs has each difference of two texts.
abbrev pub HasDifferences : (old new : List ℕ) → List Pair → Type 0
HasDifferences old new pairs = (k o n : ℕ) → slice_get old k ≡ Some o → slice_get new k ≡ Some n → o ≢ n → Contains pairs (pair_of (place k) n)

-- Its addresses ascend.
abbrev pub Ascend : List Pair → Type 0
Ascend pairs = (i j : ℕ) (d : Pair) → i < j → j < length pairs → (slice_index_or pairs i d).address < (slice_index_or pairs j d).address

-- The pairs between two texts are all their differences and nothing else, by ascending addresses; where there is none, the texts are one.
pub record PairsAre (old new : List ℕ) : Type 0 where
  pub all : HasDifferences old new (pairs_between old new)
  pub only : All (IsDifference old new) (pairs_between old new)
  pub ascend : Ascend (pairs_between old new)
  pub none : length new ≡ length old → pairs_between old new ≡ [] → old ≡ new

abbrev pub PairsAreDifferences : Type 0
PairsAreDifferences = (old new : List ℕ) → PairsAre old new

-- They are the only such list.
abbrev pub PairsAreTheOnly : Type 0
PairsAreTheOnly = (old new : List ℕ) (pairs : List Pair) → HasDifferences old new pairs → All (IsDifference old new) pairs → Ascend pairs → pairs ≡ pairs_between old new

-- Addresses of words of a text of so many words, in ascending order.
pub record ArePlaces (count : ℕ) (places : List ℕ) : Type 0 where
  pub in_text : (i : ℕ) → i < length places → (k : ℕ) × (k < count) × (slice_index places i ≡ place k)
  pub ascend : (i j : ℕ) → i < j → j < length places → slice_index places i < slice_index places j

-- The pairs at such addresses are all pairs, where each address at which the texts differ is one of them; and there are no more than addresses.
pub record PairsAt (old new places : List ℕ) : Type 0 where
  pub few : length (pairs_at old new places) ≤ length places
  pub all :
      length new ≡ length old → ArePlaces (length old) places → ((k o n : ℕ) → slice_get old k ≡ Some o → slice_get new k ≡ Some n → o ≢ n → Contains places (place k)) →
      pairs_at old new places ≡ pairs_between old new

abbrev pub PairsAtPlaces : Type 0
PairsAtPlaces = (old new places : List ℕ) → PairsAt old new places

-- The entries, the words of the sites and those of the pointer sites, in order, are such addresses, as many as may be patched, and each at which a function or a
-- pointer switch shows is one of them.
pub record TablesTell (image : Fields) : Type 0 where
  pub count : length (patched_places image) ≡ patchable image
  pub places : Rules image → ArePlaces (length image.text) (patched_places image)
  pub shown : (f a : ℕ) → ShowsAt image f a → Contains (patched_places image) a

abbrev pub PlacesOfTables : Type 0
PlacesOfTables = (image : Fields) → TablesTell image

-- So the pairs of the texts of two bindings are those at these addresses, and no more than words that may be patched.
pub record PairsOfTables (image : Fields) (some other : Bindings) : Type 0 where
  pub tell : pairs_at (text_of image some) (text_of image other) (patched_places image) ≡ pairs_between (text_of image some) (text_of image other)
  pub few : length (pairs_between (text_of image some) (text_of image other)) ≤ patchable image

abbrev pub TablesTellPairs : Type 0
TablesTellPairs = (image : Fields) → Rules image → (some other : Bindings) → PairsOfTables image some other

-- An order leaves one binding for each function and each pointer switch.
abbrev pub OrdersKeepCount : Type 0
OrdersKeepCount = (image : Fields) (held : Held) (code index : ℕ) (bs : List Binding) → length bs ≡ binding_count image → length (bindings_ordered image held code index bs) ≡ binding_count image
