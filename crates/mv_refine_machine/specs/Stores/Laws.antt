-- Text between two bindings.
use Rattle.std.specs.Prelude.{ℕ, ◌≡◌, ◌≢◌, ◌+◌, ◌*◌, ◌≤◌, ◌↔◌, true, List, [], ◌∷◌, ◌++◌, length, replicate, slice_get, Some, None}
use Rattle.std.specs.List.{All}
use Rattle.mv_num.specs.Regions.{data_start, plan_words}
use Rattle.mv_fetch.specs.Held.{Held, Room, IsInText, choices, older_at}
use Rattle.mv_rv32.specs.Stepping.{access}
use Rattle.mv_image.specs.Spelling.{Fields}
use Rattle.mv_image.specs.Faults.{Rules}
use Rattle.mv_image.specs.Patched.{Bindings, entry_at, site_at, site_before, point_at, text_of, ShowsAt}
use Rattle.mv_patch.specs.declared.prepared.Pair.{Pair}
use Rattle.mv_patch.specs.Pairs.{place, pairs_between}
use Rattle.mv_patch.specs.Tables.{patchable}
use Rattle.mv_patch.specs.Stores.{stored_all}
use Rattle.mv_refine_machine.specs.Stores.Stores.{AreTexts, IsInRange}
use Rattle.mv_refine_machine.specs.Stores.Between.{count_older, IsWhole, IsSettled, IsBetween, is_between, IsStored}

abbrev pub PairsAreInRange : Type 0
PairsAreInRange = (old new : List ℕ) → AreTexts old new → All IsInRange (pairs_between old new)

-- What the text is after some of the pairs.
abbrev pub TextIsBetween : Type 0
TextIsBetween =
    (old new : List ℕ) → AreTexts old new → (room : Room) → IsSettled old room →
    (done left : List Pair) → done ++ left ≡ pairs_between old new → IsStored old new room done left

-- The test of text between two others tells what it stands for.
abbrev pub BetweenIsTested : Type 0
BetweenIsTested = (old new : List ℕ) (h : Held) → (is_between old new h ≡ true) ↔ IsBetween old new h

-- Each memory is whole.
pub record RoomsAreWhole : Type 0 where
  pub settles : (text : List ℕ) (room : Room) → IsWhole room → room.held.text ≡ text → ((k : ℕ) → older_at room.held.older k ≡ []) → IsSettled text room
  pub settled : (text : List ℕ) (room : Room) → IsSettled text room → IsWhole room
  pub store : (room room' : Room) (a n v : ℕ) → access.store room a n v ≡ Some room' → IsWhole room → IsWhole room'
  pub fence : (room : Room) → IsWhole (access.fence room)
  -- a settled text has one choice at each word
  pub one : (text : List ℕ) (room : Room) → IsSettled text room → place (length text) ≤ data_start → (k w : ℕ) → slice_get text k ≡ Some w → choices room.held (place k) ≡ w ∷ []
  -- between a text and itself is that text alone
  pub same : (text : List ℕ) (h : Held) → IsBetween text text h ↔ ((h.text ≡ text) × (h.older ≡ replicate (length text) []))

-- Where text is between two texts of an image, all of the reserve is spare that the older words don't take.
abbrev pub RoomIsLeft : Type 0
RoomIsLeft =
    (image : Fields) → Rules image → (some other : Bindings) (room : Room) → IsWhole room → room.reserve ≡ patchable image →
    IsBetween (text_of image some) (text_of image other) room.held → room.spare + count_older room.held.older ≡ patchable image

-- So a store into text, behind which text is between two texts of an image, doesn't want memory.
abbrev pub StoresFindRoom : Type 0
StoresFindRoom =
    (image : Fields) → Rules image → (some other : Bindings) (room room' : Room) (a n v : ℕ) → IsInText a → access.store room a n v ≡ Some room' →
    IsWhole room → room.reserve ≡ patchable image → IsBetween (text_of image some) (text_of image other) room'.held → 1 ≤ room.spare

-- No binding shows at an address.
pub record IsNeverPatched (image : Fields) (a : ℕ) : Type 0 where
  pub no_entry : entry_at image a ≡ None
  pub no_site : site_at image a ≡ None
  pub no_site_before : site_before image a ≡ None
  pub no_point : point_at image a ≡ None

-- For an image, any two bindings give two texts; their pairs stand where a function that is bound differently shows, and with their count in front they
-- fit into the plan area.
pub record TextsOf (image : Fields) (some other : Bindings) : Type 0 where
  pub texts : AreTexts (text_of image some) (text_of image other)
  pub fit : 1 + 2 * length (pairs_between (text_of image some) (text_of image other)) ≤ plan_words
  pub show : All (λ (pair : Pair). (f : ℕ) × (some f ≢ other f) × ShowsAt image f pair.address) (pairs_between (text_of image some) (text_of image other))
  -- the settled text of some of the bindings has one choice at each word at which no binding shows, whatever is stored so far
  pub plain :
      (room : Room) → IsSettled (text_of image some) room → (done left : List Pair) → done ++ left ≡ pairs_between (text_of image some) (text_of image other) →
      (k w : ℕ) → IsNeverPatched image (place k) → slice_get image.text k ≡ Some w → choices (stored_all room done).held (place k) ≡ w ∷ []

abbrev pub TextsOfImages : Type 0
TextsOfImages = (image : Fields) → Rules image → (some other : Bindings) → TextsOf image some other
