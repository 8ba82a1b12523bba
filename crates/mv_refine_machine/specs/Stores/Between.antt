-- Text that is settled, and text between two others.
use Rattle.std.specs.Prelude.{ℕ, ◌≡◌, ◌≢◌, ◌-◌, ◌≤◌, ◌⊎◌, ◌==◌, ◌&&◌, not, Bool, true, false, List, [], ◌∷◌, ◌++◌, length, replicate, sum_by, slice_get, Some}
use Rattle.std.specs.List.{All, Contains}
use Rattle.mv_num.specs.Regions.{data_start}
use Rattle.mv_fetch.specs.Held.{Held, Room, choices, choices_of, older_at}
use Rattle.mv_rv32.specs.Stepping.{access}
use Rattle.mv_patch.specs.declared.prepared.Pair.{Pair}
use Rattle.mv_patch.specs.Pairs.{pair_of, place, pairs_between}
use Rattle.mv_patch.specs.Stores.{stored_all}

-- how many older words there are
abbrev pub count_older : List (List ℕ) → ℕ
count_older older = sum_by (λ (words : List ℕ). length words) older

-- What each memory keeps: each word of text has a list of older ones, and of the reserve so much is spare as the older words leave.
pub record IsWhole (room : Room) : Type 0 where
  pub size : length room.held.older ≡ length room.held.text
  pub spare : room.spare ≡ room.reserve - count_older room.held.older

-- Text is these words, each has one choice, and the whole reserve is spare.
pub record IsSettled (words : List ℕ) (room : Room) : Type 0 where
  pub text : room.held.text ≡ words
  pub older : room.held.older ≡ replicate (length words) []
  pub spare : room.spare ≡ room.reserve

-- ---- between two texts

-- A word of text has the old word alone, or the new one before the old one where they differ.
abbrev pub IsWordBetween : (old new : ℕ) → (choices : List ℕ) → Type 0
IsWordBetween old new choices = (choices ≡ old ∷ []) ⊎ ((old ≢ new) × (choices ≡ new ∷ old ∷ []))

pub record IsBetween (old new : List ℕ) (h : Held) : Type 0 where
  pub size : length new ≡ length old
  pub text : length h.text ≡ length old
  pub older : length h.older ≡ length old
  pub words : (k o n : ℕ) → slice_get old k ≡ Some o → slice_get new k ≡ Some n → IsWordBetween o n (choices_of (slice_get h.text k) (older_at h.older k))

-- the same as a test

abbrev pub is_word_between : (old new word : ℕ) → (older : List ℕ) → Bool
is_word_between old new word [] = word == old
is_word_between old new word (v ∷ []) = word == new && (v == old && not (old == new))
is_word_between old new word (v ∷ u ∷ older) = false

unfoldable pub are_between : (old new text : List ℕ) → (older : List (List ℕ)) → Bool
are_between [] [] [] [] = true
are_between (o ∷ old) (n ∷ new) (w ∷ text) (ws ∷ older) = is_word_between o n w ws && are_between old new text older
are_between _ _ _ _ = false

abbrev pub is_between : (old new : List ℕ) → Held → Bool
is_between old new h = are_between old new h.text h.older

-- ---- after some of the pairs

-- Of the pairs between two texts so many are stored into a settled text, and the others are left.
pub record IsStored (old new : List ℕ) (room : Room) (done left : List Pair) : Type 0 where
  pub between : IsBetween old new (stored_all room done).held
  -- Each word: it has the old one alone where no pair for it is stored, and where its pair is, the new one before the old one.
  pub each :
      (k o n : ℕ) → slice_get old k ≡ Some o → slice_get new k ≡ Some n →
      (All (λ (pair : Pair). pair.address ≢ place k) done × (choices (stored_all room done).held (place k) ≡ o ∷ []))
      ⊎ (Contains done (pair_of (place k) n) × (o ≢ n) × (choices (stored_all room done).held (place k) ≡ n ∷ o ∷ []))
  -- the two cases alone
  pub kept : (k o : ℕ) → slice_get old k ≡ Some o → All (λ (pair : Pair). pair.address ≢ place k) done → choices (stored_all room done).held (place k) ≡ o ∷ []
  pub put : (k n : ℕ) → Contains done (pair_of (place k) n) → (o : ℕ) × (slice_get old k ≡ Some o) × (slice_get new k ≡ Some n) × (o ≢ n) × (choices (stored_all room done).held (place k) ≡ n ∷ o ∷ [])
  -- a word that is the same in both texts has one choice
  pub same : (k w : ℕ) → slice_get old k ≡ Some w → slice_get new k ≡ Some w → choices (stored_all room done).held (place k) ≡ w ∷ []
  pub whole : IsWhole (stored_all room done)
  pub spare : (stored_all room done).spare ≡ room.reserve - length done
  pub reserve : (stored_all room done).reserve ≡ room.reserve
  pub globals : (stored_all room done).held.globals ≡ room.held.globals
  pub stack : (stored_all room done).held.stack ≡ room.held.stack
  pub plan : (stored_all room done).held.plan ≡ room.held.plan
  -- what is loaded from outside text
  pub loads : (a n : ℕ) → data_start ≤ a → access.load (stored_all room done) a n ≡ access.load room a n
  -- the machine's store of the next pair, for which there is room
  pub next : (pair : Pair) (later : List Pair) → left ≡ pair ∷ later → access.store (stored_all room done) pair.address 4 pair.word ≡ Some (stored_all room (done ++ pair ∷ []))
  pub roomy : (pair : Pair) (later : List Pair) → left ≡ pair ∷ later → length (pairs_between old new) ≤ room.reserve → 1 ≤ (stored_all room done).spare
  -- behind the last pair, and FENCE.I there
  pub all : left ≡ [] → (stored_all room done).held.text ≡ new
  pub fenced : left ≡ [] → IsSettled new (access.fence (stored_all room done))
