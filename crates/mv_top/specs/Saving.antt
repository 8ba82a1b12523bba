-- What comes of a file of which another is made and saved.
use Rattle.std.specs.Prelude.{ℕ, ◌≡◌, List, Result, Ok, Err, IsErrOf, ⊤}
use Rattle.mv_io.specs.Shelves.{Saves}
use Rattle.mv_io.specs.declared.outside.ShelfError.{ShelfError}
use Rattle.mv_io.specs.declared.outside.ShelfError.TheVariants as shelf
use Rattle.mv_notes.specs.declared.status.Status.{Status}
use Rattle.mv_notes.specs.declared.status.Status.TheVariants.{Memory, ShelfFault, Done}
use Rattle.mv_top.specs.Outside.{Outside, KeepsFiles, OfFile, ShelfFailed, Untouched}

-- the status of a load or a save that gave nothing
abbrev pub status_of_shelf : ShelfError → Status
status_of_shelf shelf.Failed = ShelfFault
status_of_shelf (shelf.Memory e) = Memory

abbrev pub status_of_save : Result ⊤ ShelfError → Status
status_of_save (Ok done) = Done
status_of_save (Err e) = status_of_shelf e

module _ (before after : Outside) where
  -- What comes of what is to be made, and saved under a name. `Made bytes`: these are made. `Unmade status`: nothing is, and the status says why.
  pub data SaveDoes (name : List ℕ) (Made : (bytes : List ℕ) → Type 0) (Unmade : Status → Type 0) : Status → Type 0 where
    unmade : (status : Status) → Unmade status → KeepsFiles before after → SaveDoes name Made Unmade status
    -- the bytes were to be put under the name, and other names keep theirs
    made : (bytes : List ℕ) (result : Result ⊤ ShelfError) → Made bytes → Saves before.shelf.files after.shelf.files name bytes result →
        (IsErrOf result shelf.Failed → ShelfFailed before after) → SaveDoes name Made Unmade (status_of_save result)

  -- It is made of the bytes of a file. Input, output and oracle are as they were.
  abbrev pub SavesFile : (file name : List ℕ) → (Made : (bytes made : List ℕ) → Type 0) → (Unmade : (bytes : List ℕ) → Status → Type 0) → Status → Type 0
  SavesFile file name Made Unmade status =
      OfFile before after (Untouched before after) file (λ bytes s. SaveDoes name (Made bytes) (Unmade bytes) s × (after.environment ≡ before.environment)) status
