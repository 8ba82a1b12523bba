-- What comes of the check whether a file is the image of a text.
use Rattle.std.specs.Prelude.{ℕ, ◌≡◌, List, ◌∷◌, option_map}
use Rattle.mv_convert.specs.Differences.{IsFirstDifference}
use Rattle.mv_io.specs.Shelves.{AsksFor}
use Rattle.mv_notes.specs.declared.status.Status.{Status}
use Rattle.mv_notes.specs.declared.status.Status.TheVariants.{Differs, Done}
use Rattle.mv_top.specs.Building.{IsBuiltAs, IsUnbuilt}
use Rattle.mv_top.specs.Outside.{Outside, Holds, OfFile, Untouched}

-- These bytes are the image that is due, or this is the first offset at which they aren't.
pub data CompareDoes (due bytes : List ℕ) : Status → Type 0 where
  same : bytes ≡ due → CompareDoes due bytes Done
  different : (offset : ℕ) → IsFirstDifference due bytes offset → CompareDoes due bytes (Differs offset)

module _ (before after : Outside) where
  -- What comes of a text whose image is compared with the file of a name.
  pub data CheckDoes (image text : List ℕ) : Status → Type 0 where
    unbuilt : (status : Status) → IsUnbuilt text status → CheckDoes image text status
    built : (due : List ℕ) (status : Status) → IsBuiltAs text due → OfFile before after (Unit {0}) image (CompareDoes due) status → CheckDoes image text status

  -- Nothing changes.
  abbrev pub ChecksFile : (file image : List ℕ) → Status → Type 0
  ChecksFile file image status =
      OfFile before after (Untouched before after) file (λ text s. CheckDoes image text s × (after.environment ≡ before.environment)) status

  -- The text is loaded once, and behind it the file of the other name once, where the text has an image.
  pub data AsksToCheck (file image : List ℕ) : Type 0 where
    text_alone : AsksFor before.shelf.asked after.shelf.asked file → AsksToCheck file image
    both : (text due : List ℕ) → Holds before.shelf.files file text → IsBuiltAs text due →
        after.shelf.asked ≡ option_map (λ names. image ∷ file ∷ names) before.shelf.asked → AsksToCheck file image
