-- What comes of an image of which a text is written: its listing, its patch view, or its code as assembler text.
use Rattle.std.specs.Prelude.{ℕ, ◌≡◌, Bool, List}
use Rattle.mv_exec.specs.Loading.{IsBadImage}
use Rattle.mv_image.specs.Faults.{Spells}
use Rattle.mv_image.specs.Spelling.{Fields}
use Rattle.mv_notes.specs.declared.status.Status.{Status}
use Rattle.mv_notes.specs.declared.status.Status.TheVariants.{Memory, BadImage, Done}
use Rattle.mv_refine.specs.Environment.{Environment}
use Rattle.mv_top.specs.Outside.{Outside, OfFile, Untouched, Writes}
use Rattle.mv_top.specs.Shown.{shown_by_list, text_shown}
use Rattle.mv_top.specs.declared.list.Shown.TheVariants.{Assembler}

-- What comes of bytes that are to be read as an image, and this text of it written.
module _ (text_of : Fields → List ℕ) where
  module _ (before after : Environment) where
    pub data ShowDoes (bytes : List ℕ) : Status → Type 0 where
      -- there was no memory to read them as an image, or for its text
      unlisted : after ≡ before → ShowDoes bytes Memory
      no_image : (code offset : ℕ) → IsBadImage bytes code offset → after ≡ before → ShowDoes bytes (BadImage code offset)
      -- its text was written
      listed : (image : Fields) (status : Status) → Spells bytes image → Writes before after (text_of image) Done status → ShowDoes bytes status

  module _ (before after : Outside) where
    -- Nothing but the output changes.
    abbrev pub ShowsFile : (file : List ℕ) → Status → Type 0
    ShowsFile file status =
        OfFile before after (Untouched before after) file
        (λ bytes s. ShowDoes before.environment after.environment bytes s × (after.environment.input ≡ before.environment.input) × (after.environment.way ≡ before.environment.way)) status

abbrev pub ListsFile : (before after : Outside) (file : List ℕ) → (words : Bool) → Status → Type 0
ListsFile before after file words status = ShowsFile (text_shown (shown_by_list words)) before after file status

abbrev pub DisassemblesFile : (before after : Outside) (file : List ℕ) → Status → Type 0
DisassemblesFile before after file status = ShowsFile (text_shown Assembler) before after file status
