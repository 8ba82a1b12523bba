-- What each status of `mvharts` says, and when it may come.
use Rattle.std.specs.Prelude.{ℕ, ◌≡◌, ◌⊎◌, ◌+◌, ◌-◌, ◌<◌, List, [], ◌∷◌, Option, Some, None}
use Rattle.mv_io.specs.Outside.{CountAfter, Rose}
use Rattle.mv_io.specs.Shelves.{AsksFor, Files, Lacks}
use Rattle.mv_io.specs.declared.outside.ShelfError.{ShelfError}
use Rattle.mv_io.specs.declared.outside.ShelfError.TheVariants as shelf
use Rattle.mv_eval.specs.Grown.{Grew, GrewLess}
use Rattle.mv_front.specs.declared.refusal.Refusal.{Refusal}
use Rattle.mv_build.specs.Verdicts.{HasNoImage, IsBuiltFrom}
use Rattle.mv_build.specs.declared.built.Built.{Built}
use Rattle.mv_build.specs.declared.error.BuildError.{BuildError}
use Rattle.mv_build.specs.declared.error.BuildError.TheVariants as build
use Rattle.mv_machine.specs.Runs.{bytes_to_come}
use Rattle.mv_harts_runs.specs.Harts.{Harts, first_harts, harts_after}
use Rattle.mv_harts_turns.specs.Runs.{turns_by}
use Rattle.mv_harts_words.specs.Asked.{Asked, IsAsked, IsNotAsked}
use Rattle.mv_harts_words.specs.Schedules.{schedule_of}
use Rattle.mv_notes.specs.Lines.{names_output, names_shelf, Noted}
use Rattle.mv_notes.specs.declared.status.Status.{Status}
use Rattle.mv_notes.specs.declared.status.Status.TheVariants.{Usage, Refused, Memory, OutputFault, ShelfFault, Done}
use Rattle.mv_harts.specs.HartsRan.{IsKept}
use Rattle.mv_harts.specs.Texts.{text_of}

-- the status of a load that gave nothing
abbrev pub status_of_shelf : ShelfError → Status
status_of_shelf shelf.Failed = ShelfFault
status_of_shelf (shelf.Memory e) = Memory

-- the status of a text that has no image
abbrev pub status_of_build : BuildError → Status
status_of_build (build.Refused r) = Refused r
status_of_build (build.Memory e) = Memory

-- ---- what a command is carried out on

-- what an output tells as written, and its count of faults
pub record Output : Type 0 where
  pub written : Option (List ℕ)
  pub faults : ℕ

-- by its parts in their order
abbrev pub output : Option (List ℕ) → ℕ → Output
output written faults = record { written = written; faults = faults }

-- the files that a shelf tells, the names that it tells loads were asked for, its count of faults, and the output
pub record Around : Type 0 where
  pub files : Option Files
  pub asked : Option (List (List ℕ))
  pub faults : ℕ
  pub out : Output

-- by its parts in their order
abbrev pub around : Option Files → Option (List (List ℕ)) → ℕ → Output → Around
around files asked faults out = record { files = files; asked = asked; faults = faults; out = out }

-- the file has these bytes, where the shelf tells its files
abbrev pub Holds : Option Files → (file bytes : List ℕ) → Type 0
Holds None file bytes = Unit {0}
Holds (Some files) file bytes = files file ≡ Some bytes

-- ---- the run

-- These are the harts of the run that words ask for, of what was built: each hart has one byte to read, the digit that is its number, hart 0 has no actions, and no
-- device fails. All that is promised of such a run holds.
pub record IsRunOf (built : Built) (asked : Asked) (hs : Harts) : Type 0 where
  pub bytes : ℕ → List ℕ
  pub digit : (h : ℕ) → h < asked.count → bytes h ≡ (48 + h) ∷ []
  pub run : hs ≡ harts_after (first_harts built.image (λ h. bytes_to_come (bytes h)) (asked.count - 1) []) (turns_by (schedule_of asked.count asked.number asked.turns) [])
  pub kept : IsKept built.program built.image bytes hs

-- ---- what comes of it

module _ (was is : Output) where
  -- of the text of a program
  pub data TextComes (asked : Asked) (text : List ℕ) : Status → Type 0 where
    -- there was no memory to read it as a program, to compile it, to run it or for the text of the run
    unmade : is ≡ was → TextComes asked text Memory
    refused : (r : Refusal) → HasNoImage text r → is ≡ was → TextComes asked text (Refused r)
    -- the text of one run of one image that is built of it was written
    ran : (built : Built) (hs : Harts) → IsBuiltFrom text built → IsRunOf built asked hs → Grew was.written is.written (text_of hs) → TextComes asked text Done
    -- or a part of it, and a write failed
    cut : (built : Built) (hs : Harts) → IsBuiltFrom text built → IsRunOf built asked hs → GrewLess was.written is.written (text_of hs) → Rose was.faults is.faults → TextComes asked text OutputFault

module _ (before after : Around) where
  -- the shelf tells the files that it told
  abbrev pub KeepsFiles : Type 0
  KeepsFiles = after.files ≡ before.files

  -- nothing is done
  abbrev pub Untouched : Type 0
  Untouched = (after.out ≡ before.out) × KeepsFiles

  -- of the file: the shelf failed, or has no such file, or there was no memory to load it; or it gave the text
  pub data FileComes (asked : Asked) : Status → Type 0 where
    no_file : Rose before.faults after.faults ⊎ Lacks before.files asked.file → Untouched → FileComes asked ShelfFault
    unloaded : Untouched → FileComes asked Memory
    loaded : (text : List ℕ) (status : Status) → Holds before.files asked.file text → TextComes before.out after.out asked text status → KeepsFiles → FileComes asked status

  -- The file is loaded once, and no other. Each count of faults stands as it was, but for that of the device that the status names, which is one more at most.
  pub record Uses (asked : Asked) (status : Status) : Type 0 where
    pub asks : AsksFor before.asked after.asked asked.file
    pub shelf : CountAfter (names_shelf status) before.faults after.faults
    pub output : CountAfter (names_output status) before.out.faults after.out.faults

  module _ (words : List (List ℕ)) where
    -- of the words
    pub data Comes : Status → Type 0 where
      -- nothing outside was asked for anything
      usage : IsNotAsked words → after ≡ before → Comes Usage
      -- nor was it where there was no memory to read them
      unread : after ≡ before → Comes Memory
      done : (asked : Asked) (status : Status) → IsAsked words asked → FileComes asked status → Uses asked status → Comes status

    -- A command was carried out: the status that is due has its cause, and the notes got its last line, or that could not be made or written and the status says so.
    pub record IsCarriedOut (was is : Output) (status : Status) : Type 0 where
      pub due : Status
      pub comes : Comes due
      pub noted : Noted [] due was.written is.written was.faults is.faults status
