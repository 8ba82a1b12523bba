-- What a command is carried out on, and what comes of loading its file and of writing a text.
use Rattle.std.specs.Prelude.{ℕ, ◌≡◌, ◌⊎◌, List, Option, Some, None}
use Rattle.mv_io.specs.Outside.{Rose}
use Rattle.mv_io.specs.Shelves.{Files, Lacks}
use Rattle.mv_eval.specs.Grown.{GrewLess}
use Rattle.mv_refine.specs.Environment.{Environment, Wrote, WriteFailed}
use Rattle.mv_notes.specs.declared.status.Status.{Status}
use Rattle.mv_notes.specs.declared.status.Status.TheVariants.{Memory, OutputFault, ShelfFault}

-- a shelf: the files that it tells, the names that it tells loads were asked for, and its count of faults
pub record Shelved : Type 0 where
  pub files : Option Files
  pub asked : Option (List (List ℕ))
  pub faults : ℕ

abbrev pub shelved : Option Files → Option (List (List ℕ)) → ℕ → Shelved
shelved files asked faults = record { files = files; asked = asked; faults = faults }

-- what a command is carried out on: the shelf, and the input, the output and the oracle
pub record Outside : Type 0 where
  pub shelf : Shelved
  pub environment : Environment

abbrev pub outside : Shelved → Environment → Outside
outside shelf environment = record { shelf = shelf; environment = environment }

-- the file has these bytes, where the shelf tells its files
abbrev pub Holds : Option Files → (file bytes : List ℕ) → Type 0
Holds None file bytes = Unit {0}
Holds (Some files) file bytes = files file ≡ Some bytes

-- the shelf tells that the file has these bytes
abbrev pub Tells : Option Files → (file bytes : List ℕ) → Type 0
Tells None file bytes = ⊥
Tells (Some files) file bytes = files file ≡ Some bytes

-- A text was written to the output, and the status is the one that is due then; or less of it was written, and a write failed.
pub data Writes (before after : Environment) (text : List ℕ) (due : Status) : Status → Type 0 where
  whole : Wrote before after text → Writes before after text due due
  part : GrewLess before.output.written after.output.written text → WriteFailed before after → Writes before after text due OutputFault

module _ (before after : Outside) where
  -- a call of the shelf failed
  abbrev pub ShelfFailed : Type 0
  ShelfFailed = Rose before.shelf.faults after.shelf.faults

  -- the shelf tells the files that it told
  abbrev pub KeepsFiles : Type 0
  KeepsFiles = after.shelf.files ≡ before.shelf.files

  -- input, output, oracle and files are as they were
  abbrev pub Untouched : Type 0
  Untouched = (after.environment ≡ before.environment) × KeepsFiles

  -- What comes of a command that loads a file, over what comes of the bytes that it has: the shelf failed, or has no such file, or there was no memory to load
  -- it, and nothing was done (`Idle`); or it gave the bytes.
  pub data OfFile (Idle : Type 0) (file : List ℕ) (DoesWith : (bytes : List ℕ) → Status → Type 0) : Status → Type 0 where
    no_file : ShelfFailed ⊎ Lacks before.shelf.files file → Idle → OfFile Idle file DoesWith ShelfFault
    unloaded : Idle → OfFile Idle file DoesWith Memory
    loaded : (bytes : List ℕ) (status : Status) → Holds before.shelf.files file bytes → DoesWith bytes status → OfFile Idle file DoesWith status
