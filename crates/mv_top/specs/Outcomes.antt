-- What each status of a command says, and when it may come.
use Rattle.std.specs.Prelude.{ℕ, ◌≡◌, List, [], Result, Ok, Err}
use Rattle.std.specs.declared.alloc.AllocError.{AllocError}
use Rattle.mv_bindings.specs.declared.binding.Event.{Event}
use Rattle.mv_command.specs.Commands.{Asked, Runs, Builds, Executes, Lists, Evaluates, Generates, Converts, Disassembles, Checks, Prints, IsCommand, IsNoCommand}
use Rattle.mv_refine.specs.Environment.{Writing}
use Rattle.mv_notes.specs.Lines.{Noted}
use Rattle.mv_notes.specs.declared.notes.Performed.{Performed}
use Rattle.mv_notes.specs.declared.status.Status.{Status}
use Rattle.mv_notes.specs.declared.status.Status.TheVariants.{Usage, Memory, Done}
use Rattle.mv_top.specs.Building.{BuildsFile}
use Rattle.mv_top.specs.Checking.{ChecksFile}
use Rattle.mv_top.specs.Converting.{ConvertsFile}
use Rattle.mv_top.specs.Decisions.{Quiet, Decides}
use Rattle.mv_top.specs.Evaluating.{EvaluatesFile}
use Rattle.mv_top.specs.Executing.{ExecDoes}
use Rattle.mv_top.specs.Generating.{GenDoes}
use Rattle.mv_top.specs.Listing.{DisassemblesFile, ListsFile}
use Rattle.mv_top.specs.Outside.{Outside, KeepsFiles, OfFile, Untouched, Writes}
use Rattle.mv_top.specs.Running.{RunDoes}
use Rattle.mv_top.specs.Uses.{Uses}

-- ---- what was performed

-- the status that is due, and the lines that are asked for
pub record IsDue (Comes : (lines : List ℕ) → Status → Type 0) : Type 0 where
  pub lines : List ℕ
  pub status : Status
  pub comes : Comes lines status

-- what was performed came so, or there was no memory for its lines
abbrev pub Performs : (Comes : (lines : List ℕ) → Status → Type 0) → Result Performed AllocError → Type 0
Performs Comes (Ok performed) = Comes performed.lines.items performed.status
Performs Comes (Err e) = IsDue Comes

-- ---- a command

-- `Heard events`: the probes were told these events
module _ (before after : Outside) (Heard : List Event → Type 0) where
  -- no probe is told anything, and no lines are asked for
  abbrev pub Alone : (lines : List ℕ) → Type 0
  Alone lines = (lines ≡ []) × Heard []

  -- nothing is done
  abbrev pub Idle : (lines : List ℕ) → Type 0
  Idle lines = Untouched before after × Alone lines

  -- What comes of each command before its notes are written: the lines that it is asked for, and each status with its cause, and with what was taken from the
  -- input, written, saved and told.
  abbrev pub Does : Asked → (lines : List ℕ) → Status → Type 0
  Does (Runs file options) lines status =
      OfFile before after (Idle lines) file (λ text s. RunDoes before.environment after.environment Heard options text lines s) status × KeepsFiles before after
  Does (Builds file image) lines status = BuildsFile before after file image status × Alone lines
  Does (Executes file options) lines status =
      OfFile before after (Idle lines) file (λ bytes s. ExecDoes before.environment after.environment Heard options bytes lines s) status × KeepsFiles before after
  Does (Lists file words) lines status = ListsFile before after file words status × KeepsFiles before after × Alone lines
  Does (Evaluates file bound) lines status = EvaluatesFile before after file bound status × KeepsFiles before after × Alone lines
  Does (Generates number source) lines status =
      GenDoes before.environment after.environment Heard number source status × (after.environment.input ≡ before.environment.input) × KeepsFiles before after × (lines ≡ [])
  Does (Converts conversion from to) lines status = ConvertsFile before after conversion from to status × Alone lines
  Does (Disassembles file) lines status = DisassemblesFile before after file status × KeepsFiles before after × Alone lines
  Does (Checks file image) lines status = ChecksFile before after file image status × KeepsFiles before after × Alone lines
  Does (Prints text) lines status =
      Writes before.environment after.environment text Done status × (after.environment.input ≡ before.environment.input) × (after.environment.way ≡ before.environment.way)
      × KeepsFiles before after × Alone lines

  -- and with each device used as it uses it
  abbrev pub Carries : Asked → (lines : List ℕ) → Status → Type 0
  Carries asked lines status = Does asked lines status × Uses before after asked status

  module _ (words : List (List ℕ)) where
    pub data Comes : (lines : List ℕ) → Status → Type 0 where
      -- nothing outside was asked for anything
      usage : IsNoCommand words → after ≡ before → Heard [] → Comes [] Usage
      -- nor was it where there was no memory to read the words
      unread : after ≡ before → Heard [] → Comes [] Memory
      done : (asked : Asked) (lines : List ℕ) (status : Status) → IsCommand words asked → Carries asked lines status → Comes lines status

    -- And behind the notes: the status that stands, once they were written, or could not be.
    pub record Gives (was is : Writing) (status : Status) : Type 0 where
      pub due : IsDue Comes
      pub noted : Noted due.lines due.status was.written is.written was.faults is.faults status

    -- A command was carried out: each status has its cause, and the cause its status where no count of faults rose.
    pub record IsCarriedOut (was is : Writing) (status : Status) : Type 0 where
      pub gives : Gives was is status
      pub decides : Quiet before after was is → Decides words before.shelf.files before.environment.input.left after.environment.input.left status
