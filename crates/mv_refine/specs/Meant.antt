-- What a run of an image does in its environment, by what its program means.
use Rattle.std.specs.Prelude.{ℕ, ◌≡◌, ◌+◌, ◌*◌, ◌^◌, ◌<◌, ◌≤◌, List, [], ◌∷◌, ◌++◌, length}
use Rattle.mv_ast.specs.declared.program.Program.{Program}
use Rattle.mv_bindings.specs.declared.action.Action.{Action}
use Rattle.mv_bindings.specs.declared.binding.Event.{Event}
use Rattle.mv_ast.specs.Counts.{instructions_per_work}
use Rattle.mv_image.specs.Patched.{text_of}
use Rattle.mv_image.specs.Spelling.{Fields}
use Rattle.mv_patch.specs.Orders.{values_of}
use Rattle.mv_machine.specs.Snapshots.{Snapshot}
use Rattle.mv_machine.specs.declared.machine.Stopped.{Stopped}
use Rattle.mv_machine.specs.declared.machine.Stopped.TheVariants.{Ended, Trapped, Steps, InputFault, OutputFault, Fault, Memory}
use Rattle.mv_meaning.specs.declared.meant.End.{End}
use Rattle.mv_meaning.specs.declared.meant.End.TheVariants.{Exit, Trap, More}
use Rattle.mv_meaning.specs.declared.meant.Meant.{Meant}
use Rattle.mv_meaning.specs.Growth.{Begins}
use Rattle.mv_meaning.specs.Meaning.{mean}
use Rattle.mv_refine.specs.Environment.{Environment, Wrote, ReadFailed, WriteFailed}

-- `Heard events`: the probes were told these events
module _ (before after : Environment) (Heard : List Event → Type 0) (machine : Snapshot) (taken : List ℕ) (m : Meant) where
  -- A meaning has this end, all its output was written, it takes as many bytes as were taken, its bindings are the machine's, in whose text the image
  -- stands as under them, and the probes were told its log.
  pub record DoesAll (image : Fields) (e : End) : Type 0 where
    pub ending : m.«end» ≡ e
    pub output : Wrote before after m.output
    pub input : m.taken ≡ length taken
    pub bindings : machine.bindings ≡ m.bindings
    pub text : machine.room.held.text ≡ text_of image (values_of m.bindings)
    pub heard : Heard m.log

  -- a piece was written with which a meaning's output begins, no more bytes were taken than the meaning takes, and the probes were told events
  -- with which its log begins
  pub record DoesPart (piece : List ℕ) : Type 0 where
    pub begins : Begins piece m.output
    pub output : Wrote before after piece
    pub few : length taken ≤ m.taken
    pub events : List Event
    pub logged : Begins events m.log
    pub heard : Heard events

-- so many instructions are time enough for all that is meant at a bound: `instructions_per_work` for each unit of its work, and as many more
abbrev pub IsEnough : Program → List Action → (bytes : List ℕ) → (steps bound : ℕ) → Type 0
IsEnough p actions bytes steps bound = instructions_per_work * (1 + (mean p bytes actions bound).work) ≤ steps

-- at each bound for which there was time, the meaning has not ended and its output was written
abbrev pub KeepsUp : Program → List Action → (bytes : List ℕ) → (steps : ℕ) → (piece : List ℕ) → Type 0
KeepsUp p actions bytes steps piece =
    (bound : ℕ) → IsEnough p actions bytes steps bound → ((mean p bytes actions bound).«end» ≡ More) × Begins (mean p bytes actions bound).output piece

-- on these bytes and any one more the meaning at the bound `steps` takes that one too
abbrev pub TakesMore : Program → List Action → (steps : ℕ) → (taken : List ℕ) → Type 0
TakesMore p actions steps taken = (byte : ℕ) → byte < 2 ^ 8 → length taken < (mean p (taken ++ byte ∷ []) actions steps).taken

-- the output of the meaning at that bound is longer than this piece
abbrev pub WritesMore : Program → List Action → (bytes : List ℕ) → (steps : ℕ) → (piece : List ℕ) → Type 0
WritesMore p actions bytes steps piece = length piece < length (mean p bytes actions steps).output

module _ (p : Program) (image : Fields) (actions : List Action) (steps : ℕ) (before after : Environment) (Heard : List Event → Type 0) (machine : Snapshot) (taken later : List ℕ) where
  -- what is meant at the bound `steps` on the bytes that were taken and those behind
  abbrev pub meant : Meant
  meant = mean p (taken ++ later) actions steps

  -- part of that
  abbrev pub Part : (piece : List ℕ) → Type 0
  Part piece = DoesPart before after Heard machine taken meant piece

  -- What was written and taken, by the answer. Where a device failed, the meaning reads or writes on. No answer is a fault or want of memory.
  abbrev pub WroteAndTook : Stopped → Type 0
  WroteAndTook (Ended status) = DoesAll before after Heard machine taken meant image (Exit status)
  WroteAndTook (Trapped code) = DoesAll before after Heard machine taken meant image (Trap code)
  WroteAndTook Steps = (piece : List ℕ) × Part piece × KeepsUp p actions (taken ++ later) steps piece
  WroteAndTook InputFault = (piece : List ℕ) × Part piece × ReadFailed before after × TakesMore p actions steps taken
  WroteAndTook OutputFault = (piece : List ℕ) × Part piece × WriteFailed before after × WritesMore p actions (taken ++ later) steps piece
  WroteAndTook (Fault pc why) = ⊥
  WroteAndTook Memory = ⊥

-- the answer is this end
abbrev pub IsAnswer : End → Stopped → Type 0
IsAnswer (Exit status) stopped = stopped ≡ Ended status
IsAnswer (Trap code) stopped = stopped ≡ Trapped code
IsAnswer More stopped = ⊥

module _ (p : Program) (actions : List Action) (steps : ℕ) (before after : Environment) where
  -- Where no count of faults rose, and there was time for all that is meant on these bytes at a bound at which the meaning has ended, the answer is that end.
  abbrev pub EndsInTime : (bytes : List ℕ) → Stopped → Type 0
  EndsInTime bytes stopped =
      (ReadFailed before after → ⊥) → (WriteFailed before after → ⊥) → (bound : ℕ) → IsEnough p actions bytes steps bound →
      ((mean p bytes actions bound).«end» ≡ More → ⊥) → IsAnswer (mean p bytes actions bound).«end» stopped
