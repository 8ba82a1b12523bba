-- What a run of an image is, and an execution of a program that was built.
use Rattle.std.specs.Prelude.{ℕ, ◌≡◌, Bool, List, [], ◌++◌, Result, Ok, Err}
use Rattle.std.specs.declared.alloc.AllocError.{AllocError}
use Rattle.mv_bindings.specs.declared.action.Action.{Action}
use Rattle.mv_bindings.specs.declared.binding.Event.{Event}
use Rattle.mv_ast.specs.declared.program.Program.{Program}
use Rattle.mv_ast.specs.Actions as source
use Rattle.mv_build.specs.declared.built.Built.{Built}
use Rattle.mv_image.specs.Spelling.{Fields}
use Rattle.mv_refine_machine.specs.Runs.Behaves.{BehavesAlways}
use Rattle.mv_machine.specs.Actions as machine
use Rattle.mv_machine.specs.Acts.{polls_of}
use Rattle.mv_machine.specs.Runs.{bytes_to_come, first}
use Rattle.mv_machine.specs.Snapshots.{HasCounted, Departs, Logs}
use Rattle.mv_machine.specs.declared.machine.Report.{Report}
use Rattle.mv_refine.specs.declared.execution.Execution.{Execution}
use Rattle.mv_io.specs.Outside.{AreToldBytes}
use Rattle.mv_refine.specs.Environment.{Environment, OneRun}
use Rattle.mv_refine.specs.Meant.{WroteAndTook, EndsInTime}
use Rattle.mv_refine.specs.Run.{Runs}

-- the same actions fit an image and a program
abbrev pub SameFit : Program → Fields → Type 0
SameFit p image = (action : Action) → machine.fits_rows image.switches action ≡ source.fits p action

-- the probes were told these events, and the log has them
abbrev pub HeardAs : (Heard : List Event → Type 0) → (log : List Event) → List Event → Type 0
HeardAs Heard log events = Heard events × (log ≡ events)

-- so many instructions of a run with these picks on these bytes were executed
abbrev pub HasCount : (image : Fields) (actions : List Action) (steps : ℕ) (picks bytes : List ℕ) → Report → Type 0
HasCount image actions steps picks bytes report = HasCounted report.stopped steps (first image (bytes_to_come bytes) (polls_of actions)) picks report.executed

-- where places are wanted the report has the departure of these instructions, and else none
abbrev pub HasDeparture : (image : Fields) (actions : List Action) (places : Bool) (picks bytes : List ℕ) → Report → Type 0
HasDeparture image actions places picks bytes report = Departs places report.departed (first image (bytes_to_come bytes) (polls_of actions)) picks report.executed

module _ (image : Fields) (actions : List Action) (places : Bool) (steps : ℕ) (before after : Environment) (Heard : List Event → Type 0) where
  -- one run of an image is what was done, with its log, the number of its instructions and their departure; or there was no memory before its first
  -- instruction, with all as before
  abbrev pub RunsImage : Result Execution AllocError → Type 0
  RunsImage (Ok e) = (log : List Event) × Logs e.report.log log × OneRun before after (λ picks taken later.
      Runs image (polls_of actions) before after (HeardAs Heard log) e.machine picks taken later steps e.report.stopped × HasCount image actions steps picks (taken ++ later) e.report
      × HasDeparture image actions places picks (taken ++ later) e.report)
  RunsImage (Err why) = (after ≡ before) × Heard []

module _ (built : Built) (actions : List Action) (places : Bool) (steps : ℕ) (before after : Environment) (Heard : List Event → Type 0) where
  -- One run of the image, with these picks on the bytes that were taken and those behind, is what was done. Where the image behaves as the program means, the same
  -- actions fit both, and the source tells nothing but bytes, this is what the program means with the actions on those bytes, at that number as its bound.
  pub record IsExecution (picks taken later : List ℕ) (e : Execution) : Type 0 where
    pub runs : Runs built.image (polls_of actions) before after Heard e.machine picks taken later steps e.report.stopped
    pub count : HasCount built.image actions steps picks (taken ++ later) e.report
    pub place : HasDeparture built.image actions places picks (taken ++ later) e.report
    pub does : BehavesAlways built.program built.image → SameFit built.program built.image → AreToldBytes before.input.left →
        WroteAndTook built.program built.image actions steps before after Heard e.machine taken later e.report.stopped
    pub decides : BehavesAlways built.program built.image → SameFit built.program built.image → AreToldBytes before.input.left →
        EndsInTime built.program actions steps before after (taken ++ later) e.report.stopped

module _ (built : Built) (actions : List Action) (places : Bool) (steps : ℕ) (before after : Environment) (Heard : List Event → Type 0) where
  -- an execution with its log, or want of memory before its first instruction, with all as before
  abbrev pub Executes : Result Execution AllocError → Type 0
  Executes (Ok e) = (log : List Event) × Logs e.report.log log × OneRun before after (λ picks taken later. IsExecution built actions places steps before after (HeardAs Heard log) picks taken later e)
  Executes (Err why) = (after ≡ before) × Heard []
