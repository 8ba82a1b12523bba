-- What comes of a run of a text.
use Rattle.std.specs.Prelude.{ℕ, ◌≡◌, List, [], ◌++◌}
use Rattle.mv_bindings.specs.declared.action.Action.{Action}
use Rattle.mv_bindings.specs.declared.binding.Event.{Event}
use Rattle.mv_front.specs.Codes as refusals
use Rattle.mv_front.specs.Refusals.{counted}
use Rattle.mv_front.specs.declared.refusal.Refusal.{Refusal}
use Rattle.mv_refine.specs.Verdicts.{HasNoImage, IsBuiltFrom}
use Rattle.mv_refine.specs.Built.{Built}
use Rattle.mv_refine.specs.BuildError.{BuildError}
use Rattle.mv_refine.specs.BuildError.TheVariants as build
use Rattle.mv_machine.specs.declared.machine.Stopped.{Stopped}
use Rattle.mv_machine.specs.declared.machine.Stopped.TheVariants as stop
use Rattle.mv_refine.specs.declared.execution.Execution.{Execution}
use Rattle.mv_io.specs.Outside.{AreToldBytes}
use Rattle.mv_refine.specs.Environment.{Environment, OneRun}
use Rattle.mv_refine.specs.Execution.{HeardAs, IsExecution}
use Rattle.mv_command.specs.declared.items.Item.{Item}
use Rattle.mv_command.specs.declared.command.RunOptions.{RunOptions}
use Rattle.mv_actions.specs.Operator.{IsActions, IsFirstWrong}
use Rattle.mv_top.specs.Counts.{Counts}
use Rattle.mv_top.specs.WordLines.{CountsOn}
use Rattle.mv_notes.specs.Lines.{asked_lines}
use Rattle.mv_notes.specs.declared.status.Status.{Status}
use Rattle.mv_notes.specs.declared.status.Status.TheVariants.{Ended, Trapped, Refused, Memory, InputFault, OutputFault, Steps, MachineFault}
use Rattle.mv_top.specs.declared.run.Prepared.{Prepared}

-- ---- what is run

-- the refusal of an item that is no action of the program, by its number from 1
abbrev pub no_action : ℕ → Refusal
no_action item = counted refusals.action 0 item

-- A source isn't run for one of these causes: it has no image; or it has one, and this is the first item of the operator that is no action of its program.
pub data IsNotRun (text : List ℕ) (items : List Item) : Refusal → Type 0 where
  unbuilt : (r : Refusal) → HasNoImage text r → IsNotRun text items r
  wrong_item : (built : Built) (item : ℕ) → IsBuiltFrom text built → IsFirstWrong built.program items item → IsNotRun text items (no_action item)

-- the cause of each answer that is nothing to run
abbrev pub IsCause : List ℕ → List Item → BuildError → Type 0
IsCause text items (build.Refused r) = IsNotRun text items r
IsCause text items (build.Memory e) = Unit {0}

-- a source's image, and the actions of the operator that items are
pub record IsPrepared (text : List ℕ) (items : List Item) (prepared : Prepared) : Type 0 where
  pub built : IsBuiltFrom text prepared.built
  pub actions : IsActions prepared.built.program items prepared.actions.items

-- ---- statuses

-- the status of a run that has stopped
abbrev pub status_of_stop : Stopped → Status
status_of_stop (stop.Ended status) = Ended status
status_of_stop (stop.Trapped code) = Trapped code
status_of_stop stop.Steps = Steps
status_of_stop stop.InputFault = InputFault
status_of_stop stop.OutputFault = OutputFault
status_of_stop (stop.Fault pc why) = MachineFault pc why
status_of_stop stop.Memory = Memory

-- the status of a text that has no image
abbrev pub status_of_build : BuildError → Status
status_of_build (build.Refused r) = Refused r
status_of_build (build.Memory e) = Memory

-- ---- the run

-- `Heard events`: the probes were told these events
module _ (before after : Environment) (Heard : List Event → Type 0) where
  abbrev pub Unused : Type 0
  Unused = (after ≡ before) × Heard []

  -- What comes of the run of a text, with the lines that it is asked for: one run of one image that is built of it, by the actions of the operator. That gives
  -- the status, the lines, what was taken and written, and what the probes were told, which is the log, and it does what the program means on what was taken and
  -- whatever may come behind it; and the changed words have as many lines as the source says.
  pub data RunDoes (options : RunOptions) (text : List ℕ) : (lines : List ℕ) → Status → Type 0 where
    -- there was no memory to read it as a program, to compile or to load that
    unread : Unused → RunDoes options text [] Memory
    not_run : (r : Refusal) → IsNotRun text options.items r → Unused → RunDoes options text [] (Refused r)
    ran : (built : Built) (actions : List Action) (e : Execution) (log : List Event) → IsBuiltFrom text built → IsActions built.program options.items actions →
        OneRun before after (λ picks taken later. IsExecution built actions options.stats options.steps before after (HeardAs Heard log) picks taken later e
        × (AreToldBytes before.input.left → CountsOn built.program built.image actions options.steps e.machine (taken ++ later) e.report.stopped)) →
        RunDoes options text (asked_lines options built.image e.machine log e.report) (status_of_stop e.report.stopped)

  -- and no count of faults rose but that of the device that the status names
  abbrev pub RunComes : RunOptions → (text lines : List ℕ) → Status → Type 0
  RunComes options text lines status = RunDoes options text lines status × Counts before after status
