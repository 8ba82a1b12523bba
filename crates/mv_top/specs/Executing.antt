-- What comes of a run of an image that is loaded.
use Rattle.std.specs.Prelude.{ℕ, List, [], ◌++◌}
use Rattle.mv_bindings.specs.declared.action.Action.{Action}
use Rattle.mv_bindings.specs.declared.binding.Event.{Event}
use Rattle.mv_exec.specs.Loading.{IsBadImage}
use Rattle.mv_exec.specs.declared.error.LoadError.{LoadError}
use Rattle.mv_exec.specs.declared.error.LoadError.TheVariants as load
use Rattle.mv_image.specs.Faults.{Spells}
use Rattle.mv_image.specs.Spelling.{Fields}
use Rattle.mv_actions.specs.Operator.{IsImageActions, IsImageFirstWrong}
use Rattle.mv_refine.specs.declared.execution.Execution.{Execution}
use Rattle.mv_refine.specs.Environment.{Environment, OneRun}
use Rattle.mv_machine.specs.Acts.{polls_of}
use Rattle.mv_refine.specs.Execution.{HasCount, HasDeparture, HeardAs}
use Rattle.mv_refine.specs.Run.{Runs}
use Rattle.mv_command.specs.declared.command.RunOptions.{RunOptions}
use Rattle.mv_notes.specs.Lines.{asked_lines}
use Rattle.mv_notes.specs.declared.status.Status.{Status}
use Rattle.mv_notes.specs.declared.status.Status.TheVariants.{Refused, Memory, BadImage}
use Rattle.mv_top.specs.Counts.{Counts}
use Rattle.mv_top.specs.Running.{no_action, status_of_stop, Unused}

-- the status of bytes that are no image, or of items that are no actions of it
abbrev pub status_of_load : LoadError → Status
status_of_load (load.BadImage code offset) = BadImage code offset
status_of_load (load.Refused item) = Refused (no_action item)
status_of_load (load.Memory e) = Memory

-- `Heard events`: the probes were told these events
module _ (before after : Environment) (Heard : List Event → Type 0) where
  -- What comes of bytes that are to be run as an image, with the lines that the run is asked for: one run of the image that they spell, by the actions of the
  -- operator, with its log, the number of its instructions and their departure. Nothing is said of a source, for none is known.
  pub data ExecDoes (options : RunOptions) (bytes : List ℕ) : (lines : List ℕ) → Status → Type 0 where
    -- there was no memory to read them as an image, for the actions or to load it
    unread : Unused before after Heard → ExecDoes options bytes [] Memory
    no_image : (code offset : ℕ) → IsBadImage bytes code offset → Unused before after Heard → ExecDoes options bytes [] (BadImage code offset)
    wrong_item : (image : Fields) (item : ℕ) → Spells bytes image → IsImageFirstWrong image options.items item → Unused before after Heard →
        ExecDoes options bytes [] (Refused (no_action item))
    ran : (image : Fields) (actions : List Action) (e : Execution) (log : List Event) → Spells bytes image → IsImageActions image options.items actions →
        OneRun before after (λ picks taken later. Runs image (polls_of actions) before after (HeardAs Heard log) e.machine picks taken later options.steps e.report.stopped
        × HasCount image actions options.steps picks (taken ++ later) e.report × HasDeparture image actions options.stats picks (taken ++ later) e.report) →
        ExecDoes options bytes (asked_lines options image e.machine log e.report) (status_of_stop e.report.stopped)

  -- and no count of faults rose but that of the device that the status names
  abbrev pub ExecComes : RunOptions → (bytes lines : List ℕ) → Status → Type 0
  ExecComes options bytes lines status = ExecDoes options bytes lines status × Counts before after status
