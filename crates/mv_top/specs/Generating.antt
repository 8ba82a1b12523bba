-- What comes of the program that is generated of a number.
use Rattle.std.specs.Prelude.{ℕ, ◌≡◌, ◌≤◌, Bool, true, false, List, [], ◌++◌, codes, length, IsTrue, Some, ◌⊎◌}
use Rattle.std.specs.Fmt.{decimal}
use Rattle.mv_bindings.specs.declared.binding.Event.{Event}
use Rattle.mv_gen.specs.Generated.{generated, functions}
use Rattle.mv_io.specs.Outside.{Rose}
use Rattle.mv_eval.specs.Grown.{Grew, GrewLess}
use Rattle.mv_refine.specs.Environment.{Environment, Reading, Writing, environment, reading}
use Rattle.mv_command.specs.declared.command.RunOptions.{RunOptions}
use Rattle.mv_command.specs.declared.oracles.Oracle.TheVariants.{Oldest}
use Rattle.mv_command.specs.Spelled.{default_steps}
use Rattle.mv_notes.specs.Lines.{status_text}
use Rattle.mv_notes.specs.declared.status.Status.{Status}
use Rattle.mv_notes.specs.declared.status.Status.TheVariants.{Ended, Trapped, Memory, OutputFault, Steps, Done}
use Rattle.mv_top.specs.Outside.{Writes}
use Rattle.mv_top.specs.Running.{RunDoes, Unused}

-- `gen NUMBER bytes B functions F` and the last line's text of the run
abbrev pub summary : (number : ℕ) → Status → List ℕ
summary number status =
    codes "gen " ++ (decimal number ++ (codes " bytes " ++ (decimal (length (generated number)) ++ (codes " functions " ++ (decimal (functions number) ++ (codes " " ++ (status_text status ++ codes "\n")))))))

-- it is run to the default limit, without an operator
abbrev pub plain : RunOptions
plain = record { steps = default_steps; items = []; oracle = Oldest; bindings = false; words = false; log = false; stats = false }

-- it has no input, which never fails
abbrev pub no_input : Reading
no_input = reading (Some []) 0

-- a run that ended, trapped or used up its steps is summed up
abbrev pub is_summed_up : Status → Bool
is_summed_up (Ended status) = true
is_summed_up (Trapped code) = true
is_summed_up Steps = true
is_summed_up other = false

-- and one for which there was no memory, or that failed to write, is not; its text is never refused
abbrev pub is_cut_short : Status → Bool
is_cut_short Memory = true
is_cut_short OutputFault = true
is_cut_short other = false

-- What is written behind the output of a run, and the status that then stands: the summary, where the run is summed up; or less of it, where a write failed; or
-- nothing, where there was no memory for it, or the run is not summed up.
pub data Sums (number : ℕ) (was is : Writing) (ran : Status) : Status → Type 0 where
  summed : IsTrue (is_summed_up ran) → Grew was.written is.written (summary number ran) → Sums number was is ran ran
  part : IsTrue (is_summed_up ran) → GrewLess was.written is.written (summary number ran) → Rose was.faults is.faults → Sums number was is ran OutputFault
  cut_short : IsTrue (is_cut_short ran) → is ≡ was → Sums number was is ran ran
  unmade : is ≡ was → Sums number was is ran Memory

-- `Heard events`: the probes were told these events
module _ (before after : Environment) (Heard : List Event → Type 0) where
  -- what comes of the run of a text without input, to the default limit and without an operator; or there was no memory for the lines that it isn't asked for
  pub record RunsPlainly (text : List ℕ) (status : Status) : Type 0 where
    pub stands : Status
    pub does : RunDoes (environment no_input before.output before.way) (environment no_input after.output after.way) Heard plain text [] stands
    pub is : (status ≡ stands) ⊎ (status ≡ Memory)

  module _ (number : ℕ) where
    -- What comes of the text that is generated.
    pub data ShowsText : Status → Type 0 where
      unmade : Unused before after Heard → ShowsText Memory
      shown : (status : Status) → Heard [] → Writes before after (generated number) Done status → ShowsText status

    -- What comes of its run: what comes of the run of that text on no input, and then of the summary.
    pub data RunsText : Status → Type 0 where
      unmade : Unused before after Heard → RunsText Memory
      ran : (between : Writing) (stands status : Status) →
          RunDoes (environment no_input before.output before.way) (environment no_input between after.way) Heard plain (generated number) [] stands →
          before.output.faults ≤ between.faults → between.faults ≤ after.output.faults → Sums number between after.output stands status → RunsText status

    abbrev pub GenDoes : (source : Bool) → Status → Type 0
    GenDoes true status = ShowsText status × (after.way ≡ before.way)
    GenDoes false status = RunsText status
