-- From the contract of the machine to the one run that was made.
use Rattle.std.proofs.Common.{◌≡◌, ℕ, Bool, Option, List, [], ◌++◌, length, None, refl, ap, ◌∙◌, subst}
use Rattle.std.specs.Prelude.{option_map}
use Rattle.mv_bindings.specs.declared.action.Action.{Action}
use Rattle.mv_bindings.specs.declared.binding.Event.{Event}
use Rattle.mv_image.specs.Spelling.{Fields}
use Rattle.mv_isa.specs.declared.instr.Cause.{Cause}
use Rattle.mv_machine.specs.Acts.{PollActs, polls_of}
use Rattle.mv_machine.specs.declared.machine.Stopped.{Stopped}
use Rattle.mv_machine.specs.declared.machine.Stopped.TheVariants as answer
use Rattle.mv_machine.specs.Runs.{State, Stop, Going, Exit, Trap, Fault, Reads, Writes, bytes_to_come, first, runs}
use Rattle.mv_machine.specs.Snapshots.{Snapshot, kept, resumed, Under, CallsFor, WantsMemory, Reached, Whole, Faulted, Broken, Answered, HasCounted, Departs, Ran, Unless}
use Rattle.mv_probe.specs.Ways.{way_after}
use Rattle.mv_refine.specs.Environment.{Environment, OneRun, ReadFailed, WriteFailed}
use Rattle.mv_refine.specs.Run.{IsDone, StandsAfter, RanTo, FaultedAt, StandsBefore, Runs}
use Rattle.mv_machine.proofs.Starts.{first_state}

pub unless_fresh : (m : Snapshot) (s : State) (ran : Type 0) → m ≡ kept s None → Unless m.last ran → ran
unfolding kept
unless_fresh m s ran fresh h = rw (ap (λ (k : Snapshot). k.last) fresh) at h

-- a machine that was just started has its image
pub image_of : (m : Snapshot) (image : Fields) → m ≡ kept (first image [] (polls_of [])) None → m.image ≡ image
unfolding kept first
image_of m image fresh = ap (λ (k : Snapshot). k.image) fresh

-- what is kept of a state that a machine shows
shows : (s : State) (is : Snapshot) → is.image ≡ s.image → is.regs ≡ s.regs → is.pc ≡ s.pc → is.room ≡ s.room → is.bindings ≡ s.bindings → is ≡ kept s is.last
unfolding kept
shows s is i a b c d = rw (← i, ← a, ← b, ← c, ← d) refl

module _ (image : Fields) (polls : PollActs) (before after : Environment) (Told : List Event → Type 0) (is : Snapshot) (picks taken later : List ℕ)
    (way : after.way ≡ option_map (λ w. way_after w (length picks)) before.way) (under : Under before.way (first image (bytes_to_come (taken ++ later)) polls) picks) where
  abbrev At : State → Stop → Type 0
  At e stop = Reached e stop is (bytes_to_come later) before.output.written after.output.written Told

  abbrev state : (n : ℕ) → State
  state n = runs image (bytes_to_come (taken ++ later)) polls picks n

  done : (n : ℕ) (stop : Stop) → At (state n) stop → IsDone image polls before after Told is picks taken later n
  done n stop r = record {
    picked = under;
    way = way;
    output = r.output;
    left = r.input;
    heard = r.told;
    machine_is = shows (state n) is r.image r.regs r.pc r.memory r.bindings;
  }

  stands : (n : ℕ) (stop : Stop) → At (state n) stop → StandsAfter image polls before after Told is picks taken later stop n
  stands n stop r = record { done = done n stop r; stops = r.stopped }

  module _ (steps : ℕ) where
    abbrev begun : State
    begun = first image (bytes_to_come (taken ++ later)) polls

    whole : (stop : Stop) → Whole begun picks steps At stop → RanTo image polls before after Told is picks taken later stop steps
    whole stop w = record { stands = stands steps stop w.reached; each = w.picked }

    faulted : (pc : ℕ) (why : Cause) → Faulted begun picks steps At pc why → FaultedAt image polls before after Told is picks taken later pc why steps
    faulted pc why f = record { stands = stands steps (Fault why) f.reached; place = f.reached.pc ∙ f.place; each = f.picked }

    stuck : (Next Why : State → ℕ → Type 0) → ((s : State) (pick : ℕ) → Why s pick → Next s pick) → Broken begun picks steps At Why →
        StandsBefore image polls before after Told is picks taken later Next steps
    stuck Next Why why b = record {
      count = b.count;
      fewer = b.within;
      done = done b.count Going b.reached;
      each = b.picked;
      going = b.reached.stopped;
      next = why _ _ b.cause;
    }

    runs_by : (stopped : Stopped) → Answered stopped steps begun picks At (ReadFailed before after) (WriteFailed before after) →
        Runs image polls before after Told is picks taken later steps stopped
    runs_by (answer.Ended status) a = whole (Exit status) a
    runs_by (answer.Trapped code) a = whole (Trap code) a
    runs_by answer.Steps a = whole Going a
    runs_by answer.InputFault a = (stuck (λ s pick. CallsFor s pick Reads) (λ s pick. CallsFor s pick Reads × ReadFailed before after) (λ s pick w. w.0) a, a.cause.1)
    runs_by answer.OutputFault a = (stuck (λ s pick. CallsFor s pick Writes) (λ s pick. CallsFor s pick Writes × WriteFailed before after) (λ s pick w. w.0) a, a.cause.1)
    runs_by (answer.Fault pc why) a = faulted pc why a
    runs_by answer.Memory a = stuck WantsMemory WantsMemory (λ s pick w. w) a

-- ---- the answers of the machine

module _ (image : Fields) (actions : List Action) (before after : Environment) (steps : ℕ) (stopped : Stopped) (count : ℕ) (places : Bool) (place : Option ℕ) (Told : List Event → Type 0) (was is : Snapshot)
    (fresh : was ≡ kept (first image [] (polls_of [])) None)
    (ran : Ran steps stopped count places place was is actions before.input.left after.input.left before.output.written after.output.written before.way after.way
    (ReadFailed before after) (WriteFailed before after) Told) where
  abbrev polls : PollActs
  polls = polls_of actions

  pub made : OneRun before after (λ picks taken later.
      Runs image (polls_of actions) before after Told is picks taken later steps stopped × HasCounted stopped steps (first image (bytes_to_come (taken ++ later)) (polls_of actions)) picks count
      × Departs places place (first image (bytes_to_come (taken ++ later)) (polls_of actions)) picks count)
  made = (
    ran.picks,
    (
      ran.run.0,
      ran.run.1,
      λ later may.
          let taken = ran.run.0 in
          let r = ran.run.2 later may in
          let input = bytes_to_come (taken ++ later) in
          let start : resumed was input actions ≡ first image input polls = ap (λ (m : Snapshot). resumed m input actions) fresh ∙ first_state image input actions in (
            runs_by image polls before after Told is ran.picks taken later ran.way_is (subst (λ (s : State). Under before.way s ran.picks) start r.0) steps stopped
                (subst (λ (s : State). Answered stopped steps s ran.picks (λ e stop. Reached e stop is (bytes_to_come later) before.output.written after.output.written Told) (ReadFailed before after) (WriteFailed before after)) start r.1),
            subst (λ (s : State). HasCounted stopped steps s ran.picks count) start r.2,
            subst (λ (s : State). Departs places place s ran.picks count) start r.3,
          ),
    ),
  )
