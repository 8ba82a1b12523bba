-- The stop that is told of a seat is that of its hart.
use Rattle.std.proofs.Common.{◌≡◌, ℕ, Bool, true, false, not, ◌&&◌, List, Option, Some, None, refl, sym, ap, ap₂, ◌∙◌, subst}
use Rattle.std.proofs.lemmas.Bool.{false≢true, true≢false}
use Rattle.mv_bindings.specs.declared.binding.Binding.{Binding}
use Rattle.mv_image.specs.Spelling.{Fields}
use Rattle.mv_io.specs.Outside.{CountAfter}
use Rattle.mv_isa.specs.declared.instr.Cause.{Cause}
use Rattle.mv_machine.specs.declared.machine.Stopped.{Stopped}
use Rattle.mv_machine.specs.declared.machine.Stopped.TheVariants as answer
use Rattle.mv_machine.specs.Moves.{input_failed, output_failed}
use Rattle.mv_machine.specs.Runs.{State, Stop, Going, Exit, Trap, Fault, is_going}
use Rattle.mv_harts_runs.specs.Harts.{Hart, is_on}
use Rattle.mv_harts_one.specs.declared.seat.Seat.{Seat}
use Rattle.mv_harts_one.specs.Seats.{IsHalt, IsBefore, has_failed}
use Rattle.mv_harts_one.specs.Seats as seats
use Rattle.mv_harts_turns.specs.Groups.{Counts, IsSeat}
use Rattle.mv_harts_turns.specs.Runs.{CountsOf, Outside}
use Rattle.mv_harts.specs.declared.ends.HartStop.{HartStop}
use Rattle.mv_harts.specs.declared.ends.HartStop.TheVariants as told
use Rattle.mv_harts.specs.declared.ends.HartEnd.{HartEnd}
use Rattle.mv_harts.specs.Ends.{IsEnd, Stops, end_of, is_fault, is_input_fault, is_output_fault, stop_of, stop_text}
use Rattle.mv_harts.specs.HartsRan.{Fails}
use Rattle.mv_harts.specs.Texts.{standing}

on : (o : Hart) → o.state.stop ≡ Going → o.failed ≡ false → is_on o ≡ true
on o s f = ap₂ (λ (stop : Stop) (failed : Bool). is_going stop && not failed) s f

-- where no fault comes
abbrev pub NeverFaults : Hart → Type 0
NeverFaults o = (why : Cause) → o.state.stop ≡ Fault why → ⊥

pub stops_right : (o : Hart) (waited : Bool) (stop : Option Stopped) → o.state.stop ≡ seats.stop_of stop → o.failed ≡ has_failed stop → o.waited ≡ waited → IsHalt stop → IsBefore stop o.state → NeverFaults o →
    Stops o (stop_of waited stop)
stops_right o true None s f w halts before never = (on o s f, w)
stops_right o false None s f w halts before never = (on o s f, w)
stops_right o waited (Some (answer.Ended status)) s f w halts before never = (f, s)
stops_right o waited (Some (answer.Trapped code)) s f w halts before never = (f, s)
stops_right o waited (Some answer.Steps) s f w halts before never = absurd halts
stops_right o waited (Some answer.InputFault) s f w halts before never = (f, before)
stops_right o waited (Some answer.OutputFault) s f w halts before never = (f, before)
stops_right o waited (Some (answer.Fault pc why)) s f w halts before never = absurd (never why s)
stops_right o waited (Some answer.Memory) s f w halts before never = absurd halts

pub end_right : (image : Fields) (commits : List (List Binding)) (number : ℕ) (bytes : List ℕ) (seat : Seat) (o : Hart) → IsSeat image commits number bytes seat o → NeverFaults o →
    IsEnd commits (end_of seat) o
end_right image commits number bytes seat o is never = record {
  instructions = sym is.sits.count;
  stop = stops_right o seat.waited seat.stop (ap (λ (s : State). s.stop) is.sits.state) is.sits.failed is.sits.waited is.sits.halts is.sits.before never;
  taken = is.took;
}

-- ---- faults

input_told : (waited : Bool) (stop : Option Stopped) → is_input_fault (stop_of waited stop) ≡ input_failed stop
input_told true None = refl
input_told false None = refl
input_told waited (Some (answer.Ended status)) = refl
input_told waited (Some (answer.Trapped code)) = refl
input_told waited (Some answer.Steps) = refl
input_told waited (Some answer.InputFault) = refl
input_told waited (Some answer.OutputFault) = refl
input_told waited (Some (answer.Fault pc why)) = refl
input_told waited (Some answer.Memory) = refl

output_told : (waited : Bool) (stop : Option Stopped) → is_output_fault (stop_of waited stop) ≡ output_failed stop
output_told true None = refl
output_told false None = refl
output_told waited (Some (answer.Ended status)) = refl
output_told waited (Some (answer.Trapped code)) = refl
output_told waited (Some answer.Steps) = refl
output_told waited (Some answer.InputFault) = refl
output_told waited (Some answer.OutputFault) = refl
output_told waited (Some (answer.Fault pc why)) = refl
output_told waited (Some answer.Memory) = refl

input_by : (waited : Bool) (stop : Option Stopped) → is_input_fault (stop_of waited stop) ≡ true → stop ≡ Some answer.InputFault
input_by true None e = absurd (false≢true e)
input_by false None e = absurd (false≢true e)
input_by waited (Some (answer.Ended status)) e = absurd (false≢true e)
input_by waited (Some (answer.Trapped code)) e = absurd (false≢true e)
input_by waited (Some answer.Steps) e = absurd (false≢true e)
input_by waited (Some answer.InputFault) e = refl
input_by waited (Some answer.OutputFault) e = absurd (false≢true e)
input_by waited (Some (answer.Fault pc why)) e = absurd (false≢true e)
input_by waited (Some answer.Memory) e = absurd (false≢true e)

input_fault : (waited : Bool) (stop : Option Stopped) → stop_of waited stop ≡ told.InputFault → stop ≡ Some answer.InputFault
input_fault waited stop e = input_by waited stop (ap is_input_fault e)

output_by : (waited : Bool) (stop : Option Stopped) → is_output_fault (stop_of waited stop) ≡ true → stop ≡ Some answer.OutputFault
output_by true None e = absurd (false≢true e)
output_by false None e = absurd (false≢true e)
output_by waited (Some (answer.Ended status)) e = absurd (false≢true e)
output_by waited (Some (answer.Trapped code)) e = absurd (false≢true e)
output_by waited (Some answer.Steps) e = absurd (false≢true e)
output_by waited (Some answer.InputFault) e = absurd (false≢true e)
output_by waited (Some answer.OutputFault) e = refl
output_by waited (Some (answer.Fault pc why)) e = absurd (false≢true e)
output_by waited (Some answer.Memory) e = absurd (false≢true e)

output_fault : (waited : Bool) (stop : Option Stopped) → stop_of waited stop ≡ told.OutputFault → stop ≡ Some answer.OutputFault
output_fault waited stop e = output_by waited stop (ap is_output_fault e)

count_same : (a b : Bool) (before now : ℕ) → a ≡ b → CountAfter a before now → CountAfter b before now
count_same a b before now same count = subst (λ (x : Bool). CountAfter x before now) same count

fails_by : (h : ℕ) (was is : Outside) (end : HartEnd) (waited : Bool) (stop : Option Stopped) → stop_of waited stop ≡ end.stop → Counts stop (was.inputs h) (is.inputs h) (was.outputs h) (is.outputs h) →
    Fails h was is end
fails_by h was is end waited stop same counts = record {
  input = λ fault. counts.input (input_fault waited stop (same ∙ fault));
  output = λ fault. counts.output (output_fault waited stop (same ∙ fault));
  reading = count_same (input_failed stop) (is_input_fault end.stop) (was.inputs h) (is.inputs h) (sym (input_told waited stop) ∙ ap is_input_fault same) counts.reading;
  writing = count_same (output_failed stop) (is_output_fault end.stop) (was.outputs h) (is.outputs h) (sym (output_told waited stop) ∙ ap is_output_fault same) counts.writing;
}

-- the counts of faults, by what is told of a seat
pub fails_of : (h : ℕ) (was is : Outside) (end : HartEnd) (seat : Seat) → end_of seat ≡ end → CountsOf h was is seat → Fails h was is end
fails_of h was is end seat same counts = fails_by h was is end seat.waited seat.stop (ap (λ (e : HartEnd). e.stop) same) counts

-- ---- texts

going_of : (s : Stop) (failed : Bool) → (is_going s && not failed) ≡ true → s ≡ Going
going_of Going failed e = refl
going_of (Exit status) failed e = absurd (false≢true e)
going_of (Trap code) failed e = absurd (false≢true e)
going_of (Fault why) failed e = absurd (false≢true e)

unfailed_of : (s : Stop) (failed : Bool) → (is_going s && not failed) ≡ true → failed ≡ false
unfailed_of Going true e = absurd (false≢true e)
unfailed_of Going false e = refl
unfailed_of (Exit status) failed e = absurd (false≢true e)
unfailed_of (Trap code) failed e = absurd (false≢true e)
unfailed_of (Fault why) failed e = absurd (false≢true e)

-- what is told is how the hart stands
pub stands : (o : Hart) (stop : HartStop) → Stops o stop → is_fault stop ≡ false → stop_text stop ≡ standing o.state.stop o.waited
stands o told.Going s f = sym (ap₂ standing (going_of o.state.stop o.failed s.0) s.1)
stands o told.Waiting s f = sym (ap₂ standing (going_of o.state.stop o.failed s.0) s.1)
stands o (told.Ended status) s f = sym (ap (λ (stop : Stop). standing stop o.waited) s.1)
stands o (told.Trapped code) s f = sym (ap (λ (stop : Stop). standing stop o.waited) s.1)
stands o told.InputFault s f = absurd (true≢false f)
stands o told.OutputFault s f = absurd (true≢false f)

pub unfailed : (o : Hart) (stop : HartStop) → Stops o stop → is_fault stop ≡ false → o.failed ≡ false
unfailed o told.Going s f = unfailed_of o.state.stop o.failed s.0
unfailed o told.Waiting s f = unfailed_of o.state.stop o.failed s.0
unfailed o (told.Ended status) s f = s.0
unfailed o (told.Trapped code) s f = s.0
unfailed o told.InputFault s f = absurd (true≢false f)
unfailed o told.OutputFault s f = absurd (true≢false f)
