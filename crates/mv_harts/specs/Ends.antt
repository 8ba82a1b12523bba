-- What is told of a run of harts that is over.
use Rattle.std.specs.Prelude.{ℕ, ◌≡◌, Bool, true, false, if◌then◌else◌, List, ◌++◌, codes, Option, Some, None}
use Rattle.std.specs.Fmt.{decimal}
use Rattle.mv_bindings.specs.declared.binding.Binding.{Binding}
use Rattle.mv_machine.specs.declared.machine.Stopped.{Stopped}
use Rattle.mv_machine.specs.declared.machine.Stopped.TheVariants as answer
use Rattle.mv_machine.specs.Runs.{Exit, Trap, Reads, Writes}
use Rattle.mv_harts_runs.specs.Harts.{Hart, is_on}
use Rattle.mv_harts_one.specs.declared.seat.Seat.{Seat}
use Rattle.mv_harts_one.specs.Seats.{IsAt}
use Rattle.mv_harts_turns.specs.Groups.{AreTaken}
use Rattle.mv_harts.specs.declared.ends.HartStop.{HartStop}
use Rattle.mv_harts.specs.declared.ends.HartStop.TheVariants.{Going, Waiting, Ended, Trapped, InputFault, OutputFault}
use Rattle.mv_harts.specs.declared.ends.HartEnd.{HartEnd}

-- the stop that tells how a hart stands; it stands before the read or write that failed
abbrev pub Stops : Hart → HartStop → Type 0
Stops o Going = (is_on o ≡ true) × (o.waited ≡ false)
Stops o Waiting = (is_on o ≡ true) × (o.waited ≡ true)
Stops o (Ended status) = (o.failed ≡ false) × (o.state.stop ≡ Exit status)
Stops o (Trapped code) = (o.failed ≡ false) × (o.state.stop ≡ Trap code)
Stops o InputFault = (o.failed ≡ true) × IsAt o.state Reads
Stops o OutputFault = (o.failed ≡ true) × IsAt o.state Writes

-- what is told of a hart is so; an adoption is told by the number of its commit
pub record IsEnd (commits : List (List Binding)) (end : HartEnd) (o : Hart) : Type 0 where
  pub instructions : end.instructions ≡ o.count
  pub stop : Stops o end.stop
  pub taken : AreTaken commits end.taken o.taken

-- its read or write failed
abbrev pub is_fault : HartStop → Bool
is_fault Going = false
is_fault Waiting = false
is_fault (Ended status) = false
is_fault (Trapped code) = false
is_fault InputFault = true
is_fault OutputFault = true

-- its read failed
abbrev pub is_input_fault : HartStop → Bool
is_input_fault Going = false
is_input_fault Waiting = false
is_input_fault (Ended status) = false
is_input_fault (Trapped code) = false
is_input_fault InputFault = true
is_input_fault OutputFault = false

-- its write failed
abbrev pub is_output_fault : HartStop → Bool
is_output_fault Going = false
is_output_fault Waiting = false
is_output_fault (Ended status) = false
is_output_fault (Trapped code) = false
is_output_fault InputFault = false
is_output_fault OutputFault = true

-- the words for a stop
abbrev pub stop_text : HartStop → List ℕ
stop_text Going = codes "going"
stop_text Waiting = codes "waiting"
stop_text (Ended status) = codes "ended " ++ decimal status
stop_text (Trapped code) = codes "trapped " ++ decimal code
stop_text InputFault = codes "input fault"
stop_text OutputFault = codes "output fault"

-- ---- in code

-- a hart of a group has none of the last three
abbrev pub stop_of : (waited : Bool) → Option Stopped → HartStop
stop_of waited None = if waited then Waiting else Going
stop_of waited (Some (answer.Ended status)) = Ended status
stop_of waited (Some (answer.Trapped code)) = Trapped code
stop_of waited (Some answer.InputFault) = InputFault
stop_of waited (Some answer.OutputFault) = OutputFault
stop_of waited (Some answer.Steps) = Going
stop_of waited (Some answer.Memory) = Going
stop_of waited (Some (answer.Fault pc why)) = Going

-- what is told of a seat
abbrev pub end_of : Seat → HartEnd
end_of seat = record { instructions = seat.instructions; stop = stop_of seat.waited seat.stop; taken = seat.taken }
