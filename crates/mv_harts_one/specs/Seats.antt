-- A seat, which is one hart in code, and the hart of a run of harts that it is.
use Rattle.std.specs.Prelude.{ℕ, ◌+◌, ◌≡◌, Bool, true, false, List, [], slice_get, Option, Some, None}
use Rattle.mv_bindings.specs.declared.binding.Binding.{Binding}
use Rattle.mv_bindings.specs.Acts.{Act, Skip, Flip, Adopt}
use Rattle.mv_isa.specs.declared.instr.Instr.TheVariants.{Ecall}
use Rattle.mv_isa.specs.Execution.{reg}
use Rattle.mv_isa.specs.Registers.{a7}
use Rattle.mv_machine.specs.declared.machine.Stopped.{Stopped}
use Rattle.mv_machine.specs.declared.machine.Stopped.TheVariants as answer
use Rattle.mv_machine.specs.Runs.{State, Stop, Going, Exit, Trap, Fault, Request, Reads, Writes, request_of, bytes_to_come, adopts}
use Rattle.mv_machine.specs.Commits.{fetched_instr}
use Rattle.mv_harts_runs.specs.Harts.{Mode, Runs, Parked, Freed, Place, AtOrder, AtPoll, Elsewhere, Store, Hart}
use Rattle.mv_harts_one.specs.declared.seat.Mode.{Mode as SeatMode}
use Rattle.mv_harts_one.specs.declared.seat.Mode.TheVariants as mode
use Rattle.mv_harts_one.specs.declared.seat.Seat.{Seat}
use Rattle.mv_harts_one.specs.declared.seat.Taken.{Taken}
use Rattle.mv_harts_one.specs.declared.seat.Taken.TheVariants as taken
use Rattle.mv_harts_one.specs.declared.glance.Place.{Place as SeenPlace}
use Rattle.mv_harts_one.specs.declared.glance.Place.TheVariants as place
use Rattle.mv_harts_one.specs.declared.store.Width.{Width}
use Rattle.mv_harts_one.specs.declared.store.Width.TheVariants as width
use Rattle.mv_harts_one.specs.declared.store.Store.{Store as SeenStore}

-- ---- why a hart doesn't go on

-- a hart whose read or write failed stands before it
abbrev pub stop_of : Option Stopped → Stop
stop_of None = Going
stop_of (Some (answer.Ended status)) = Exit status
stop_of (Some (answer.Trapped code)) = Trap code
stop_of (Some answer.Steps) = Going
stop_of (Some answer.InputFault) = Going
stop_of (Some answer.OutputFault) = Going
stop_of (Some (answer.Fault pc why)) = Fault why
stop_of (Some answer.Memory) = Going

-- its read or write failed
abbrev pub has_failed : Option Stopped → Bool
has_failed None = false
has_failed (Some (answer.Ended status)) = false
has_failed (Some (answer.Trapped code)) = false
has_failed (Some answer.Steps) = false
has_failed (Some answer.InputFault) = true
has_failed (Some answer.OutputFault) = true
has_failed (Some (answer.Fault pc why)) = false
has_failed (Some answer.Memory) = false

-- no number of instructions is used up, and want of memory is no stop
abbrev pub IsHalt : Option Stopped → Type 0
IsHalt None = Unit {0}
IsHalt (Some (answer.Ended status)) = Unit {0}
IsHalt (Some (answer.Trapped code)) = Unit {0}
IsHalt (Some answer.Steps) = ⊥
IsHalt (Some answer.InputFault) = Unit {0}
IsHalt (Some answer.OutputFault) = Unit {0}
IsHalt (Some (answer.Fault pc why)) = Unit {0}
IsHalt (Some answer.Memory) = ⊥

-- a hart stands before that call
abbrev pub IsAt : State → Request → Type 0
IsAt s request = (fetched_instr s 0 ≡ Some Ecall) × (request_of (reg s.regs a7) ≡ request)

-- a hart whose device has failed stands before the call: a read where the source failed, a write where the sink did
abbrev pub IsBefore : Option Stopped → State → Type 0
IsBefore None s = Unit {0}
IsBefore (Some (answer.Ended status)) s = Unit {0}
IsBefore (Some (answer.Trapped code)) s = Unit {0}
IsBefore (Some answer.Steps) s = Unit {0}
IsBefore (Some answer.InputFault) s = IsAt s Reads
IsBefore (Some answer.OutputFault) s = IsAt s Writes
IsBefore (Some (answer.Fault pc why)) s = Unit {0}
IsBefore (Some answer.Memory) s = Unit {0}

-- ---- a seat

abbrev pub mode_of : SeatMode → Mode
mode_of mode.Runs = Runs
mode_of mode.Parked = Parked
mode_of mode.Freed = Freed

-- The seat is this hart, with this number, and its source has these bytes left. What the hart has written, logged and taken is no part of a seat.
pub record Sits (number : ℕ) (seat : Seat) (bytes : List ℕ) (o : Hart) : Type 0 where
  pub engine : seat.engine.number ≡ number
  pub state : o.state ≡ record {
    hart = number;
    image = seat.engine.image;
    regs = seat.engine.hart.regs;
    pc = seat.engine.hart.pc;
    room = seat.engine.memory;
    bindings = seat.engine.bindings;
    input = bytes_to_come bytes;
    actions = [];
    output = o.state.output;
    log = o.state.log;
    stop = stop_of seat.stop;
  }
  pub mode : o.mode ≡ mode_of seat.mode
  pub waited : o.waited ≡ seat.waited
  pub failed : o.failed ≡ has_failed seat.stop
  pub count : o.count ≡ seat.instructions
  pub halts : IsHalt seat.stop
  pub before : IsBefore seat.stop o.state

-- a hart that was freed takes on bindings
abbrev pub adopted : Hart → List Binding → (taken : List Act) → Hart
adopted o bs taken = record { state = adopts o.state bs; mode = Runs; waited = false; failed = o.failed; count = o.count + 1; taken = taken }

-- ---- what a poll took

-- with the bindings that the commits left, in order
abbrev pub IsTaken : (commits : List (List Binding)) → Taken → Act → Type 0
IsTaken commits taken.Skip act = act ≡ Skip
IsTaken commits (taken.Flip switch value) act = act ≡ Flip switch value
IsTaken commits (taken.Adopt commit) act = (bs : List Binding) × (slice_get commits commit ≡ Some bs) × (act ≡ Adopt bs)

-- a commit is under way
abbrev pub is_under : Option (List Binding) → Bool
is_under None = false
is_under (Some old) = true

-- ---- what a glance sees

abbrev pub place_as : SeenPlace → Place
place_as place.AtOrder = AtOrder
place_as place.AtPoll = AtPoll
place_as place.Elsewhere = Elsewhere

-- in bytes
abbrev pub width_as : Width → ℕ
width_as width.Byte = 1
width_as width.Half = 2
width_as width.Word = 4

abbrev pub store_as : SeenStore → Store
store_as st = record { address = st.address; width = width_as st.width; value = st.value }
