-- What contracts see of a machine between two calls of `run`, and what such a call has done.
use Rattle.std.specs.Prelude.{ℕ, ◌≡◌, ◌+◌, ◌-◌, ◌<◌, Bool, true, false, List, [], ◌++◌, length, map, slice_index, Option, Some, None, option_map, IfSome, IsSomeAnd, if◌then◌else◌, ◌%◌}
use Rattle.mv_bindings.specs.declared.binding.Binding.{Binding}
use Rattle.mv_bindings.specs.declared.binding.Event.{Event}
use Rattle.mv_bindings.specs.declared.action.Action.{Action}
use Rattle.mv_bindings.specs.Acts.{act_of}
use Rattle.mv_image.specs.Spelling.{Fields}
use Rattle.mv_isa.specs.Execution.{Calls, reg}
use Rattle.mv_isa.specs.declared.instr.Cause.{Cause}
use Rattle.mv_isa.specs.Registers.{a7}
use Rattle.mv_fetch.specs.Held.{Room, IsInText}
use Rattle.mv_rv32.specs.Stepping.{picked_target, Proceeds}
use Rattle.mv_io.specs.Outside.{OnInput}
use Rattle.mv_probe.specs.Ways.{Way, pick_of, way_after}
use Rattle.mv_machine.specs.declared.machine.Stopped.{Stopped}
use Rattle.mv_machine.specs.declared.machine.Stopped.TheVariants as answer
use Rattle.mv_machine.specs.Departures.{departed}
use Rattle.mv_machine.specs.Runs.{State, Stop, Going, Exit, Trap, Fault, Request, Reads, Writes, request_of, bytes_to_come, choices_at, fetched_step, runs_from, executed}

-- its image, registers, pc, memory, bindings, and the answer of the run where it has ended
pub record Snapshot : Type 0 where
  pub image : Fields
  pub regs : List ℕ
  pub pc : ℕ
  pub room : Room
  pub bindings : List Binding
  pub last : Option Stopped

-- a state as a machine keeps it
unfoldable pub kept : State → Option Stopped → Snapshot
kept s last = record { image = s.image; regs = s.regs; pc = s.pc; room = s.room; bindings = s.bindings; last = last }

-- the state from which a call of `run` goes on; the actions, the output and the log are those of this call
unfoldable pub resumed : Snapshot → (input : List (Option ℕ)) → List Action → State
resumed m input actions = record { hart = 0; image = m.image; regs = m.regs; pc = m.pc; room = m.room; bindings = m.bindings; input = input; actions = map act_of actions; output = []; log = []; stop = Going }

-- the picks are the answers of a told way, in order
abbrev pub Under : Option Way → State → (picks : List ℕ) → Type 0
Under way s picks =
    IfSome way (λ w. (j : ℕ) → j < length picks → slice_index picks j ≡ pick_of (way_after w j) (choices_at (runs_from s picks j)))

-- the environment call that a pick fetches
abbrev pub CallsFor : State → (pick : ℕ) → Request → Type 0
CallsFor s pick request = (fetched_step s pick ≡ Calls) × (request_of (reg s.regs a7) ≡ request)

-- the instruction that a pick fetches is a store into text that the definition carries out, and as many words as were reserved have been stored
-- there since the last FENCE.I
abbrev pub WantsMemory : State → (pick : ℕ) → Type 0
WantsMemory s pick = IsSomeAnd (picked_target s.room (pick % choices_at s) s.regs s.pc) IsInText × (s.room.spare ≡ 0) × Proceeds (fetched_step s pick)

-- the state that a call of `run` reached, what is left in the machine, the source and the sink, and that each probe was told the log
pub record Reached (s : State) (stop : Stop) (is : Snapshot) (later : List (Option ℕ)) (written written' : Option (List ℕ)) (Told : List Event → Type 0) : Type 0 where
  pub image : is.image ≡ s.image
  pub regs : is.regs ≡ s.regs
  pub pc : is.pc ≡ s.pc
  pub memory : is.room ≡ s.room
  pub bindings : is.bindings ≡ s.bindings
  pub input : s.input ≡ later
  pub output : written' ≡ option_map (λ before. before ++ s.output) written
  pub told : Told s.log
  pub stopped : s.stop ≡ stop

-- so many instructions were executed, the last of which ended the run or was the last one wanted, each with one pick
pub record Whole (s : State) (picks : List ℕ) (steps : ℕ) (at : State → Stop → Type 0) (stop : Stop) : Type 0 where
  pub reached : at (runs_from s picks steps) stop
  pub picked : executed s picks steps ≡ length picks

-- Some instructions were executed, the last of which faults at this pc. Each took one pick, but for one at an address where no word can be
-- fetched, which took none.
pub record Faulted (s : State) (picks : List ℕ) (steps : ℕ) (at : State → Stop → Type 0) (pc : ℕ) (why : Cause) : Type 0 where
  pub reached : at (runs_from s picks steps) (Fault why)
  pub place : (runs_from s picks steps).pc ≡ pc
  pub picked : executed s picks steps ≡ length picks + (1 - choices_at (runs_from s picks steps))

-- so many instructions were executed, and one was fetched that was not carried out
pub record Broken (s : State) (picks : List ℕ) (steps : ℕ) (at : State → Stop → Type 0) (Why : State → ℕ → Type 0) : Type 0 where
  pub count : ℕ
  pub within : count < steps
  pub reached : at (runs_from s picks count) Going
  pub picked : count + 1 ≡ length picks
  pub cause : Why (runs_from s picks count) (slice_index picks count)

-- an answer of `run` has its cause in the run of so many instructions
abbrev pub Answered : Stopped → (steps : ℕ) → State → (picks : List ℕ) → (at : State → Stop → Type 0) → (input_rose output_rose : Type 0) → Type 0
Answered (answer.Ended status) steps s picks at input_rose output_rose = Whole s picks steps at (Exit status)
Answered (answer.Trapped code) steps s picks at input_rose output_rose = Whole s picks steps at (Trap code)
Answered answer.Steps steps s picks at input_rose output_rose = Whole s picks steps at Going
Answered (answer.Fault pc why) steps s picks at input_rose output_rose = Faulted s picks steps at pc why
Answered answer.InputFault steps s picks at input_rose output_rose = Broken s picks steps at (λ e pick. CallsFor e pick Reads × input_rose)
Answered answer.OutputFault steps s picks at input_rose output_rose = Broken s picks steps at (λ e pick. CallsFor e pick Writes × output_rose)
Answered answer.Memory steps s picks at input_rose output_rose = Broken s picks steps at WantsMemory

-- how many of the instructions were executed: of those that were picked, all but one that was not carried out
abbrev pub HasCounted : Stopped → (steps : ℕ) → State → (picks : List ℕ) → (count : ℕ) → Type 0
HasCounted (answer.Ended status) steps s picks count = executed s picks steps ≡ count
HasCounted (answer.Trapped code) steps s picks count = executed s picks steps ≡ count
HasCounted answer.Steps steps s picks count = executed s picks steps ≡ count
HasCounted (answer.Fault pc why) steps s picks count = executed s picks steps ≡ count
HasCounted answer.InputFault steps s picks count = count + 1 ≡ length picks
HasCounted answer.OutputFault steps s picks count = count + 1 ≡ length picks
HasCounted answer.Memory steps s picks count = count + 1 ≡ length picks

-- where the place is wanted the departure of so many instructions, and else none
abbrev pub Departs : (wanted : Bool) → Option ℕ → State → (picks : List ℕ) → (count : ℕ) → Type 0
Departs wanted place s picks count = place ≡ (if wanted then departed s picks count else None)

-- What a call of `run` does on a machine that has not ended: there are picks, those of the oracle's way where it tells one, and bytes that were taken of the
-- source. Whatever may come behind these, the run with these picks on both is the defined one, leaves what comes behind, and has executed so many instructions,
-- of which this is the departure.
pub record Ran (steps : ℕ) (answer : Stopped) (count : ℕ) (wanted : Bool) (place : Option ℕ) (was is : Snapshot) (actions : List Action) (left left' written written' : Option (List ℕ)) (way way' : Option Way) (input_rose output_rose : Type 0) (Told : List Event → Type 0) : Type 0 where
  pub image : is.image ≡ was.image
  pub picks : List ℕ
  pub way_is : way' ≡ option_map (λ w. way_after w (length picks)) way
  pub run : OnInput left left' (λ taken later.
      let s = resumed was (bytes_to_come (taken ++ later)) actions in
      Under way s picks × Answered answer steps s picks (λ e stop. Reached e stop is (bytes_to_come later) written written' Told) input_rose output_rose
      × HasCounted answer steps s picks count × Departs wanted place s picks count)

-- the log is these events, where it was kept
abbrev pub Logs : Option (List Event) → List Event → Type 0
Logs log events = IfSome log (λ kept. kept ≡ events)

-- the call goes on only where the run has not ended before
abbrev pub Unless : Option Stopped → Type 0 → Type 0
Unless None ran = ran
Unless (Some last) ran = Unit {0}

-- what the machine keeps of an answer: all but that the steps were used up
abbrev pub last_of : Stopped → Option Stopped
last_of (answer.Ended status) = Some (answer.Ended status)
last_of (answer.Trapped code) = Some (answer.Trapped code)
last_of answer.Steps = None
last_of answer.InputFault = Some answer.InputFault
last_of answer.OutputFault = Some answer.OutputFault
last_of (answer.Fault pc why) = Some (answer.Fault pc why)
last_of answer.Memory = Some answer.Memory

-- the answer names the source, or the sink
abbrev pub is_input_fault : Stopped → Bool
is_input_fault answer.InputFault = true
is_input_fault other = false

abbrev pub is_output_fault : Stopped → Bool
is_output_fault answer.OutputFault = true
is_output_fault other = false
