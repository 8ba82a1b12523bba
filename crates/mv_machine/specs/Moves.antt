-- What the code holds of a state, and that what it does to it is what a definition does to the state.
use Rattle.std.specs.Prelude.{ℕ, zero, suc, ◌+◌, ◌-◌, ◌≡◌, ◌%◌, ◌^◌, ◌<◌, ◌⊎◌, ◌∷◌, Bool, false, List, [], ◌++◌, length, map, slice_get, Option, Some, None, option_map, IsSomeAnd, Ok, if◌then◌else◌}
use Rattle.mv_num.specs.Words.{add}
use Rattle.mv_bindings.specs.declared.binding.Binding.{Binding}
use Rattle.mv_bindings.specs.declared.action.Action.{Action}
use Rattle.mv_bindings.specs.declared.binding.Event.{Event}
use Rattle.mv_bindings.specs.Acts.{act_of}
use Rattle.mv_image.specs.Spelling.{Fields}
use Rattle.mv_isa.specs.declared.instr.Cause.TheVariants as cause
use Rattle.mv_isa.specs.Execution.{put, reg, Calls}
use Rattle.mv_isa.specs.Registers.{a0, a7}
use Rattle.mv_fetch.specs.Held.{Room, IsInText, choices}
use Rattle.mv_rv32.specs.Stepping.{picked_step, picked_target, Proceeds, Gives, Stays, Wants}
use Rattle.mv_rv32.specs.declared.hart.Hart.{Hart}
use Rattle.mv_rv32.specs.declared.hart.Stepped.{Stepped}
use Rattle.mv_rv32.specs.declared.hart.Stepped.TheVariants as stepped
use Rattle.mv_machine.specs.declared.engine.Engine.{Engine}
use Rattle.mv_io.specs.Outside.{OnInput, Takes}
use Rattle.mv_io.specs.declared.outside.Failed.{Failed}
use Rattle.mv_probe.specs.Ways.{Way, Follows, way_after}
use Rattle.mv_machine.specs.declared.run_loop.Stride.{Stride}
use Rattle.mv_machine.specs.declared.machine.Stopped.{Stopped}
use Rattle.mv_machine.specs.declared.machine.Stopped.TheVariants as answer
use Rattle.mv_patch.specs.Plans.{plan_between}
use Rattle.mv_machine.specs.Commits.{is_some_pair}
use Rattle.mv_machine.specs.Runs.{State, Stop, Going, Exit, Trap, Fault, Request, Reads, Writes, request_of, environment_call, word_read, bytes_to_come, turn, runs_from, executed}
use Rattle.mv_machine.specs.Departures.{departed_by}
use Rattle.mv_machine.specs.Snapshots.{Under, Departs, is_input_fault, is_output_fault}

-- an engine, the actions that are left, and what the source and the sink tell
pub record Seen : Type 0 where
  pub hart : ℕ
  pub image : Fields
  pub regs : List ℕ
  pub pc : ℕ
  pub room : Room
  pub bindings : List Binding
  pub actions : List Action
  pub left : Option (List ℕ)
  pub written : Option (List ℕ)

abbrev pub seen : Engine → List Action → (left written : Option (List ℕ)) → Seen
seen engine actions left written = record {
  hart = engine.number;
  image = engine.image;
  regs = engine.hart.regs;
  pc = engine.hart.pc;
  room = engine.memory;
  bindings = engine.bindings;
  actions = actions;
  left = left;
  written = written;
}

-- the state of which that is seen
abbrev pub shown : Seen → Stop → (input : List (Option ℕ)) → (output : List ℕ) → (log : List Event) → State
shown x stop input output log = record {
  hart = x.hart;
  image = x.image;
  regs = x.regs;
  pc = x.pc;
  room = x.room;
  bindings = x.bindings;
  input = input;
  actions = map act_of x.actions;
  output = output;
  log = log;
  stop = stop;
}

-- one more piece of output stands in the sink, the probes were told some events, some bytes were taken of the source, and whatever may come behind these, the
-- function takes a state of the first kind with both to read to the one of the second kind with what comes behind; and P holds of the first
abbrev pub Meets : (State → Type 0) → (State → State) → Seen → Seen → Stop → (Told : List Event → Type 0) → Type 0
Meets P f x y stop Told =
    (more : List ℕ) × (news : List Event) × (y.written ≡ option_map (λ before. before ++ more) x.written) × Told news
    × OnInput x.left y.left (λ taken later.
    (output : List ℕ) (log : List Event) → P (shown x Going (bytes_to_come (taken ++ later)) output log)
    × (f (shown x Going (bytes_to_come (taken ++ later)) output log) ≡ shown y stop (bytes_to_come later) (output ++ more) (log ++ news)))

abbrev pub Moves : (State → State) → Seen → Seen → Stop → (Told : List Event → Type 0) → Type 0
Moves f x y stop Told = Meets (λ s. Unit {0}) f x y stop Told

-- a read that did not fail
abbrev pub Gets : Hart → Hart → (left left' : Option (List ℕ)) → Type 0
Gets hart hart' left left' =
    (byte : Option ℕ) × Takes {E = Failed} left left' (Ok byte) × (hart'.regs ≡ put hart.regs a0 (word_read byte)) × (hart'.pc ≡ add hart.pc 4)

-- a write that did not fail
abbrev pub Puts : Hart → Hart → (written written' : Option (List ℕ)) → Type 0
Puts hart hart' written written' =
    (written' ≡ option_map (λ before. before ++ reg hart.regs a0 % 2 ^ 8 ∷ []) written) × (hart'.regs ≡ put hart.regs a0 (reg hart.regs a0 % 2 ^ 8)) × (hart'.pc ≡ add hart.pc 4)

-- an answer of one instruction: a move to a stop, or a fault of the outside or want of memory, which is no move
abbrev pub Outcomes : Option Stopped → (Stop → Type 0) → (input output memory : Type 0) → Type 0
Outcomes None moves input output memory = moves Going
Outcomes (Some (answer.Ended status)) moves input output memory = moves (Exit status)
Outcomes (Some (answer.Trapped code)) moves input output memory = moves (Trap code)
Outcomes (Some answer.Steps) moves input output memory = ⊥
Outcomes (Some answer.InputFault) moves input output memory = input
Outcomes (Some answer.OutputFault) moves input output memory = output
Outcomes (Some (answer.Fault pc why)) moves input output memory = moves (Fault why)
Outcomes (Some answer.Memory) moves input output memory = memory

-- A call of the environment: what it does where it goes on or stops the run. Where a read or a write failed, nothing changed.
abbrev pub FromCall : Option Stopped → Seen → Seen → (input_rose output_rose : Type 0) → (Told : List Event → Type 0) → Type 0
FromCall result x y input_rose output_rose Told =
    let request = request_of (reg x.regs a7) in
    Outcomes result (λ stop. Moves (environment_call request) x y stop Told) ((y ≡ x) × Told [] × (request ≡ Reads) × input_rose) ((y ≡ x) × Told [] × (request ≡ Writes) × output_rose) ⊥

-- a call that neither reads nor writes does what a function does to a state, with some events
abbrev pub Does : (State → State) → Engine → List Action → Engine → List Action → Stop → List Event → Type 0
Does f engine actions engine' actions' stop news =
    (left written : Option (List ℕ)) (input : List (Option ℕ)) (output : List ℕ) (log : List Event) →
    f (shown (seen engine actions left written) Going input output log) ≡ shown (seen engine' actions' left written) stop input output (log ++ news)

-- an answer that is a stop of the definition
abbrev pub IsStop : Stopped → Stop → Type 0
IsStop (answer.Ended status) stop = Exit status ≡ stop
IsStop (answer.Trapped code) stop = Trap code ≡ stop
IsStop answer.Steps stop = ⊥
IsStop answer.InputFault stop = ⊥
IsStop answer.OutputFault stop = ⊥
IsStop (answer.Fault pc why) stop = Fault why ≡ stop
IsStop answer.Memory stop = ⊥

-- the word that an oracle picks of these, none where there are none
abbrev pub Fetched : Option ℕ → (words : List ℕ) → Option Way → Option Way → Type 0
Fetched None words way way' = (length words ≡ 0) × (way' ≡ way)
Fetched (Some word) words way way' =
    (pick : ℕ) × (pick < length words) × Follows way way' (length words) pick × (slice_get words pick ≡ Some word)

-- the call that stands at pc is that one
abbrev pub Called : Seen → (pick : ℕ) → Request → Type 0
Called x pick request = (picked_step x.room pick x.regs x.pc ≡ Calls) × (request_of (reg x.regs a7) ≡ request)

-- the instruction is a store into text that the definition carries out, and nothing is spare
abbrev pub Wanting : Seen → (pick : ℕ) → Type 0
Wanting x pick = IsSomeAnd (picked_target x.room pick x.regs x.pc) IsInText × (x.room.spare ≡ 0) × Proceeds (picked_step x.room pick x.regs x.pc)

-- The instruction at pc over a hart and a memory: no fetch there, or the one that the oracle picks. Nothing changes but where it goes on.
abbrev pub Steps : Stepped → Hart → Hart → Room → Room → Option Way → Option Way → Type 0
Steps result hart hart' room room' way way' =
    let count = length (choices room.held hart.pc) in
    ((count ≡ 0) × (result ≡ stepped.Fault cause.Fetch) × (hart' ≡ hart) × (room' ≡ room) × (way' ≡ way))
    ⊎ ((pick : ℕ) × (pick < count) × Follows way way' count pick
    × Gives (picked_step room pick hart.regs hart.pc) result hart' room' × Stays result hart hart' room room' × Wants result (picked_target room pick hart.regs hart.pc) room)

-- what is noted of the place behind an instruction that goes from one address to another, where it is wanted
abbrev pub noted : (wanted : Bool) → Stepped → (floor from to : ℕ) → (place : Option ℕ) → Option ℕ
noted wanted stepped.Next floor from to place = if wanted then departed_by floor Going from to place else place
noted wanted stepped.Call floor from to place = place
noted wanted (stepped.Fault why) floor from to place = place
noted wanted stepped.Memory floor from to place = place

module _ (wanted : Bool) (floor : ℕ) where
  -- so many instructions that just go on, with the place that is noted
  abbrev pub GoOn : ℕ → Hart → Hart → Room → Room → Option Way → Option Way → (place place' : Option ℕ) → Type 0
  GoOn zero hart hart' room room' way way' place place' = (hart' ≡ hart) × (room' ≡ room) × (way' ≡ way) × (place' ≡ place)
  GoOn (suc n) hart hart' room room' way way' place place' =
      (h : Hart) × (r : Room) × (w : Option Way) × (p : Option ℕ)
      × GoOn n hart h room r way w place p × Steps stepped.Next h hart' r room' w way' × (place' ≡ noted wanted stepped.Next floor h.pc hart'.pc p)

  -- some instructions that just go on, and one behind them; so many of them with those that are left
  abbrev pub Strides : (steps : ℕ) → Stride → Hart → Hart → Room → Room → Option Way → Option Way → (place place' : Option ℕ) → Type 0
  Strides steps stride hart hart' room room' way way' place place' =
      (n : ℕ) × (h : Hart) × (r : Room) × (w : Option Way) × (p : Option ℕ)
      × (n + 1 + stride.left ≡ steps) × GoOn n hart h room r way w place p × Steps stride.stepped h hart' r room' w way'
      × (place' ≡ noted wanted stride.stepped floor h.pc hart'.pc p)

-- what follows an instruction: nothing where it goes on, the environment call, or an answer
abbrev pub Settles : Stepped → Option Stopped → Seen → Seen → (input_rose output_rose : Type 0) → (Told : List Event → Type 0) → Type 0
Settles stepped.Next result x y input_rose output_rose Told = (result ≡ None) × (y ≡ x) × Told []
Settles stepped.Call result x y input_rose output_rose Told = FromCall result x y input_rose output_rose Told
Settles (stepped.Fault why) result x y input_rose output_rose Told = (result ≡ Some (answer.Fault x.pc why)) × (y ≡ x) × Told []
Settles stepped.Memory result x y input_rose output_rose Told = (result ≡ Some answer.Memory) × (y ≡ x) × Told []

-- one instruction: no fetch there, or the one that the oracle picks
abbrev pub Turns : Option Stopped → Seen → Seen → Option Way → Option Way → (input_rose output_rose : Type 0) → (Told : List Event → Type 0) → Type 0
Turns result x y way way' input_rose output_rose Told =
    let count = length (choices x.room.held x.pc) in
    ((count ≡ 0) × (result ≡ Some (answer.Fault x.pc cause.Fetch)) × (y ≡ x) × Told [] × (way' ≡ way))
    ⊎ ((pick : ℕ) × (pick < count) × Follows way way' count pick
    × Outcomes result (λ stop. Moves (λ s. turn s pick) x y stop Told) ((y ≡ x) × Told [] × Called x pick Reads × input_rose) ((y ≡ x) × Told [] × Called x pick Writes × output_rose) ((y ≡ x) × Told [] × Wanting x pick))

-- so many instructions, none of which ended the run, with the place that is noted
abbrev pub Goes : (wanted : Bool) → (place : Option ℕ) → (n : ℕ) → Seen → Seen → Option Way → Option Way → (Told : List Event → Type 0) → Type 0
Goes wanted place n x y way way' Told =
    (picks : List ℕ) × (length picks ≡ n) × (way' ≡ option_map (λ w. way_after w n) way)
    × Meets (λ s. Under way s picks × (executed s picks n ≡ n) × Departs wanted place s picks n) (λ s. runs_from s picks n) x y Going Told

-- what was told, and behind a list of events those as well
abbrev pub WithEvents : {P : Type 0} → (Told : P → P → List Event → Type 0) → (P × List Event) → (P × List Event) → List Event → Type 0
WithEvents Told was now news = Told was.0 now.0 news × (now.1 ≡ was.1 ++ news)

-- A walk of at most so many instructions, of which so many were fetched: all of them, or some and then one that stopped it, which departs from nowhere.
-- `Told p q events`: probes that were p are q behind these events.
abbrev pub Walked : {P : Type 0} → (Told : P → P → List Event → Type 0) → (p q : P) → (wanted : Bool) → (place : Option ℕ) → (steps : ℕ) → Option Stopped → (fetched : ℕ) → Seen → Seen → Option Way → Option Way → (input_rose output_rose : Type 0) → Type 0
Walked Told p q wanted place steps None fetched x y way way' input_rose output_rose = (fetched ≡ steps) × Goes wanted place steps x y way way' (Told p q)
Walked {P} Told p q wanted place steps (Some stopped) fetched x y way way' input_rose output_rose =
    (n : ℕ) × (mid : Seen) × (probes : P) × (v : Option Way)
    × (n < steps) × (fetched ≡ n + 1) × Goes wanted place n x mid way v (Told p probes) × Turns (Some stopped) mid y v way' input_rose output_rose (Told probes q)

-- how many of the instructions that were fetched were executed: not the one that was not carried out
abbrev pub executed_of : Option Stopped → (fetched : ℕ) → ℕ
executed_of None fetched = fetched
executed_of (Some (answer.Ended status)) fetched = fetched
executed_of (Some (answer.Trapped code)) fetched = fetched
executed_of (Some answer.Steps) fetched = fetched
executed_of (Some (answer.Fault pc why)) fetched = fetched
executed_of (Some answer.InputFault) fetched = fetched - 1
executed_of (Some answer.OutputFault) fetched = fetched - 1
executed_of (Some answer.Memory) fetched = fetched - 1

-- an engine says whether its bindings have another text than those that it had
abbrev pub TellsOpened : Engine → Engine → Type 0
TellsOpened was is = is.opened ≡ is_some_pair (plan_between was.image was.bindings is.bindings)

-- a fault is told with its place
abbrev pub FaultAt : Stopped → ℕ → Type 0
FaultAt (answer.Ended status) pc = Unit {0}
FaultAt (answer.Trapped code) pc = Unit {0}
FaultAt answer.Steps pc = Unit {0}
FaultAt answer.InputFault pc = Unit {0}
FaultAt answer.OutputFault pc = Unit {0}
FaultAt (answer.Fault place why) pc = place ≡ pc
FaultAt answer.Memory pc = Unit {0}

-- an instruction didn't go on since the source failed, or the sink
abbrev pub input_failed : Option Stopped → Bool
input_failed None = false
input_failed (Some stopped) = is_input_fault stopped

abbrev pub output_failed : Option Stopped → Bool
output_failed None = false
output_failed (Some stopped) = is_output_fault stopped
