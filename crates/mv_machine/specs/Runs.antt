-- The run of a machine as a definition. `turn` is one instruction, `runs_from` is so many of them from any state, and `runs` is so many of an
-- image from its start. All of them are functions: of the image, the input, the number of the hart and what its polls take, the picks of the fetches
-- and the number of instructions.
use Rattle.std.specs.Prelude.{ℕ, zero, suc, ◌&&◌, ◌+◌, ◌-◌, ◌%◌, ◌^◌, Bool, true, false, cond, eqb, ltb, if◌then◌else◌, nat_eq, List, [], ◌∷◌, ◌++◌, length, map, replicate, slice_get, slice_index, Option, Some, None, unwrap_or}
use Rattle.std.specs.Option.{option_map_or}
use Rattle.mv_num.specs.Words.{add}
use Rattle.mv_bindings.specs.declared.binding.Binding.{Binding}
use Rattle.mv_bindings.specs.declared.binding.Event.{Event}
use Rattle.mv_bindings.specs.OrderNumbers as orders
use Rattle.mv_bindings.specs.Bindings.{events_from}
use Rattle.mv_bindings.specs.Acts.{Act, Skip, Flip, Adopt}
use Rattle.mv_descriptors.specs.declared.rows.SwitchRow.{SwitchRow}
use Rattle.mv_isa.specs.declared.instr.Cause.{Cause}
use Rattle.mv_isa.specs.declared.instr.Cause.TheVariants as cause
use Rattle.mv_isa.specs.Execution.{Outcome, Goes, Calls, Faults, reg, put}
pub use Rattle.mv_num.specs.Regions.{plan_area}
use Rattle.mv_isa.specs.Requests as requests
use Rattle.mv_isa.specs.Registers.{a0, a1, a7, s10}
use Rattle.mv_fetch.specs.Held.{Room, first as first_memory, choices}
use Rattle.mv_rv32.specs.Stepping.{access, picked_step}
use Rattle.mv_image.specs.Spelling.{Fields}
use Rattle.mv_patch.specs.Tables.{patchable}
use Rattle.mv_patch.specs.declared.prepared.Pair.{Pair}
use Rattle.mv_patch.specs.Plans.{Planned, plan_of, plan_between}
use Rattle.mv_patch.specs.Orders.{is_known_order, first_bindings}
use Rattle.mv_patch.specs.Stores.{stored_all}
use Rattle.mv_machine.specs.Acts.{PollActs}

-- how a run stands: it goes on, or an instruction ended it
pub data Stop : Type 0 where
  Going : Stop
  Exit : (status : ℕ) → Stop
  Trap : (code : ℕ) → Stop
  Fault : (why : Cause) → Stop

abbrev pub is_going : Stop → Bool
is_going Going = true
is_going (Exit status) = false
is_going (Trap code) = false
is_going (Fault why) = false

-- the machine and its outside
pub record State : Type 0 where
  -- the number of this hart; hart 0 alone commits
  pub hart : ℕ
  pub image : Fields
  pub regs : List ℕ
  pub pc : ℕ
  -- the words of memory, and of text also those that a fetch may still give
  pub room : Room
  pub bindings : List Binding
  -- what the reads to come are answered: a byte or the end of the input, and the end where the list is used up
  pub input : List (Option ℕ)
  -- what the polls to come take, and nothing where the list is used up
  pub actions : List Act
  -- the bytes that were written
  pub output : List ℕ
  pub log : List Event
  pub stop : Stop

-- the input that consists of these bytes
abbrev pub bytes_to_come : List ℕ → List (Option ℕ)
bytes_to_come bytes = map Some bytes

-- ---- environment calls (RISC-V unprivileged ISA, 2.8), chosen by a7 with the argument and the answer in a0

pub data Request : Type 0 where
  Exits : Request
  Reads : Request
  Writes : Request
  Traps : Request
  Plans : Request
  Polls : Request
  Unknown : Request

unfoldable pub request_of : ℕ → Request
request_of number =
    cond (eqb number requests.exit) Exits (cond (eqb number requests.read) Reads (cond (eqb number requests.write) Writes (cond (eqb number requests.trap) Traps (cond (eqb number requests.plan) Plans (cond (eqb number requests.poll) Polls Unknown)))))

abbrev pub argument : State → ℕ
argument s = reg s.regs a0

-- behind the call, with an answer
unfoldable pub answered : State → ℕ → State
answered s value = record s { regs = put s.regs a0 value; pc = add s.pc 4 }

abbrev pub stopped : State → Stop → State
stopped s stop = record s { stop = stop }

-- what a read is answered, as a word: a byte, and all ones at the end
abbrev pub word_read : Option ℕ → ℕ
word_read None = 2 ^ 32 - 1
word_read (Some byte) = byte

abbrev pub next_read : List (Option ℕ) → Option ℕ
next_read [] = None
next_read (answer ∷ later) = answer

abbrev pub later_reads : List (Option ℕ) → List (Option ℕ)
later_reads [] = []
later_reads (answer ∷ later) = later

-- the trap codes are 1 to 4
unfoldable pub trap_of : ℕ → Stop
trap_of code = cond (eqb code 0) (Fault cause.Call) (cond (ltb code 5) (Trap code) (Fault cause.Call))

-- ---- plans: a commit or a revert by the words of data, as pairs of an address of text and the word that is to come there

-- how many frames of attributed functions are live
abbrev pub live_frames : State → ℕ
live_frames s = reg s.regs s10

-- The environment stores words as SW does. Nothing is stored outside the regions.

abbrev pub stored_word : Room → (address word : ℕ) → Room
stored_word room address word = unwrap_or (access.store room address 4 word) room

unfoldable pub stored_words : Room → (address : ℕ) → List ℕ → Room
stored_words room address [] = room
stored_words room address (word ∷ words) = stored_words (stored_word room address word) (address + 4) words

-- the plan area holds how many pairs there are, then address and word of each
unfoldable pub spelled_pairs : List Pair → List ℕ
spelled_pairs [] = []
spelled_pairs (pair ∷ pairs) = pair.address ∷ pair.word ∷ spelled_pairs pairs

abbrev pub with_plan : Room → List Pair → Room
with_plan room pairs = stored_words room plan_area (length pairs ∷ spelled_pairs pairs)

-- the answer to a call that changes nothing: no pairs
abbrev pub refused : State → (answer : ℕ) → State
refused s answer = record (answered s answer) { room = with_plan s.room [] }

-- The pairs are in the plan area; text is as it was. The bindings are the new ones, and there is an event for each that differs.
abbrev pub carried_out : State → Planned → (answer : ℕ) → State
carried_out s plan answer = record (answered s answer) {
  room = with_plan s.room plan.pairs;
  bindings = plan.bound;
  log = s.log ++ events_from 0 s.bindings plan.bound;
}

abbrev pub ordered : State → (code index : ℕ) → State
ordered s code index = let plan = plan_of s.image s.room.held s.bindings code index in carried_out s plan plan.answer

-- with live frames, and in another hart than 0, an order changes nothing and is answered -1; one that is unknown is a fault
unfoldable pub planned : State → (code index : ℕ) → State
planned s code index =
    if is_known_order s.image code index then (if nat_eq s.hart 0 && nat_eq (live_frames s) 0 then ordered s code index else refused s (2 ^ 32 - 1)) else stopped s (Fault cause.Call)

-- ---- polls

-- a value is stored in the word of a switch, and nothing where there is no such switch
abbrev pub with_value : Fields → Room → (switch value : ℕ) → Room
with_value image room switch value = option_map_or (λ (row : SwitchRow). stored_word room row.address value) (slice_get image.switches switch) room

-- the value is stored in the switch, and all functions and pointer switches are committed
abbrev pub flipped : State → (switch value : ℕ) → State
flipped s switch value =
    let room = with_value s.image s.room switch value in carried_out (record s { room = room }) (plan_of s.image room.held s.bindings orders.commit 0) 1

-- the bindings become those of a commit that another hart has made, of which text has the words already; memory stays
abbrev pub adopts : State → List Binding → State
adopts s bs = record (answered s 1) { room = with_plan s.room []; bindings = bs; log = s.log ++ events_from 0 s.bindings bs }

-- alone, text gets the words at the same time
abbrev pub adopted : State → List Binding → State
adopted s bs = adopts (record s { room = stored_all s.room (plan_between s.image s.bindings bs) }) bs

abbrev pub act : Act → State → State
act Skip s = refused s 0
act (Flip switch value) s = flipped s switch value
act (Adopt bs) s = adopted s bs

-- the next action is taken
abbrev pub acted : State → List Act → State
acted s [] = refused s 0
acted s (action ∷ later) = act action (record s { actions = later })

-- with live frames a poll takes nothing
unfoldable pub polled : State → State
polled s = if nat_eq (live_frames s) 0 then acted s s.actions else refused s 0

-- ---- all calls

abbrev pub environment_call : Request → State → State
environment_call Exits s = stopped s (Exit (argument s % 2 ^ 8))
environment_call Reads s = record (answered s (word_read (next_read s.input))) { input = later_reads s.input }
environment_call Writes s = record (answered s (argument s % 2 ^ 8)) { output = s.output ++ argument s % 2 ^ 8 ∷ [] }
environment_call Traps s = stopped s (trap_of (argument s))
environment_call Plans s = planned s (argument s) (reg s.regs a1)
environment_call Polls s = polled s
environment_call Unknown s = stopped s (Fault cause.Call)

-- ---- one instruction

-- how many words a fetch at pc may give
unfoldable pub choices_at : State → ℕ
choices_at s = length (choices s.room.held s.pc)

-- what the instruction leads to that a pick fetches, taken modulo the number of choices
unfoldable pub fetched_step : State → (pick : ℕ) → Outcome Room
fetched_step s pick = picked_step s.room (pick % choices_at s) s.regs s.pc

abbrev pub after : Outcome Room → State → State
after (Goes regs pc room) s = record s { regs = regs; pc = pc; room = room }
after Calls s = environment_call (request_of (reg s.regs a7)) s
after (Faults why) s = stopped s (Fault why)

-- one instruction; nothing follows the one that ended the run
unfoldable pub turn : State → (pick : ℕ) → State
turn s pick = if is_going s.stop then after (fetched_step s pick) s else s

-- ---- so many instructions

-- the state after n instructions, or after the one that ended the run: instruction number j fetches by pick number j, by 0 where the list of
-- picks is used up
unfoldable pub runs_from : State → (picks : List ℕ) → (n : ℕ) → State
runs_from s picks zero = s
runs_from s picks (suc n) = turn (runs_from s picks n) (slice_index picks n)

-- how many of the first n instructions were executed
unfoldable pub executed : State → (picks : List ℕ) → (n : ℕ) → ℕ
executed s picks zero = 0
executed s picks (suc n) = executed s picks n + (if is_going (runs_from s picks n).stop then 1 else 0)

-- ---- the start

-- the registers hold 0, all functions and pointer switches are free, and each word of text has itself as its one choice
unfoldable pub first : Fields → (input : List (Option ℕ)) → PollActs → State
first image input polls = record {
  hart = polls.hart;
  image = image;
  regs = replicate 32 0;
  pc = image.entry;
  room = record { held = first_memory image.text image.globals; spare = patchable image; reserve = patchable image };
  bindings = first_bindings image;
  input = input;
  actions = polls.acts;
  output = [];
  log = [];
  stop = Going;
}

abbrev pub runs : Fields → (input : List (Option ℕ)) → PollActs → (picks : List ℕ) → (n : ℕ) → State
runs image input polls picks n = runs_from (first image input polls) picks n
