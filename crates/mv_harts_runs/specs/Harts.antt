-- The run of several harts on one text.
use Rattle.std.specs.Prelude.{ℕ, zero, suc, ◌+◌, Bool, true, false, not, ◌&&◌, ◌||◌, if◌then◌else◌, nat_eq, ltb, List, [], ◌∷◌, ◌++◌, map, slice_get, slice_set, Option, Some, None, option_and_then, unwrap_or}
use Rattle.mv_num.specs.Words.{add, word_of}
use Rattle.mv_bindings.specs.declared.binding.Binding.{Binding}
use Rattle.mv_isa.specs.declared.instr.Instr.{Instr}
use Rattle.mv_isa.specs.declared.instr.Instr.TheVariants.{Sb, Sh, Sw, Ecall}
use Rattle.mv_isa.specs.Execution.{reg}
use Rattle.mv_isa.specs.Registers.{a1, a7}
use Rattle.mv_fetch.specs.Held.{Room}
use Rattle.mv_num.specs.Regions.{text_start, data_start}
use Rattle.mv_image.specs.Spelling.{Fields}
use Rattle.mv_rv32.specs.Stepping.{access}
use Rattle.mv_patch.specs.Orders.{is_known_order}
use Rattle.mv_bindings.specs.Acts.{Act, Skip, Flip, Adopt}
use Rattle.mv_machine.specs.Runs.{State, is_going, Request, Reads, Writes, Plans, Polls, request_of, argument, live_frames, adopts, turn, first}
use Rattle.mv_machine.specs.Commits.{fetched_instr, commit_after}

-- A hart runs; it is parked at a poll; or a commit was made while it was parked, and it is free to adopt what that left. A freed hart is not parked.
pub data Mode : Type 0 where
  Runs : Mode
  Parked : Mode
  Freed : Mode

-- one hart, with its own registers, memory, input and output
pub record Hart : Type 0 where
  pub state : State
  pub mode : Mode
  -- its last turn waited
  pub waited : Bool
  -- a read or a write of it failed, which has ended it
  pub failed : Bool
  -- how many instructions it has executed
  pub count : ℕ
  -- what its polls took, in order
  pub taken : List Act

pub record Harts : Type 0 where
  -- hart 0, which alone commits
  pub leader : Hart
  -- harts 1, 2 and so on
  pub others : List Hart
  -- what the operator does at the leader's polls to come
  pub actions : List Act
  -- the leader wants to commit
  pub wanted : Bool
  -- the bindings before the commit that is under way: it has been made, and the leader has not come to its FENCE.I
  pub under : Option (List Binding)
  -- the bindings that the commits, reverts and flips of the leader left, in order
  pub commits : List (List Binding)

-- ---- where a hart stands

-- a hart that has no live frame stands at an order, at a poll, or elsewhere
pub data Place : Type 0 where
  AtOrder : Place
  AtPoll : Place
  Elsewhere : Place

abbrev pub place_by : Request → (known idle : Bool) → Place
place_by Plans true true = AtOrder
place_by Polls known true = AtPoll
place_by request known idle = Elsewhere

abbrev pub place_of : Option Instr → (called : Place) → Place
place_of (Some Ecall) called = called
place_of i called = Elsewhere

-- at an environment call
abbrev pub called_place : State → Place
called_place s = place_by (request_of (reg s.regs a7)) (is_known_order s.image (argument s) (reg s.regs a1)) (nat_eq (live_frames s) 0)

unfoldable pub place : State → (pick : ℕ) → Place
place s pick = place_of (fetched_instr s pick) (called_place s)

-- a hart has not ended
abbrev pub is_on : Hart → Bool
is_on h = is_going h.state.stop && not h.failed

-- a hart stands at a read or a write

abbrev pub reads_or_writes : Request → Bool
reads_or_writes Reads = true
reads_or_writes Writes = true
reads_or_writes request = false

abbrev pub outside_of : Option Instr → (called : Bool) → Bool
outside_of (Some Ecall) called = called
outside_of i called = false

unfoldable pub is_outside : State → (pick : ℕ) → Bool
is_outside s pick = outside_of (fetched_instr s pick) (reads_or_writes (request_of (reg s.regs a7)))

-- ---- stores into text are made in the memories of all harts

pub record Store : Type 0 where
  pub address : ℕ
  pub width : ℕ
  pub value : ℕ

abbrev pub store_of : Instr → List ℕ → Option Store
store_of (Sb rs1 rs2 imm) regs = Some (record { address = add (reg regs rs1) (word_of imm); width = 1; value = reg regs rs2 })
store_of (Sh rs1 rs2 imm) regs = Some (record { address = add (reg regs rs1) (word_of imm); width = 2; value = reg regs rs2 })
store_of (Sw rs1 rs2 imm) regs = Some (record { address = add (reg regs rs1) (word_of imm); width = 4; value = reg regs rs2 })
store_of i regs = None

-- the store that a pick fetches
unfoldable pub told : State → (pick : ℕ) → Option Store
told s pick = option_and_then (λ i. store_of i s.regs) (fetched_instr s pick)

-- an address of text
abbrev pub is_in_text : ℕ → Bool
is_in_text a = not (ltb a text_start) && ltb a data_start

abbrev pub with_store : Room → Store → Room
with_store room st = unwrap_or (access.store room st.address st.width st.value) room

unfoldable pub shared_room : Option Store → Room → Room
shared_room None room = room
shared_room (Some st) room = if is_in_text st.address then with_store room st else room

-- another hart's store, in the memory of a hart that has not ended
abbrev pub shared : Option Store → Hart → Hart
shared st h = if is_on h then record h { state = record h.state { room = shared_room st h.state.room } } else h

-- ---- a turn

abbrev pub next_act : List Act → Act
next_act [] = Skip
next_act (act ∷ later) = act

abbrev pub later_acts : List Act → List Act
later_acts [] = []
later_acts (act ∷ later) = later

-- what is left to take, and what was taken, behind an instruction
abbrev pub left_behind : Place → List Act → List Act
left_behind AtPoll acts = later_acts acts
left_behind AtOrder acts = acts
left_behind Elsewhere acts = acts

abbrev pub took : Place → Act → List Act → List Act
took AtPoll act taken = taken ++ act ∷ []
took AtOrder act taken = taken
took Elsewhere act taken = taken

abbrev pub handed : State → Act → State
handed s act = record s { actions = act ∷ [] }

-- what one instruction of a hart does that is handed what its poll would take: where it stands, whether it reads or writes, its store, and the state behind it; and whether the commit is
-- under way behind it that the leader makes
pub record Move : Type 0 where
  pub place : Place
  pub outside : Bool
  pub store : Option Store
  pub state : State
  pub under : Option (List Binding)

unfoldable pub move : State → Act → Option (List Binding) → (pick : ℕ) → Move
move s act under pick = record {
  place = place s pick;
  outside = is_outside s pick;
  store = told s pick;
  state = record (turn (handed s act) pick) { actions = [] };
  under = commit_after (handed s act) pick under;
}

abbrev pub executes : Hart → Act → Move → Hart
executes h act m = record h { state = m.state; waited = false; count = h.count + 1; taken = took m.place act h.taken }

abbrev pub waits : Hart → Hart
waits h = record h { waited = true }

-- ---- hart 0

abbrev pub is_flip : Act → Bool
is_flip Skip = false
is_flip (Flip switch value) = true
is_flip (Adopt bs) = false

-- an order, and a poll that takes a flip, wait for the other harts
abbrev pub is_commit : Place → Act → Bool
is_commit AtOrder act = true
is_commit AtPoll act = is_flip act
is_commit Elsewhere act = false

abbrev pub is_parked : Mode → Bool
is_parked Runs = false
is_parked Parked = true
is_parked Freed = false

abbrev pub is_away : Hart → Bool
is_away h = not (is_on h) || is_parked h.mode

abbrev pub all_away : List Hart → Bool
all_away [] = true
all_away (h ∷ hs) = is_away h && all_away hs

abbrev pub freed_from : Mode → Mode
freed_from Runs = Runs
freed_from Parked = Freed
freed_from Freed = Freed

abbrev pub freed : Hart → Hart
freed h = record h { mode = freed_from h.mode }

abbrev pub leader_goes : Harts → Act → Move → Harts
leader_goes h act m = record h {
  leader = executes h.leader act m;
  others = map (shared m.store) h.others;
  actions = left_behind m.place h.actions;
  under = m.under;
}

-- a commit: the others are freed to adopt it
abbrev pub leader_commits : Harts → Act → Move → Harts
leader_commits h act m = record (leader_goes h act m) { others = map freed (map (shared m.store) h.others); wanted = false; commits = h.commits ++ m.state.bindings ∷ [] }

abbrev pub leader_waits : Harts → Harts
leader_waits h = record h { leader = waits h.leader; wanted = true }

-- its read or write fails
abbrev pub fails : Hart → Hart
fails h = record h { waited = false; failed = true }

abbrev pub leader_by : Harts → Act → Move → (failing : Bool) → Harts
leader_by h act m failing =
    if is_commit m.place act then (if all_away h.others then leader_commits h act m else leader_waits h)
    else (if failing && m.outside then record h { leader = fails h.leader } else leader_goes h act m)

abbrev pub leader_turn : Harts → (pick : ℕ) → (failing : Bool) → Harts
leader_turn h pick failing = let act = next_act h.actions in leader_by h act (move h.leader.state act h.under pick) failing

-- ---- another hart

abbrev pub other_goes : Harts → (n : ℕ) → Hart → Move → Harts
other_goes h n o m = record h { leader = shared m.store h.leader; others = slice_set (map (shared m.store) h.others) n (executes o Skip m) }

abbrev pub other_waits : Harts → (n : ℕ) → Hart → Mode → Harts
other_waits h n o mode = record h { others = slice_set h.others n (record o { mode = mode; waited = true }) }

abbrev pub last_of : List (List Binding) → List Binding
last_of [] = []
last_of (bs ∷ []) = bs
last_of (bs ∷ cs ∷ more) = last_of (cs ∷ more)

-- its memory has the words already
abbrev pub other_adopts : Harts → (n : ℕ) → Hart → Harts
other_adopts h n o =
    let bs = last_of h.commits in
    record h { others = slice_set h.others n (record { state = adopts o.state bs; mode = Runs; waited = false; failed = o.failed; count = o.count + 1; taken = o.taken ++ Adopt bs ∷ [] }) }

-- at a poll: it parks while a commit is wanted, and waits; freed, it waits while the commit is under way, and then adopts
abbrev pub at_poll : Mode → (wanted : Bool) → (under : Option (List Binding)) → Harts → (n : ℕ) → Hart → Move → Harts
at_poll Runs true under h n o m = other_waits h n o Parked
at_poll Runs false under h n o m = other_goes h n o m
at_poll Parked wanted under h n o m = other_waits h n o Parked
at_poll Freed wanted (Some old) h n o m = other_waits h n o Freed
at_poll Freed wanted None h n o m = other_adopts h n o

abbrev pub other_fails : Harts → (n : ℕ) → Hart → Harts
other_fails h n o = record h { others = slice_set h.others n (fails o) }

abbrev pub other_by : Place → Harts → (n : ℕ) → Hart → Move → (failing : Bool) → Harts
other_by AtPoll h n o m failing = at_poll o.mode h.wanted h.under h n o m
other_by AtOrder h n o m failing = other_goes h n o m
other_by Elsewhere h n o m failing = if failing && m.outside then other_fails h n o else other_goes h n o m

abbrev pub other_at : Harts → (n : ℕ) → Hart → (pick : ℕ) → (failing : Bool) → Harts
other_at h n o pick failing = let m = move o.state Skip None pick in other_by m.place h n o m failing

-- nothing happens in the turn of a hart that has ended, or that isn't there
abbrev pub other_turn : Harts → (n : ℕ) → Option Hart → (pick : ℕ) → (failing : Bool) → Harts
other_turn h n None pick failing = h
other_turn h n (Some o) pick failing = if is_on o then other_at h n o pick failing else h

unfoldable pub turn_of : Harts → (hart pick : ℕ) → (failing : Bool) → Harts
turn_of h zero pick failing = if is_on h.leader then leader_turn h pick failing else h
turn_of h (suc n) pick failing = other_turn h n (slice_get h.others n) pick failing

-- ---- a run

-- a turn: whose it is, by which pick it fetches, and whether its read or write fails
pub record Turn : Type 0 where
  pub hart : ℕ
  pub pick : ℕ
  pub failing : Bool

unfoldable pub harts_after : Harts → List Turn → Harts
harts_after h [] = h
harts_after h (t ∷ ts) = harts_after (turn_of h t.hart t.pick t.failing) ts

-- the start of a hart whose polls are to take these acts
abbrev pub first_of : (hart : ℕ) → Fields → (input : List (Option ℕ)) → List Act → State
first_of hart image input acts = first image input (record { hart = hart; acts = acts })

abbrev pub hart_from : State → Hart
hart_from s = record { state = s; mode = Runs; waited = false; failed = false; count = 0; taken = [] }

abbrev pub others_from : ℕ → Fields → (input : ℕ → List (Option ℕ)) → (count : ℕ) → List Hart
others_from n image input zero = []
others_from n image input (suc count) = hart_from (first_of n image (input n) []) ∷ others_from (suc n) image input count

-- so many harts beside hart 0, each with its input
abbrev pub first_harts : Fields → (input : ℕ → List (Option ℕ)) → (count : ℕ) → List Act → Harts
first_harts image input count actions = record {
  leader = hart_from (first_of 0 image (input 0) []);
  others = others_from 1 image input count;
  actions = actions;
  wanted = false;
  under = None;
  commits = [];
}
