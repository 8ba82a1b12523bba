-- What the stub does on an image, from its call for a plan to its return.
use Rattle.std.specs.Prelude.{ℕ, ◌≡◌, ◌≢◌, ◌+◌, ◌*◌, ◌<◌, ◌≤◌, ◌^◌, Bool, true, false, List, ◌++◌, length, Option}
use Rattle.mv_num.specs.Words.{add}
use Rattle.mv_bindings.specs.declared.binding.Binding.{Binding}
use Rattle.mv_isa.specs.Execution.{reg, put}
use Rattle.mv_isa.specs.Registers.{ra, t0, t1, t2, a0, t3}
use Rattle.mv_rv32.specs.Stepping.{access}
use Rattle.mv_image.specs.Spelling.{Fields}
use Rattle.mv_fetch.specs.Held.{Room}
use Rattle.mv_patch.specs.declared.prepared.Pair.{Pair}
use Rattle.mv_patch.specs.Plans.{plan_between}
use Rattle.mv_patch.specs.Stores.{stored_all}
use Rattle.mv_ir.specs.World.{World}
use Rattle.mv_machine.specs.Runs.{State, Going, bytes_to_come, plan_area, runs_from}
use Rattle.mv_machine.specs.Commits.{commit_from}
use Rattle.mv_select_code.specs.Trees.View.{AreRegisters}
use Rattle.mv_select.specs.Calls.Convention.{IsTarget}
use Rattle.mv_refine_machine.specs.Layout.{IsOutsideText}
use Rattle.mv_refine_machine.specs.MachineRuns.{spot_of}
use Rattle.mv_refine_machine.specs.Commits.Watch.{texts_of, is_sound}
use Rattle.mv_refine_machine.specs.Commits.Storing.{HasPlan}
use Rattle.mv_refine_machine.specs.Commits.Watched.{watched, IsQuiet}

-- What a call for a plan leaves, of a state in which it is made, with an answer and the world afterwards: the new bindings; and of the pairs some in text already, the others in
-- the plan area. Orders and flips have none in text, and what a hart adopts is there at once.
pub record IsPlanned (image : Fields) (after : World) (answer : ℕ) (now next : State) : Type 0 where
  pub regs : next.regs ≡ put now.regs a0 answer
  pub pc : next.pc ≡ add now.pc 4
  pub going : next.stop ≡ Going
  pub begun : Room
  pub before : List Pair
  pub coming : List Pair
  pub joined : before ++ coming ≡ plan_between image now.bindings after.bindings
  pub room : next.room ≡ stored_all begun before
  pub text : begun.held.text ≡ now.room.held.text
  pub older : begun.held.older ≡ now.room.held.older
  pub stack : begun.held.stack ≡ now.room.held.stack
  pub spare : begun.spare ≡ now.room.spare
  pub reserve : begun.reserve ≡ now.room.reserve
  pub plan : HasPlan begun coming
  pub size : length begun.held.plan ≡ length now.room.held.plan
  pub stack_stays : next.room.held.stack ≡ now.room.held.stack
  pub bindings : next.bindings ≡ after.bindings
  pub input : next.input ≡ bytes_to_come after.input
  pub hart : next.hart ≡ after.hart
  pub actions : next.actions ≡ after.actions
  pub output : next.output ≡ after.output
  pub log : next.log ≡ after.log

-- nothing of the plan area is closed to the stub, which stands from an address on
abbrev pub IsPlanOpen : (closed : (pc address : ℕ) → Bool) → (stub : ℕ) → Type 0
IsPlanOpen closed stub = (pc a : ℕ) → stub ≤ pc → pc < stub + 48 → plan_area ≤ a → closed pc a ≡ false

module _ (closed : (pc address : ℕ) → Bool) (image : Fields) (first : State) (picks : List ℕ) where
  abbrev pub at : ℕ → State
  at i = runs_from first picks i

  abbrev pub under : ℕ → Option (List Binding)
  under i = commit_from first picks i

  abbrev pub SoundAt : ℕ → Type 0
  SoundAt t = is_sound closed (texts_of image) (under t) (spot_of (at t)) ≡ true

  abbrev pub QuietAt : World → ℕ → Type 0
  QuietAt w i = IsQuiet image w (watched (at i) (under i))

  -- Time i stands in calm at the stub, and its call is one for a plan.
  pub record AtStub (pc back : ℕ) (w after : World) (answer i : ℕ) : Type 0 where
    pub here : (at i).pc ≡ pc
    pub of : (at i).image ≡ image
    pub quiet : QuietAt w i
    pub registers : AreRegisters (at i).regs
    pub link : reg (at i).regs ra ≡ back
    pub target : IsTarget back
    pub planned : IsPlanned image after answer (at i) (at (i + 1))
    pub word : answer < 2 ^ 32
    pub sound : (t : ℕ) → t < i → SoundAt t

  -- A later time is back from the stub, in calm with the world afterwards; the answer is in a0, and t0 to t3 alone have changed beside it.
  pub record IsBack (back : ℕ) (w after : World) (answer : ℕ) (coming : List Pair) (i j : ℕ) : Type 0 where
    pub here : (at j).pc ≡ back
    pub quiet : QuietAt after j
    pub registers : AreRegisters (at j).regs
    pub value : reg (at j).regs a0 ≡ answer
    pub others : (q : ℕ) → q ≢ t0 → q ≢ t1 → q ≢ t2 → q ≢ t3 → q ≢ a0 → reg (at j).regs q ≡ reg (at i).regs q
    pub loads : (a : ℕ) → IsOutsideText a → access.load (at j).room a 4 ≡ access.load (at (i + 1)).room a 4
    pub sound : (t : ℕ) → t < j → SoundAt t
    pub count : j ≡ i + 6 + 7 * length coming
