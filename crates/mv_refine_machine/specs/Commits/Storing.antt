-- A run in the stub of commits, behind the call for a plan.
use Rattle.std.specs.Prelude.{ℕ, ◌≡◌, ◌≢◌, ◌+◌, ◌*◌, ◌<◌, ◌≤◌, Bool, true, List, [], ◌∷◌, ◌++◌, length, slice_get, Option, Some, None}
use Rattle.mv_bindings.specs.declared.binding.Binding.{Binding}
use Rattle.mv_isa.specs.Execution.{reg}
use Rattle.mv_isa.specs.Registers.{t0, t1, t2, t3}
use Rattle.mv_fetch.specs.Held.{Room}
use Rattle.mv_rv32.specs.Stepping.{access}
use Rattle.mv_patch.specs.declared.prepared.Pair.{Pair}
use Rattle.mv_patch.specs.Pairs.{pairs_between}
use Rattle.mv_machine.specs.Runs.{State, Going, plan_area, spelled_pairs, runs_from}
use Rattle.mv_machine.specs.Commits.{commit_from}
use Rattle.mv_select_code.specs.Trees.View.{AreRegisters}
use Rattle.mv_refine_machine.specs.MachineRuns.{spot_of}
use Rattle.mv_patch.specs.Stores.{stored_all}
use Rattle.mv_refine_machine.specs.Stores.Between.{IsSettled}
use Rattle.mv_refine_machine.specs.Commits.Watch.{is_sound}

-- A plan has fewer pairs than this, so that no address of its words wraps round.
abbrev pub plan_bound : ℕ
plan_bound = 65536

-- the words of a plan: the count, then address and word of each pair
abbrev pub spelled_plan : List Pair → List ℕ
spelled_plan pairs = length pairs ∷ spelled_pairs pairs

-- they are loaded from the plan area
abbrev pub HasPlan : Room → List Pair → Type 0
HasPlan room pairs = (k word : ℕ) → slice_get (spelled_plan pairs) k ≡ Some word → access.load room (plan_area + 4 * k) 4 ≡ Some word

-- the registers that the stub changes, behind the call: t0 to t3
abbrev pub IsOther : ℕ → Type 0
IsOther q = (q ≢ t0) × (q ≢ t1) × (q ≢ t2) × (q ≢ t3)

-- Texts under bindings; what is closed to what stands at a place; a run from a state by some picks.
module _ (closed : (pc address : ℕ) → Bool) (texts : List Binding → List ℕ) (first : State) (picks : List ℕ) where
  abbrev pub run : ℕ → State
  run i = runs_from first picks i

  abbrev pub under_way : ℕ → Option (List Binding)
  under_way i = commit_from first picks i

  abbrev pub Sound : ℕ → Type 0
  Sound t = is_sound closed texts (under_way t) (spot_of (run t)) ≡ true

  -- Old and new bindings, and the time behind the call for a plan; the room in which nothing is stored; and of the pairs between the texts those that
  -- are stored already, and those that the plan has.
  module _ (old new : List Binding) (start : ℕ) (begun : Room) (before coming : List Pair) where
    abbrev pub pairs : List Pair
    pairs = pairs_between (texts old) (texts new)

    -- a commit is under way where there is a pair
    abbrev pub opened : List Pair → Option (List Binding)
    opened [] = None
    opened (pair ∷ later) = Some old

    -- The bindings are the new ones, text is that of the old ones but for the pairs that are stored, and the plan area has the others, for which there is
    -- room.
    pub record Planned : Type 0 where
      pub going : (run start).stop ≡ Going
      pub bound : (run start).bindings ≡ new
      pub under : under_way start ≡ opened pairs
      pub joined : before ++ coming ≡ pairs
      pub room : (run start).room ≡ stored_all begun before
      pub settled : IsSettled (texts old) begun
      pub plan : HasPlan begun coming
      pub few : length pairs < plan_bound
      pub reserved : length pairs ≤ begun.reserve
      pub registers : AreRegisters (run start).regs
      pub sound : (t : ℕ) → t < start → Sound t

    -- In mid-commit: at a place, so many pairs of the plan stored and the others to come. All but pc, registers and text is as behind the call.
    pub record Storing (pc : ℕ) (done later : List Pair) (regs : List ℕ) (i : ℕ) : Type 0 where
      pub is : run i ≡ record (run start) { regs = regs; pc = pc; room = stored_all begun (before ++ done) }
      pub under : under_way i ≡ opened pairs
      pub joined : done ++ later ≡ coming
      pub registers : AreRegisters regs
      pub others : (q : ℕ) → IsOther q → reg regs q ≡ reg (run start).regs q
      pub sound : (t : ℕ) → t < i → Sound t

    -- where the loop begins anew: t0 stands before the next pair, and t1 has how many are left
    pub record AtLoop (pc : ℕ) (done later : List Pair) (i : ℕ) : Type 0 where
      pub regs : List ℕ
      pub stands : Storing pc done later regs i
      pub pointer : reg regs t0 ≡ plan_area + 8 * length done
      pub count : reg regs t1 ≡ length later

    -- Behind FENCE.I: text is that of the new bindings, each word has one choice, the whole reserve is spare, and no commit is under way.
    pub record Committed (pc i : ℕ) : Type 0 where
      pub regs : List ℕ
      pub is : run i ≡ record (run start) { regs = regs; pc = pc; room = access.fence (stored_all begun pairs) }
      pub under : under_way i ≡ None
      pub settled : IsSettled (texts new) (run i).room
      pub registers : AreRegisters regs
      pub others : (q : ℕ) → IsOther q → reg regs q ≡ reg (run start).regs q
      pub sound : (t : ℕ) → t < i → Sound t
