-- What it is for a time of a run to stand at a place with what the statements have there, and for a stretch of code to do what they mean.
use Rattle.std.specs.Prelude.{ℕ, ◌≡◌, ◌+◌, ◌<◌, ◌≤◌, ◌⊎◌, true, List, [], ◌∷◌, Some, None}
use Rattle.mv_isa.specs.Execution.{Access, reg}
use Rattle.mv_isa.specs.Registers.{a0}
use Rattle.mv_ir.specs.World.{World}
use Rattle.mv_ir.specs.Outcome.{State, End, Returned, Trapped, More, Stuck, Outcome, Next, Leaves, Restarts, Ends, Run, Bound}
use Rattle.mv_select_code.specs.Statements.StatementCode.{trap_label}
use Rattle.mv_select_code.specs.Statements.Frames.{Site, Shows}
use Rattle.mv_select_code.specs.declared.control.enclosing.Enclosing.{Enclosing}
use Rattle.mv_select_code.specs.Control.FlowCode.{enclosing_at}
use Rattle.mv_select_code.specs.Control.Runs.{Machine, Calm}

-- a bound, or one below it
abbrev pub IsWithin : Bound → Bound → Type 0
IsWithin bound [] = bound ≡ []
IsWithin bound (calls ∷ below) = (bound ≡ calls ∷ below) ⊎ IsWithin bound below

-- `place` is where each label stands, `end` the label of the end of the function. So many instructions are paid for in all, the budget; and at least
-- `far` of them are asked for where the bound is used up.
module _ {M : Type 0} (access : Access M) (s : Site) (machine : Machine M) (place : ℕ → ℕ) (end budget far : ℕ) where
  abbrev pub SoundBefore : ℕ → Type 0
  SoundBefore i = (t : ℕ) → t < i → machine.is_sound (machine.run t) ≡ true

  -- Time i of the run shows a state at a place. Besides the instructions up to there, `spare` more are paid for; and with those of a bound of k there
  -- are `over` more than are asked for.
  pub record Here (over spare k pc : ℕ) (l : State) (i : ℕ) : Type 0 where
    pub at : (machine.run i).pc ≡ pc
    pub calm : Calm access s machine l.world (machine.run i).memory
    pub shows : Shows s access l (machine.run i).regs (machine.run i).memory
    pub sound : SoundBefore i
    pub paid : i + spare ≤ budget
    pub asked : far + over ≤ i + k

  -- time i stands at the stub of a trap
  pub record AtTrap (c : ℕ) (w : World) (i : ℕ) : Type 0 where
    pub at : (machine.run i).pc ≡ place (trap_label c)
    pub calm : Calm access s machine w (machine.run i).memory
    pub sound : SoundBefore i
    pub paid : i ≤ budget

  -- the bound is used up, and time i is as late as was asked for
  pub record IsCut (w : World) (i : ℕ) : Type 0 where
    pub calm : Calm access s machine w (machine.run i).memory
    pub sound : SoundBefore i
    pub paid : i ≤ budget
    pub asked : far ≤ i

  -- what follows where a function ends; code that has no meaning promises nothing
  abbrev pub FollowsEnd : (spare k : ℕ) → End → Type 0
  FollowsEnd spare k (Returned None w) = ⊥
  FollowsEnd spare k (Returned (Some v) w) =
      (j : ℕ) × (l : State) × (l.world ≡ w) × Here 0 spare k (place end) l j × (reg (machine.run j).regs a0 ≡ v)
  FollowsEnd spare k (Trapped c w) = (j : ℕ) × AtTrap c w j
  FollowsEnd spare k (More w) = (j : ℕ) × IsCut w j
  FollowsEnd spare k Stuck = Unit {0}

  -- what follows, as an outcome says, by what encloses the code: a later time stands at the code's end, or where a label leads
  abbrev pub Follows : (spare k : ℕ) → List Enclosing → ℕ → Outcome → Type 0
  Follows spare k around next (Next l) = (j : ℕ) × Here 0 spare k next l j
  Follows spare k around next (Leaves n l) = (j : ℕ) × Here 0 spare k (place (enclosing_at around n end).end) l j
  Follows spare k around next (Restarts n l) = (j : ℕ) × Here 1 spare k (place (enclosing_at around n end).start) l j
  Follows spare k around next (Ends x) = FollowsEnd spare k x

  -- The code from pc to next does what m says, whenever the run comes there with its cost paid for.
  abbrev pub Does : (spare k : ℕ) → List Enclosing → (pc next : ℕ) → (State → Run) → Type 0
  Does spare k around pc next m =
      (l : State) (i : ℕ) → Here 0 (spare + (m l).cost) k pc l i → Follows spare k around next (m l).outcome
