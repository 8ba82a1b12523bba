-- The calling convention of generated code. Arguments stand in a0 to a7 and the return address in ra; the result comes back in a0. gp and tp point into
-- data and are never changed. The callee sets back sp and s1 to s11 and leaves the stack from sp up as it was; every other register it may change. s10 has
-- the number of live attributed frames, and s11 how many calls are left: one less in the callee than in its caller. For each of these, and one more, there
-- is room for a frame below sp.
use Rattle.std.specs.Prelude.{ℕ, ◌≡◌, ◌≢◌, ◌+◌, ◌*◌, ◌%◌, ◌^◌, ◌<◌, ◌≤◌, ◌⊎◌, Bool, true, cond, ltb, List, [], ◌∷◌, length, slice_index, slice_index_or, Some, None}
pub use Rattle.mv_num.specs.Limits.{frame_limit}
use Rattle.mv_ast.specs.declared.program.Known.{Known}
use Rattle.mv_bindings.specs.Traps.{depth_limit, null_call, call_too_deep}
use Rattle.mv_isa.specs.Execution.{Access, reg}
use Rattle.mv_isa.specs.Registers.{ra, sp, s1, a0, s2, s10, s11, t3}
use Rattle.mv_ir.specs.World as ir
use Rattle.mv_ir.specs.World.{World}
use Rattle.mv_ir.specs.Meaning.{Goal, Nowhere, Null, At, Inside, goal_of}
use Rattle.mv_ir.specs.Outcome.{End, Returned, Trapped, More, Stuck, Call, Calls, Bound}
use Rattle.mv_select_code.specs.Trees.View.{AreRegisters}
use Rattle.mv_select_code.specs.Control.Runs.{Machine, outside}

-- What the functions of a program share: the address of each global and the number of its words, where each function begins, where the stub of each trap
-- and that of orders and polls stand, which known functions may be asked for, and from where to where the stack goes.
pub record Layout : Type 0 where
  pub place : ℕ → ℕ
  pub size : ℕ → ℕ
  pub entry : ℕ → ℕ
  pub trap : ℕ → ℕ
  pub commit : ℕ
  pub may_ask : Known → Bool
  pub bottom : ℕ
  pub top : ℕ

-- of what a call costs, what is left at the callee's first word for its entry, its return and a jump where it is bound; at a slot's first word; and at that of
-- a slot of four words, for its test too
abbrev pub entry_cost : ℕ
entry_cost = 45

abbrev pub slot_cost : ℕ
slot_cost = 47

abbrev pub point_cost : ℕ
point_cost = 55

-- what a function does at a bound, of which nothing more is said where that is used up
abbrev pub call_within : Bound → (f : ℕ) (args : List ℕ) (depth frames : ℕ) → World → Call
call_within [] f args depth frames w = record { cost = 0; end = More w }
call_within (calls ∷ below) f args depth frames w = calls f args depth frames w

-- nothing, at a bound, of which nothing more is said where that is used up
abbrev pub nothing_within : Bound → World → Call
nothing_within [] w = record { cost = 0; end = More w }
nothing_within (calls ∷ below) w = record { cost = 0; end = Returned None w }

-- what a call with a goal does: null and a call too many are traps
abbrev pub call_at : Goal → Bound → (args : List ℕ) (depth frames : ℕ) → World → Call
call_at Nowhere bound args depth frames w = record { cost = 0; end = Stuck }
call_at Null bound args depth frames w = record { cost = 0; end = Trapped null_call w }
call_at (At f) bound args depth frames w =
    cond (ltb depth depth_limit) (call_within bound f args depth frames w) (record { cost = 0; end = Trapped call_too_deep w })
call_at Inside bound args depth frames w = cond (ltb depth depth_limit) (nothing_within bound w) (record { cost = 0; end = Trapped call_too_deep w })

-- a call through a pointer switch
abbrev pub call_through : ir.Setting → Bound → (global : ℕ) → List ℕ → (depth frames : ℕ) → World → Call
call_through setting bound g args depth frames w = call_at (goal_of setting.numbers (setting.switched g w)) bound args depth frames w

-- an address that a jump by a register can go to
abbrev pub IsTarget : ℕ → Type 0
IsTarget a = (a < 2 ^ 32) × (a % 4 ≡ 0)

-- sp and s1 to s11
abbrev pub IsSaved : ℕ → Type 0
IsSaved q = (q ≡ sp) ⊎ ((q ≡ s1) ⊎ ((s2 ≤ q) × (q < t3)))

-- a word of the stack from an address up
abbrev pub IsAbove : Layout → ℕ → ℕ → Type 0
IsAbove y a b = (a ≤ b) × (b < y.top) × (b % 4 ≡ 0)

-- So many instructions are paid for in all, the budget; and at least `far` of them are asked for where the bound is used up.
module _ {M : Type 0} (access : Access M) (y : Layout) (machine : Machine M) (budget far : ℕ) where
  abbrev words_of : World → ℕ → List ℕ
  words_of w g = slice_index_or w.globals g []

  -- memory holds the globals of a world
  pub record HoldsGlobals (w : World) (m : M) : Type 0 where
    pub sizes : (g : ℕ) → length (words_of w g) ≡ y.size g
    pub words : (g i : ℕ) → i < y.size g → slice_index (words_of w g) i < 2 ^ 32
    pub loads : (g i : ℕ) → i < y.size g → access.load m (y.place g + 4 * i) 4 ≡ Some (slice_index (words_of w g) i)

  -- time i of the run stands at a place, with 32 words in registers and a world in memory, each instruction so far from a sound place
  pub record Stands (pc : ℕ) (w : World) (i : ℕ) : Type 0 where
    pub at : (machine.run i).pc ≡ pc
    pub calm : machine.is_calm (outside w) (machine.run i).memory ≡ true
    pub sound : (t : ℕ) → t < i → machine.is_sound (machine.run t) ≡ true
    pub globals : HoldsGlobals w (machine.run i).memory
    pub are : AreRegisters (machine.run i).regs

  -- time i has what a callee finds, called with arguments from a frame with so many above that of main and so many live attributed ones
  pub record Enters (depth frames : ℕ) (args : List ℕ) (i : ℕ) : Type 0 where
    pub arguments : (j : ℕ) → j < length args → reg (machine.run i).regs (a0 + j) ≡ slice_index args j
    pub live : reg (machine.run i).regs s10 ≡ frames
    pub counts : frames ≤ depth
    pub left : reg (machine.run i).regs s11 + 1 + depth ≡ depth_limit
    pub even : reg (machine.run i).regs sp % 4 ≡ 0
    pub room : y.bottom + (reg (machine.run i).regs s11 + 1) * frame_limit ≤ reg (machine.run i).regs sp
    pub within : reg (machine.run i).regs sp ≤ y.top

  -- what a callee sets back, from time i to time j
  pub record SetsBack (i j : ℕ) : Type 0 where
    pub registers : (q : ℕ) → IsSaved q → reg (machine.run j).regs q ≡ reg (machine.run i).regs q
    pub stack : (b : ℕ) → IsAbove y (reg (machine.run i).regs sp) b → access.load (machine.run j).memory b 4 ≡ access.load (machine.run i).memory b 4

  -- a later time stands where a call that was made at time i returns to
  pub record Returns (spare k i back : ℕ) (w : World) (j : ℕ) : Type 0 where
    pub stands : Stands back w j
    pub kept : SetsBack i j
    pub paid : j + spare ≤ budget
    pub asked : far ≤ j + k

  -- time j stands at the stub of a trap
  pub record Stops (c : ℕ) (w : World) (j : ℕ) : Type 0 where
    pub at : (machine.run j).pc ≡ y.trap c
    pub calm : machine.is_calm (outside w) (machine.run j).memory ≡ true
    pub sound : (t : ℕ) → t < j → machine.is_sound (machine.run t) ≡ true
    pub paid : j ≤ budget

  -- the bound is used up, and time j is as late as was asked for
  pub record IsLate (w : World) (j : ℕ) : Type 0 where
    pub calm : machine.is_calm (outside w) (machine.run j).memory ≡ true
    pub sound : (t : ℕ) → t < j → machine.is_sound (machine.run t) ≡ true
    pub paid : j ≤ budget
    pub asked : far ≤ j

  -- what follows a call that was made at time i; one that has no meaning promises nothing
  abbrev pub FollowsCall : (spare k i back : ℕ) → End → Type 0
  FollowsCall spare k i back (Returned None w) = (j : ℕ) × Returns spare k i back w j
  FollowsCall spare k i back (Returned (Some v) w) = (j : ℕ) × Returns spare k i back w j × (reg (machine.run j).regs a0 ≡ v)
  FollowsCall spare k i back (Trapped c w) = (j : ℕ) × Stops c w j
  FollowsCall spare k i back (More w) = (j : ℕ) × IsLate w j
  FollowsCall spare k i back Stuck = Unit {0}

  -- Time i stands at a place with what a callee finds there and `extra` more than the cost paid for, at a bound of k: what follows is what the call means.
  abbrev pub Answers : (extra k pc back depth frames : ℕ) → List ℕ → (World → Call) → ℕ → Type 0
  Answers extra k pc back depth frames args call i =
      (spare : ℕ) (w : World) → Stands pc w i → Enters depth frames args i → i + (spare + extra + (call w).cost) ≤ budget → far ≤ i + k →
      FollowsCall spare k i back (call w).end

  -- Time i has what a slot of four words finds: as a callee does, but one call more is left, which it counts itself.
  pub record Comes (depth frames : ℕ) (args : List ℕ) (i : ℕ) : Type 0 where
    pub arguments : (j : ℕ) → j < length args → reg (machine.run i).regs (a0 + j) ≡ slice_index args j
    pub live : reg (machine.run i).regs s10 ≡ frames
    pub counts : frames ≤ depth
    pub left : reg (machine.run i).regs s11 + depth ≡ depth_limit
    pub even : reg (machine.run i).regs sp % 4 ≡ 0
    pub room : y.bottom + reg (machine.run i).regs s11 * frame_limit ≤ reg (machine.run i).regs sp
    pub within : reg (machine.run i).regs sp ≤ y.top

  -- what it sets back, from time i to time j: s11 counts the call still
  pub record SetsBackCounted (i j : ℕ) : Type 0 where
    pub registers : (q : ℕ) → IsSaved q → q ≢ s11 → reg (machine.run j).regs q ≡ reg (machine.run i).regs q
    pub counted : reg (machine.run j).regs s11 + 1 ≡ reg (machine.run i).regs s11
    pub stack : (b : ℕ) → IsAbove y (reg (machine.run i).regs sp) b → access.load (machine.run j).memory b 4 ≡ access.load (machine.run i).memory b 4

  pub record ReturnsCounted (spare k i back : ℕ) (w : World) (j : ℕ) : Type 0 where
    pub stands : Stands back w j
    pub kept : SetsBackCounted i j
    pub paid : j + spare ≤ budget
    pub asked : far ≤ j + k

  -- what follows where a slot of four words was come to at time i
  abbrev pub FollowsCounted : (spare k i back : ℕ) → End → Type 0
  FollowsCounted spare k i back (Returned None w) = (j : ℕ) × ReturnsCounted spare k i back w j
  FollowsCounted spare k i back (Returned (Some v) w) = (j : ℕ) × ReturnsCounted spare k i back w j × (reg (machine.run j).regs a0 ≡ v)
  FollowsCounted spare k i back (Trapped c w) = (j : ℕ) × Stops c w j
  FollowsCounted spare k i back (More w) = (j : ℕ) × IsLate w j
  FollowsCounted spare k i back Stuck = Unit {0}

  -- Slots of four words return behind them, and do what a call through their pointer switch means: they test it, and count the call.
  abbrev pub PointsKeep : ir.Setting → Bound → Type 0
  PointsKeep setting bound =
      (g depth frames : ℕ) (args : List ℕ) (at i : ℕ) → 0 < y.size g → length args < 9 → machine.text.point at ≡ Some (y.place g) →
      (spare : ℕ) (w : World) → Stands at w i → Comes depth frames args i → i + (spare + point_cost + (call_through setting bound g args depth frames w).cost) ≤ budget → far ≤ i + length bound →
      FollowsCounted spare (length bound) i (at + 16) (call_through setting bound g args depth frames w).end

  -- So many functions keep the convention at a bound of k, called at their first words; and so do slots, which return behind their two words. A call of any
  -- other function has no meaning.
  pub record Convention (count : ℕ) (calls : Calls) (k : ℕ) : Type 0 where
    pub functions : (f depth frames : ℕ) (args : List ℕ) (back i : ℕ) → length args < 9 → IsTarget back → reg (machine.run i).regs ra ≡ back →
        Answers entry_cost k (y.entry f) back depth frames args (calls f args depth frames) i
    pub slots : (f depth frames : ℕ) (args : List ℕ) (at i : ℕ) → length args < 9 → machine.text.slot at ≡ Some f →
        Answers slot_cost k at (at + 8) depth frames args (calls f args depth frames) i
    pub others : (f depth frames : ℕ) (args : List ℕ) (w : World) → count ≤ f → (calls f args depth frames w).end ≡ Stuck

  -- they keep it at each bound, and so do slots of four words, which may trap where the bound is used up
  abbrev pub Conventions : ir.Setting → Bound → Type 0
  Conventions setting [] = PointsKeep setting []
  Conventions setting (calls ∷ below) = Convention (length setting.numbers) calls (length below) × PointsKeep setting (calls ∷ below) × Conventions setting below
