-- What a tree is read against: the frame, the globals and the functions, and where they stand on the machine.
use Rattle.std.specs.Prelude.{ℕ, ◌≡◌, ◌≢◌, ◌^◌, ◌<◌, ◌≤◌, ◌⊎◌, Bool, true, ◌&&◌, ltb, List, length, slice_index, Some, None}
use Rattle.mv_num.specs.Words.{add}
use Rattle.mv_isa.specs.declared.labelled.Line.{Line}
use Rattle.mv_isa.specs.Execution.{Access, reg}
use Rattle.mv_num.specs.Regions.{gp_value, tp_value}
use Rattle.mv_isa.specs.Registers.{sp, gp, tp, t0, s1, s10, t3}
use Rattle.mv_ir.specs.declared.tree.Tree.{Tree}
use Rattle.mv_ir.specs.declared.tree.Tree.TheOpen.{Tree-F}
use Rattle.mv_ir.specs.declared.tree.Tree.TheOpen as tree
use Rattle.mv_ir.specs.declared.tree.Tree.TheFolds.{fold-Tree}
use Rattle.mv_ir.specs.Trees.{found, scalar, value}
use Rattle.mv_select_code.specs.Trees.TreeCode.{Seats, temp_offset}
use Rattle.mv_select_code.specs.Trees.Straight.{Straight}
use Rattle.mv_select_code.specs.declared.trees.places.Pin.{Pin}

-- `seats` says where globals and temporaries stand, and `is_read` which globals the code may read. `entry` is the address of each function, and `numbers`
-- the number that stands for it in the intermediate code. `bound` has the values that switches are read as.
pub record View : Type 0 where
  pub seats : Seats
  pub is_read : ℕ → Bool
  pub globals : List (List ℕ)
  pub bound : List (ℕ × ℕ)
  pub entry : ℕ → ℕ
  pub numbers : List ℕ
  pub temps : List ℕ

-- the value of a tree
abbrev pub view_value : View → Tree → ℕ
view_value v t = value v.numbers v.bound t v.temps v.globals

-- ---- what a tree names is there

abbrev pub names_layer : View → Tree-F Bool → Bool
names_layer v (tree.Number n) = ltb n (2 ^ 32)
names_layer v (tree.Temp t) = ltb t (length v.temps)
names_layer v (tree.Global g) = v.is_read g
names_layer v (tree.Function f) = ltb f (length v.numbers)
names_layer v (tree.Unary o a) = a
names_layer v (tree.Binary o a b) = a && b
names_layer v (tree.Narrow k a) = a

-- a tree's numbers are words, and its temporaries, globals and functions are in view
unfoldable pub is_in_view : View → Tree → Bool
is_in_view v = fold-Tree Bool (names_layer v)

-- ---- registers

-- 32 registers, each with a word; gp and tp point into data
pub record AreRegisters (regs : List ℕ) : Type 0 where
  pub count : length regs ≡ 32
  pub words : (q : ℕ) → reg regs q < 2 ^ 32
  pub global : reg regs gp ≡ gp_value
  pub thread : reg regs tp ≡ tp_value

-- registers from one to below another that no frame counts on: some of t0 to t2 and s0, or of t3 to t6
abbrev pub AreScratch : ℕ → ℕ → Type 0
AreScratch lo hi = ((t0 ≤ lo) × (hi ≤ s1)) ⊎ ((t3 ≤ lo) × (hi ≤ 32))

-- temporaries and numbers stand in none of these, but in some of s1, a0 to a7 and s2 to s9, each temporary in its own
pub record AreSeats (s : Seats) : Type 0 where
  pub seat : (t q : ℕ) → s.register t ≡ Some q → (s1 ≤ q) × (q < s10)
  pub apart : (t u q : ℕ) → s.register t ≡ Some q → s.register u ≡ Some q → t ≡ u
  pub pin : (n q : ℕ) → s.pinned n ≡ Some q → (s1 ≤ q) × (q < s10)

-- a pin of this kind
abbrev pub IsPin : Pin → Type 0
IsPin p = (s1 ≤ p.register) × (p.register < s10)

-- registers from lo to below hi may have changed, and no others
pub record Changes (lo hi : ℕ) (regs regs' : List ℕ) : Type 0 where
  pub are : AreRegisters regs'
  pub others : (q : ℕ) → (q < lo) ⊎ (hi ≤ q) → reg regs' q ≡ reg regs q

-- ---- the machine

module _ {M : Type 0} (access : Access M) (m : M) where
  -- temporaries and numbers stand in their registers, and temporaries that have none in the frame
  pub record HoldsTemps (v : View) (regs : List ℕ) : Type 0 where
    pub seats : AreSeats v.seats
    pub words : (t : ℕ) → t < length v.temps → slice_index v.temps t < 2 ^ 32
    pub in_register : (t q : ℕ) → t < length v.temps → v.seats.register t ≡ Some q → reg regs q ≡ slice_index v.temps t
    pub pinned : (n q : ℕ) → v.seats.pinned n ≡ Some q → reg regs q ≡ n
    pub in_frame : (t : ℕ) → t < length v.temps → v.seats.register t ≡ None → access.load m (add (reg regs sp) (temp_offset t)) 4 ≡ Some (slice_index v.temps t)

  -- memory holds the globals that are read, none of which is read as a bound value; a function's number is the address of its entry
  pub record HoldsNamed (v : View) : Type 0 where
    pub places : (g : ℕ) → v.is_read g ≡ true → v.seats.place g < 2 ^ 32
    pub words : (g : ℕ) → v.is_read g ≡ true → scalar v.globals g < 2 ^ 32
    pub loads : (g : ℕ) → v.is_read g ≡ true → access.load m (v.seats.place g) 4 ≡ Some (scalar v.globals g)
    pub free : (g : ℕ) → v.is_read g ≡ true → found v.bound g ≡ None
    pub entries : (f : ℕ) → f < length v.numbers → slice_index v.numbers f ≡ v.entry f
    pub entry_words : (f : ℕ) → f < length v.numbers → v.entry f < 2 ^ 32

  -- lines lead from registers to ones where r holds a value, and only registers from lo to below hi have changed
  pub record Gives (entry : ℕ → ℕ) (lo hi r value : ℕ) (lines : List Line) (regs : List ℕ) : Type 0 where
    pub after : List ℕ
    pub runs : Straight access m entry lines regs after
    pub changes : Changes lo hi regs after
    pub holds : reg after r ≡ value

  -- lines lead from registers to ones where d holds a value; of the others only some from lo to below hi have changed
  pub record Leaves (entry : ℕ → ℕ) (lo hi d value : ℕ) (lines : List Line) (regs : List ℕ) : Type 0 where
    pub after : List ℕ
    pub runs : Straight access m entry lines regs after
    pub are : AreRegisters after
    pub others : (q : ℕ) → (q < lo) ⊎ (hi ≤ q) → q ≢ d → reg after q ≡ reg regs q
    pub holds : reg after d ≡ value
