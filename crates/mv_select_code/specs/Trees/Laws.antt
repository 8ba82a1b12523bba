-- What the code of trees promises.
use Rattle.std.specs.Prelude.{ℕ, ◌≡◌, ◌≢◌, ◌+◌, ◌*◌, ◌<◌, ◌≤◌, true, List, All, sum_by}
use Rattle.mv_num.specs.Limits.{temp_limit}
use Rattle.mv_isa.specs.Execution.{Access}
use Rattle.mv_isa.specs.Registers.{gp, tp}
use Rattle.mv_isa.specs.Code.{LineFits, greatest_words}
use Rattle.mv_ir.specs.declared.tree.Tree.{Tree}
use Rattle.mv_ir.specs.Trees.{nodes, depth}
use Rattle.mv_select_code.specs.Trees.TreeCode.{Seats, tree_lines, tree_into, operand_lines, operand_register, temps_of}
use Rattle.mv_select_code.specs.Trees.View.{View, view_value, is_in_view, AreRegisters, AreScratch, AreSeats, HoldsTemps, HoldsNamed, Gives, Leaves}

-- Where temporaries, globals and functions stand as the view says, the code of a tree leads straight to registers of which r holds the tree's
-- value. Only as many registers as the tree is deep, from r on, have changed; memory hasn't.
abbrev pub TreesRun : Type 0 → Type 0
TreesRun M =
    (access : Access M) (m : M) (v : View) → HoldsNamed access m v →
    (t : Tree) (r : ℕ) (regs : List ℕ) → is_in_view v t ≡ true → AreRegisters regs → HoldsTemps access m v regs → AreScratch r (r + depth t) →
    Gives access m v.entry r (r + depth t) r (view_value v t) (tree_lines v.seats t r) regs

-- The same for another register d: of the others only as many from r on as the tree is deep have changed.
abbrev pub TreesLeave : Type 0 → Type 0
TreesLeave M =
    (access : Access M) (m : M) (v : View) → HoldsNamed access m v →
    (t : Tree) (d r : ℕ) (regs : List ℕ) → is_in_view v t ≡ true → AreRegisters regs → HoldsTemps access m v regs → AreScratch r (r + depth t) → 0 < d → d < 32 → d ≢ gp → d ≢ tp →
    Leaves access m v.entry r (r + depth t) d (view_value v t) (tree_into v.seats t d r) regs

-- The same for an operand, whose register may be its own.
abbrev pub OperandsStand : Type 0 → Type 0
OperandsStand M =
    (access : Access M) (m : M) (v : View) → HoldsNamed access m v →
    (t : Tree) (r : ℕ) (regs : List ℕ) → is_in_view v t ≡ true → AreRegisters regs → HoldsTemps access m v regs → AreScratch r (r + depth t) →
    Gives access m v.entry r (r + depth t) (operand_register v.seats t r) (view_value v t) (operand_lines v.seats t r) regs

-- the code of a tree has at most two words for each node
abbrev pub TreesAreShort : Type 0
TreesAreShort = (s : Seats) (t : Tree) (r : ℕ) → sum_by greatest_words (tree_lines s t r) ≤ 2 * nodes t

-- the fields of its instructions fit, where the registers are there and the temporaries are within the greatest frame
abbrev pub TreesFit : Type 0
TreesFit = (s : Seats) → AreSeats s → (t : Tree) (r : ℕ) → r + depth t ≤ 32 → temps_of t ≤ temp_limit → All LineFits (tree_lines s t r)
