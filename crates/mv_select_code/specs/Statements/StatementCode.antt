-- The code of statements without control. Each tree of a statement is computed first, in written order; an operand that stands in a register already
-- stays there, and a temporary whose value stands in its register is set by no code.
use Rattle.std.specs.Prelude.{ℕ, zero, suc, ◌+◌, ◌-◌, ◌*◌, ◌^◌, ◌≤◌, Bool, false, cond, eqb, ltb, List, [], ◌∷◌, ◌++◌, ℤ, pos, Option, Some, None, unwrap_or, slice_index_or}
use Rattle.mv_bindings.specs.Traps as traps
use Rattle.mv_isa.specs.declared.instr.Instr.{Instr}
use Rattle.mv_isa.specs.declared.instr.Instr.TheVariants.{Lui, Lw, Sw, Addi, Andi, Slli, Srli, Add, Div, Divu, Rem, Remu}
use Rattle.mv_isa.specs.declared.labelled.Line.{Line}
use Rattle.mv_isa.specs.declared.labelled.Line.TheVariants.{Word, Branch}
pub use Rattle.mv_isa.specs.Labels.{trap_label}
use Rattle.mv_num.specs.Words.{add}
use Rattle.mv_isa.specs.Registers.{x0, sp, a0, t0, t3, t4}
use Rattle.mv_ir.specs.declared.tree.Tree.{Tree}
use Rattle.mv_select_code.specs.Trees.TreeCode.{Seats, upper_bits, lower_bits, near, one, two, number_lines, load_lines, temp_offset, tree_into, literal, unless, own_register, operand_lines, operand_register}
use Rattle.mv_select_code.specs.declared.trees.leaves.Based.{Based}
use Rattle.mv_select_code.specs.declared.statements.elements.Home.{Home}
use Rattle.mv_select_code.specs.declared.statements.elements.Home.TheVariants as home

-- t3 has the first tree of a statement, t0 the second tree, and t4 sizes and parts of addresses
abbrev pub first : ℕ
first = t3

abbrev pub second : ℕ
second = t0

abbrev pub third : ℕ
third = t4

abbrev pub write_to : Option ℕ → (t r : ℕ) → Instr
write_to (Some q) t r = Addi q r (pos 0)
write_to None t r = Sw sp r (pos (temp_offset t))

-- a register into a temporary
unfoldable pub write_temp : Seats → ℕ → ℕ → Instr
write_temp s t r = write_to (s.register t) t r

-- the register in which the new value of a temporary is computed: its own, and the first one for a temporary of the frame
unfoldable pub target : Seats → ℕ → ℕ
target s t = unwrap_or (s.register t) first

abbrev pub keep_in : Option ℕ → ℕ → List Line
keep_in (Some q) t = []
keep_in None t = one (Sw sp first (pos (temp_offset t)))

-- from there into the frame
unfoldable pub keep_lines : Seats → ℕ → List Line
keep_lines s t = keep_in (s.register t) t

-- whether a temporary's register, if it has one, is that in which a value stands already
abbrev pub is_seat : Option ℕ → Option ℕ → Bool
is_seat None own = false
is_seat (Some q) None = false
is_seat (Some q) (Some p) = eqb q p

-- a division of a by b into d, by its number; one that names none gives 0
unfoldable pub division : (o d a b : ℕ) → Instr
division o d a b = slice_index_or (Div d a b ∷ Divu d a b ∷ Rem d a b ∷ Remu d a b ∷ []) o (Addi d x0 (pos 0))

-- ---- divisions of words by a power of two, which are one instruction with a number

-- the k below a bound for which 2 ^ k is a number
unfoldable pub power_below : (bound n : ℕ) → Option ℕ
power_below zero n = None
power_below (suc k) n = cond (eqb n (2 ^ k)) (Some k) (power_below k n)

-- the k for which a written divisor is 2 ^ k, where a shift by k is the quotient without signs, or the last k bits, at most 11, are the remainder
unfoldable pub power_of : (o : ℕ) → Option ℕ → Option ℕ
power_of o None = None
power_of o (Some n) = slice_index_or (None ∷ power_below 32 n ∷ None ∷ power_below 12 n ∷ []) o None

-- that quotient or remainder of a into d
unfoldable pub power_division : (o k d a : ℕ) → Instr
power_division o k d a = cond (eqb o 1) (Srli d a (pos k)) (Andi d a (pos (2 ^ k - 1)))

-- ---- elements: the place of one is its index times 4, and the place of the first

abbrev pub offset_by : Option Based → ℕ → ℤ
offset_by (Some n) at = n.offset
offset_by None at = lower_bits at

-- the lower part of that place
abbrev pub element_offset : Home → ℤ
element_offset (home.Data at) = offset_by (near at) at
element_offset (home.Frame at) = pos at

abbrev pub base_by : Option Based → ℕ → List Line
base_by (Some n) at = one (Add first first n.base)
base_by None at = two (Lui third (pos (upper_bits at))) (Add first first third)

-- the rest of it, out of the index in a register, into the first one
abbrev pub element_lines : Home → ℕ → List Line
element_lines (home.Data at) q = Word (Slli first q (pos 2)) ∷ base_by (near at) at
element_lines (home.Frame at) q = two (Slli first q (pos 2)) (Add first first sp)

-- an array of the frame, of so many words, ends within so many bytes
abbrev pub home_within : Home → (size bytes : ℕ) → Type 0
home_within (home.Data at) size bytes = Unit {0}
home_within (home.Frame at) size bytes = at + 4 * size ≤ bytes

-- the number that an index is written as, where it is below the number of elements
unfoldable pub fixed : (size : ℕ) → Option ℕ → Option ℕ
fixed size None = None
fixed size (Some n) = cond (ltb n size) (Some n) None

-- where the element of such an index stands
abbrev pub element_at : Home → ℕ → Home
element_at (home.Data at) n = home.Data (add at (4 * n))
element_at (home.Frame at) n = home.Frame (at + 4 * n)

-- the word that stands there into a register
abbrev pub fetch_lines : Home → ℕ → List Line
fetch_lines (home.Data at) d = load_lines at d
fetch_lines (home.Frame at) d = one (Lw d sp (pos at))

abbrev pub store_by : Option Based → (at q : ℕ) → List Line
store_by (Some n) at q = one (Sw n.base q n.offset)
store_by None at q = two (Lui second (pos (upper_bits at))) (Sw second q (lower_bits at))

-- a register to an address, by way of the second register
unfoldable pub store_lines : (at q : ℕ) → List Line
store_lines at q = store_by (near at) at q

-- a register to where an element stands
abbrev pub put_lines : Home → ℕ → List Line
put_lines (home.Data at) q = store_lines at q
put_lines (home.Frame at) q = one (Sw sp q (pos at))

-- a trap where the index in a register isn't below the number of elements, which may stand in a register
abbrev pub test_lines : Seats → ℕ → ℕ → List Line
test_lines s size q =
    let own = s.pinned size in
    unless own (number_lines size third) ++ (Branch 7 q (unwrap_or own third) (trap_label traps.index_outside) ∷ [])

-- the same where the index is to be tested
abbrev pub tested_lines : Seats → Bool → ℕ → ℕ → List Line
tested_lines s tested size q = cond tested (test_lines s size q) []

-- the addresses of the first of so many words of the frame, from a place on, and of their end into the first two registers
abbrev pub bounds_lines : ℕ → ℕ → List Line
bounds_lines at n = two (Addi first sp (pos at)) (Addi second sp (pos (at + 4 * n)))

-- the word at the address in the first register becomes 0, and the register goes on to the next word
abbrev pub clear_lines : List Line
clear_lines = two (Sw first x0 (pos 0)) (Addi first first (pos 4))

-- a trap where the divisor in a register is 0, which a number that is written isn't where it is another
abbrev pub divisor_lines : Option ℕ → ℕ → List Line
divisor_lines (Some n) q = cond (eqb n 0) (Branch 0 q x0 (trap_label traps.division_by_zero) ∷ []) []
divisor_lines None q = Branch 0 q x0 (trap_label traps.division_by_zero) ∷ []

-- ---- statements, given where values stand

module _ (s : Seats) where
  abbrev pub set_lines : ℕ → Tree → List Line
  set_lines t v = cond (is_seat (s.register t) (own_register s v)) [] (tree_into s v (target s t) first ++ keep_lines s t)

  abbrev pub set_global_lines : ℕ → Tree → List Line
  set_global_lines g v = operand_lines s v first ++ store_lines (s.place g) (operand_register s v first)

  -- by a divisor that is such a power of two, and by another
  abbrev pub divide_by : Option ℕ → ℕ → ℕ → Tree → Tree → List Line
  divide_by None t o a b =
      let p = operand_register s a first in
      let q = operand_register s b second in
      operand_lines s a first ++ (operand_lines s b second ++ (divisor_lines (literal b) q ++ (Word (division o (target s t) p q) ∷ keep_lines s t)))
  divide_by (Some k) t o a b = operand_lines s a first ++ (Word (power_division o k (target s t) (operand_register s a first)) ∷ keep_lines s t)

  abbrev pub divide_lines : ℕ → ℕ → Tree → Tree → List Line
  divide_lines t o a b = divide_by (power_of o (literal b)) t o a b

  -- of an index that isn't fixed, and of one that is
  abbrev pub check_by : Option ℕ → ℕ → (tested : Bool) → Tree → List Line
  check_by None size tested i = cond tested (operand_lines s i first ++ test_lines s size (operand_register s i first)) []
  check_by (Some n) size tested i = []

  abbrev pub check_lines : ℕ → (tested : Bool) → Tree → List Line
  check_lines size tested i = check_by (fixed size (literal i)) size tested i

  abbrev pub read_by : Option ℕ → ℕ → Home → ℕ → (tested : Bool) → Tree → List Line
  read_by None t h size tested i =
      let q = operand_register s i first in
      operand_lines s i first ++ (tested_lines s tested size q ++ (element_lines h q ++ (Word (Lw (target s t) first (element_offset h)) ∷ keep_lines s t)))
  read_by (Some n) t h size tested i = fetch_lines (element_at h n) (target s t) ++ keep_lines s t

  abbrev pub read_lines : ℕ → Home → ℕ → (tested : Bool) → Tree → List Line
  read_lines t h size tested i = read_by (fixed size (literal i)) t h size tested i

  abbrev pub write_by : Option ℕ → Home → ℕ → (tested : Bool) → Tree → Tree → List Line
  write_by None h size tested i v =
      let q = operand_register s i first in
      let store = one (Sw first (operand_register s v second) (element_offset h)) in
      operand_lines s i first ++ (operand_lines s v second ++ (tested_lines s tested size q ++ (element_lines h q ++ store)))
  write_by (Some n) h size tested i v = operand_lines s v first ++ put_lines (element_at h n) (operand_register s v first)

  abbrev pub write_lines : Home → ℕ → (tested : Bool) → Tree → Tree → List Line
  write_lines h size tested i v = write_by (fixed size (literal i)) h size tested i v

  -- the result of a function, in a0, where it may stand already
  abbrev pub result_lines : Tree → List Line
  result_lines v = cond (is_seat (Some a0) (own_register s v)) [] (tree_into s v a0 first)
