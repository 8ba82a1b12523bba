-- What the lines of code name: labels where they jump, and functions where they call one or take its address.
use Rattle.std.specs.Prelude.{ℕ, suc, ◌≡◌, ◌+◌, ◌<◌, ◌≤◌, ◌⊎◌, Bool, true, false, List, [], ◌∷◌, All, length, Option, Some, None}
use Rattle.mv_isa.specs.declared.labelled.Line.{Line}
use Rattle.mv_isa.specs.declared.labelled.Line.TheVariants.{Word, Label, Jump, Branch, Entry, Slot, Point}
use Rattle.mv_isa.specs.Code.{line_at, address, label_address, IsSizing}
use Rattle.mv_isa.specs.Registers.{x0, ra}
use Rattle.mv_ir.specs.declared.stm.Stm.{Stm}
use Rattle.mv_select_code.specs.Trees.Straight.{is_link}
use Rattle.mv_select_code.specs.Statements.StatementCode.{trap_label}
use Rattle.mv_select_code.specs.Control.FlowCode.{code_of}
use Rattle.mv_select_code.specs.Control.Labels.{call_label, functions, pointers}
use Rattle.mv_select.specs.Calls.CallCode.{commit_label}
use Rattle.mv_select.specs.Functions.FunctionCode.{Shape, plan, function_lines}

-- A label that stands is of one kind, one that is jumped to of another, and one that is called of a third; a function that is named is of a fourth, and one
-- that stands in a slot of a fifth; and the address of a pointer that is called through is of a sixth.
abbrev pub Names : (L P C Q S A : ℕ → Type 0) → Line → Type 0
Names L P C Q S A (Word instr) = Unit {0}
Names L P C Q S A (Label l) = L l
Names L P C Q S A (Jump rd l) = ((rd ≡ x0) × P l) ⊎ ((rd ≡ ra) × C l)
Names L P C Q S A (Branch funct3 rs1 rs2 l) = P l
Names L P C Q S A (Entry rd f) = Q f
Names L P C Q S A (Slot f) = S f
Names L P C Q S A (Point a) = A a

-- ---- slots

-- a line has words, and puts no address behind it into a register
abbrev pub Stays : Line → Type 0
Stays (Word i) = is_link i ≡ false
Stays (Entry rd f) = Unit {0}
Stays _ = ⊥

abbrev pub StaysBefore : Option Line → Type 0
StaysBefore None = ⊥
StaysBefore (Some line) = Stays line

-- Before each slot, of two words or of four, stands such a line, given the line before the lines, if there is one.
abbrev pub IsApart : Option Line → List Line → Type 0
IsApart before [] = Unit {0}
IsApart before (Slot f ∷ lines) = StaysBefore before × IsApart None lines
IsApart before (Point a ∷ lines) = StaysBefore before × IsApart None lines
IsApart before (line ∷ lines) = IsApart (Some line) lines

-- a line that puts the address behind it into a register
abbrev pub Links : Line → Type 0
Links (Jump rd l) = Unit {0}
Links (Word i) = is_link i ≡ true
Links (Slot f) = Unit {0}
Links (Point a) = Unit {0}
Links _ = ⊥

-- ---- the code of a function with so many labels

-- a label of the function, or of a stub of the traps 1 to 4
abbrev pub IsGoal : (labels : ℕ) → ℕ → Type 0
IsGoal labels l = (l < labels) ⊎ ((trap_label 1 ≤ l) × (l ≤ trap_label 4))

-- the stub of orders and polls, or the entry of a function
abbrev pub IsCalled : (is_named : ℕ → Bool) → ℕ → Type 0
IsCalled is_named l = (l ≡ commit_label) ⊎ ((f : ℕ) × (l ≡ call_label f) × (is_named f ≡ true))

-- a line names these labels, functions and pointers, and in a slot of two words stands an attributed function
abbrev pub NamesThese : (labels : ℕ) (is_named is_attributed is_pointer : ℕ → Bool) → Line → Type 0
NamesThese labels is_named is_attributed is_pointer =
    Names (λ l. l < labels) (IsGoal labels) (IsCalled is_named) (λ f. is_named f ≡ true) (λ f. (is_named f ≡ true) × (is_attributed f ≡ true)) (λ a. is_pointer a ≡ true)

module _ (place size : ℕ → ℕ) (is_attributed : ℕ → Bool) (shape : Shape) (code : List Stm) where
  abbrev lines : List Line
  lines = function_lines place size is_attributed shape code

  -- how many labels the code of a function has: that of its end, and those of its statements
  abbrev pub labels_of : ℕ
  labels_of = suc (code_of (plan place size is_attributed shape) code).labels

  -- It jumps to labels of the function and to the stubs of traps, calls the stub of orders and polls and the entries of functions and no other label, and names
  -- only functions that the statements name, those in slots attributed, and pointers through which they call.
  abbrev pub IsNamed : Type 0
  IsNamed =
      (is_named is_pointer : ℕ → Bool) → All (λ f. is_named f ≡ true) (functions code) → All (λ g. is_pointer (place g) ≡ true) (pointers code) →
      All (NamesThese labels_of is_named is_attributed is_pointer) lines

  -- no label stands at its first word, wherever it stands
  abbrev pub FirstIsNoLabel : Type 0
  FirstIsNoLabel = (base : ℕ) (sizing : List ℕ) → IsSizing lines sizing → (l : ℕ) → base + 4 ≤ label_address base lines sizing l

  -- no address that one of its lines puts into a register is the first word of a slot, of two words or of four
  abbrev pub LinksAreNoSlots : Type 0
  LinksAreNoSlots =
      (base : ℕ) (sizing : List ℕ) → IsSizing lines sizing → (j k n : ℕ) → j < length lines → k < length lines → Links (line_at lines j) →
      (line_at lines k ≡ Slot n) ⊎ (line_at lines k ≡ Point n) → address base sizing (j + 1) ≡ address base sizing k → ⊥

-- It is so of the code of every function.
abbrev pub LinesAreNamed : Type 0
LinesAreNamed = (place size : ℕ → ℕ) (is_attributed : ℕ → Bool) (shape : Shape) (code : List Stm) → IsNamed place size is_attributed shape code

abbrev pub FirstsAreNoLabels : Type 0
FirstsAreNoLabels = (place size : ℕ → ℕ) (is_attributed : ℕ → Bool) (shape : Shape) (code : List Stm) → FirstIsNoLabel place size is_attributed shape code

abbrev pub NoLinkIsSlot : Type 0
NoLinkIsSlot = (place size : ℕ → ℕ) (is_attributed : ℕ → Bool) (shape : Shape) (code : List Stm) → LinksAreNoSlots place size is_attributed shape code
