-- What the items of labelled code do where they stand: the steps from an item's first instruction on.
use Rattle.std.specs.Prelude.{ℕ, ◌+◌, ◌==◌, ◌≡◌, ◌⊎◌, Bool, true, false, not, if◌then◌else◌, List, length, Option}
use Rattle.mv_num.specs.Words.{lt_s, lt_u}
use Rattle.mv_isa.specs.declared.labelled.Line.{Line}
use Rattle.mv_isa.specs.declared.labelled.Line.TheVariants.{Word, Label, Jump, Branch, Entry, Slot, Point}
use Rattle.mv_isa.specs.Execution.{Access, Goes, reg, put, execute, step}
use Rattle.mv_isa.specs.Code.{LineFits, IsPlace}
use Rattle.mv_isa.specs.Standing.{LineStands}
use Rattle.mv_isa.specs.Labels.{check_label}
use Rattle.mv_isa.specs.Registers.{ra}

-- the conditions of branches over two words, by funct3 (RISC-V unprivileged ISA, 2.5.2)
abbrev pub branch_holds : ℕ → ℕ → ℕ → Bool
branch_holds funct3 a b =
    if funct3 == 0 then a == b
    else (if funct3 == 1 then not (a == b)
    else (if funct3 == 4 then lt_s a b
    else (if funct3 == 5 then not (lt_s a b)
    else (if funct3 == 6 then lt_u a b
    else not (lt_u a b)))))

-- the address of the label or function that an item names, and the item's own where it names none
abbrev pub named : (ℕ → ℕ) → (ℕ → ℕ) → ℕ → Line → ℕ
named place entry at (Jump rd l) = place l
named place entry at (Branch funct3 rs1 rs2 l) = place l
named place entry at (Entry rd l) = entry l
named place entry at (Slot l) = entry l
named place entry at (Point a) = place check_label
named place entry at _ = at

module _ {M : Type 0} (access : Access M) (text : ℕ → Option ℕ) (m : M) where
  -- the step from an address and registers goes to others, and leaves memory alone
  abbrev pub Leads : List ℕ → ℕ → List ℕ → ℕ → Type 0
  Leads regs at regs' to = step access (text at) regs at m ≡ Goes regs' to m

  -- a branch whose condition holds leads to its label in one step, or over a jump in two; else it leads to the next item
  abbrev pub BranchRuns : Bool → (at end to : ℕ) → List ℕ → Type 0
  BranchRuns true at end to regs = Leads regs at regs to ⊎ (Leads regs at regs (at + 4) × Leads regs (at + 4) regs to)
  BranchRuns false at end to regs = Leads regs at regs end

  -- what an item does that stands from an address to another and names a third
  abbrev pub LineRuns : (at end to : ℕ) → List ℕ → Line → Type 0
  LineRuns at end to regs (Word instr) = step access (text at) regs at m ≡ execute access instr regs at m
  LineRuns at end to regs (Label l) = at ≡ end
  LineRuns at end to regs (Jump rd l) = Leads regs at (put regs rd end) to
  LineRuns at end to regs (Branch funct3 rs1 rs2 l) = BranchRuns (branch_holds funct3 (reg regs rs1) (reg regs rs2)) at end to regs
  -- two steps put the address into the register
  LineRuns at end to regs (Entry rd l) = (mid : List ℕ) × Leads regs at mid (at + 4) × Leads mid (at + 4) (put regs rd to) end
  -- a call that returns to the NOP after it, which leads to the next item
  LineRuns at end to regs (Slot l) = Leads regs at (put regs ra (at + 4)) to × ((regs' : List ℕ) → Leads regs' (at + 4) regs' end)
  -- nothing is said of a call through a pointer: its words may be patched, and one of them loads
  LineRuns at end to regs (Point a) = Unit {0}

-- each item that stands in a text does this, whatever memory is
abbrev pub LinesRun : Type 0 → Type 0
LinesRun M = (access : Access M) (text : ℕ → Option ℕ) (m : M) (place entry : ℕ → ℕ) (at end : ℕ) (line : Line)
    → LineStands text place entry at end line → LineFits line → IsPlace at → IsPlace (named place entry at line)
    → (regs : List ℕ) → length regs ≡ 32
    → LineRuns access text m at end (named place entry at line) regs line
