-- Lines that run one after the other and leave memory alone.
use Rattle.std.specs.Prelude.{ℕ, ◌≡◌, Bool, true, false, List, [], ◌∷◌}
use Rattle.mv_num.specs.Words.{add}
use Rattle.mv_isa.specs.declared.instr.Instr.{Instr}
use Rattle.mv_isa.specs.declared.instr.Instr.TheVariants.{Jal, Jalr}
use Rattle.mv_isa.specs.declared.labelled.Line.{Line}
use Rattle.mv_isa.specs.declared.labelled.Line.TheVariants.{Word, Label, Entry}
use Rattle.mv_isa.specs.Execution.{Access, Goes, put, execute}

-- an instruction that puts the address behind it into a register
abbrev pub is_link : Instr → Bool
is_link (Jal rd imm) = true
is_link (Jalr rd rs1 imm) = true
is_link _ = false

module _ {M : Type 0} (access : Access M) (m : M) where
  -- wherever an instruction stands, it goes on to the next one, with other registers and the same memory
  abbrev pub Sets : Instr → List ℕ → List ℕ → Type 0
  Sets i regs regs' = (pc : ℕ) → execute access i regs pc m ≡ Goes regs' (add pc 4) m

  -- what a line that doesn't jump makes of registers, where functions have these entries
  abbrev pub LineSets : (ℕ → ℕ) → Line → List ℕ → List ℕ → Type 0
  LineSets entry (Word i) regs regs' = Sets i regs regs'
  LineSets entry (Label l) regs regs' = regs' ≡ regs
  LineSets entry (Entry rd f) regs regs' = regs' ≡ put regs rd (entry f)
  LineSets entry _ regs regs' = ⊥

  -- lines lead from registers to others
  abbrev pub Straight : (ℕ → ℕ) → List Line → List ℕ → List ℕ → Type 0
  Straight entry [] regs regs' = regs' ≡ regs
  Straight entry (l ∷ ls) regs regs' = (mid : List ℕ) × LineSets entry l regs mid × Straight entry ls mid regs'
