-- Where lines lead, wherever they stand: the registers and the memory that they leave, and in how many instructions.
use Rattle.std.specs.Prelude.{ℕ, ◌≡◌, ◌+◌, ◌^◌, ◌<◌, ◌≤◌, ◌⊎◌, Bool, true, false, cond, List, [], ◌∷◌, Some, None}
use Rattle.mv_num.specs.Words.{add}
use Rattle.mv_isa.specs.declared.instr.Instr.{Instr}
use Rattle.mv_isa.specs.declared.labelled.Line.{Line}
use Rattle.mv_isa.specs.declared.labelled.Line.TheVariants.{Word, Label, Jump, Branch, Entry}
use Rattle.mv_isa.specs.Execution.{Access, Goes, reg, put, execute}
use Rattle.mv_isa.specs.LineSteps.{branch_holds}
use Rattle.mv_isa.specs.Registers.{x0}
use Rattle.mv_select_code.specs.Statements.Frames.{Site, Cell, IsOwn, IsThere, address}

-- past the end of the lines, or to a label
pub data Exit : Type 0 where
  Past : Exit
  To : ℕ → Exit

-- to a label where a branch is taken, and else past the end
abbrev pub exit_by : Bool → ℕ → Exit
exit_by taken label = cond taken (To label) Past

-- an access that refuses to load from other addresses than those that a test allows
abbrev pub reading : {M : Type 0} → (ℕ → Bool) → Access M → Access M
reading may_load access = record access { load = λ m a n. cond (may_load a) (access.load m a n) None }

module _ {M : Type 0} (access : Access M) (s : Site) where
  -- the accesses that the code of the frame may make
  abbrev pub limited : Access M
  limited = reading s.reach.may_load access

  -- memory is as it was, or a word was stored to a cell of the frame's own
  abbrev pub Writes : M → M → Type 0
  Writes m m' = (m' ≡ m) ⊎ ((x : Cell) × (v : ℕ) × IsOwn s x × IsThere s x × (v < 2 ^ 32) × (access.store m (address s x) 4 v ≡ Some m'))

  -- wherever an instruction stands, it goes on to the next one, loading only what the code may load
  abbrev pub Moves : Instr → List ℕ → M → List ℕ → M → Type 0
  Moves i regs m regs' m' = ((pc : ℕ) → execute limited i regs pc m ≡ Goes regs' (add pc 4) m') × Writes m m'

  -- registers and memory stay as they are
  abbrev pub Stays : List ℕ → M → List ℕ → M → Type 0
  Stays regs m regs' m' = (regs' ≡ regs) × (m' ≡ m)

  -- In at most n instructions lines lead from registers and memory to others, past their end or to a label. A branch takes two where it is long and
  -- its condition holds.
  abbrev pub Leads : List Line → ℕ → List ℕ → M → Exit → List ℕ → M → Type 0
  Leads [] n regs m exit regs' m' = (exit ≡ Past) × Stays regs m regs' m'
  Leads (Word i ∷ ls) n regs m exit regs' m' =
      (k : ℕ) × (k + 1 ≤ n) × (mid : List ℕ) × (memory : M) × Moves i regs m mid memory × Leads ls k mid memory exit regs' m'
  Leads (Label l ∷ ls) n regs m exit regs' m' = Leads ls n regs m exit regs' m'
  Leads (Jump rd l ∷ ls) n regs m exit regs' m' = (rd ≡ x0) × (1 ≤ n) × (exit ≡ To l) × Stays regs m regs' m'
  Leads (Branch funct3 rs1 rs2 l ∷ ls) n regs m exit regs' m' =
      ((branch_holds funct3 (reg regs rs1) (reg regs rs2) ≡ true) × (2 ≤ n) × (exit ≡ To l) × Stays regs m regs' m')
      ⊎ ((branch_holds funct3 (reg regs rs1) (reg regs rs2) ≡ false) × (k : ℕ) × (k + 1 ≤ n) × Leads ls k regs m exit regs' m')
  Leads (Entry rd f ∷ ls) n regs m exit regs' m' = (k : ℕ) × (k + 2 ≤ n) × Leads ls k (put regs rd (s.entry f)) m exit regs' m'
  Leads _ n regs m exit regs' m' = ⊥
