-- Lines put one behind the other lead on.
use Rattle.std.proofs.Common.{◌≡◌, inl, inr, ℕ, ◌+◌, ◌≤◌, List, [], ◌∷◌, ◌++◌, ℤ, Some, sum_by, refl, ap, ◌∙◌, subst, arith}
use Rattle.std.proofs.lemmas.List.Sums.{sum_by-cons}
use Rattle.mv_num.specs.Words.{word_of, add}
use Rattle.mv_isa.specs.declared.instr.Instr.{Instr}
use Rattle.mv_isa.specs.declared.instr.Instr.TheVariants.{Sw}
use Rattle.mv_isa.specs.declared.labelled.Line.{Line}
use Rattle.mv_isa.specs.declared.labelled.Line.TheVariants.{Word, Label, Jump, Branch, Entry, Slot, Point}
use Rattle.mv_isa.specs.Code.{greatest_words}
use Rattle.mv_isa.specs.Execution.{Access, Goes, reg, stored, stores, execute}
use Rattle.mv_select_code.specs.Trees.Straight.{Straight}
use Rattle.mv_select_code.specs.Statements.Frames.{Site}
use Rattle.mv_select_code.specs.Statements.Leads.{Exit, Past, limited, Moves, Leads}

module _ {M : Type 0} (access : Access M) (s : Site) where
  abbrev L : List Line → ℕ → List ℕ → M → Exit → List ℕ → M → Type 0
  L = Leads access s

  -- where some instructions are enough, more are
  pub leads_more : (ls : List Line) (n k : ℕ) (regs : List ℕ) (m : M) (exit : Exit) (regs' : List ℕ) (m' : M) → n ≤ k → L ls n regs m exit regs' m' → L ls k regs m exit regs' m'
  leads_more [] n k regs m exit regs' m' le h = h
  leads_more (Word i ∷ ls) n k regs m exit regs' m' le h = (h.0, omega (arith, h.1, le), h.2, h.3, h.4, h.5)
  leads_more (Label l ∷ ls) n k regs m exit regs' m' le h = leads_more ls n k regs m exit regs' m' le h
  leads_more (Jump rd l ∷ ls) n k regs m exit regs' m' le h = (h.0, omega (arith, h.1, le), h.2, h.3)
  leads_more (Branch funct3 rs1 rs2 l ∷ ls) n k regs m exit regs' m' le (inl h) = inl (h.0, omega (arith, h.1, le), h.2, h.3)
  leads_more (Branch funct3 rs1 rs2 l ∷ ls) n k regs m exit regs' m' le (inr h) = inr (h.0, h.1, omega (arith, h.2, le), h.3)
  leads_more (Entry rd f ∷ ls) n k regs m exit regs' m' le h = (h.0, omega (arith, h.1, le), h.2)
  leads_more (Slot f ∷ ls) n k regs m exit regs' m' le h = absurd h
  leads_more (Point a ∷ ls) n k regs m exit regs' m' le h = absurd h

  -- lines behind straight ones
  pub leads_straight : (ls ks : List Line) (n : ℕ) (regs mid : List ℕ) (m : M) (exit : Exit) (regs' : List ℕ) (m' : M) → Straight (limited access s) m s.entry ls regs mid → L ks n mid m exit regs' m'
      → L (ls ++ ks) (sum_by greatest_words ls + n) regs m exit regs' m'
  leads_straight [] ks n regs mid m exit regs' m' h k = leads_more ks n (0 + n) regs m exit regs' m' (omega arith) (subst (λ z. L ks n z m exit regs' m') h k)
  leads_straight (Word i ∷ ls) ks n regs mid m exit regs' m' h k = (sum_by greatest_words ls + n, omega (arith, sum_by-cons greatest_words (Word i) ls), h.0, m, (h.1, inl refl), leads_straight ls ks n h.0 mid m exit regs' m' h.2 k)
  leads_straight (Label l ∷ ls) ks n regs mid m exit regs' m' h k =
      leads_more (ls ++ ks) (sum_by greatest_words ls + n) (sum_by greatest_words (Label l ∷ ls) + n) regs m exit regs' m' (omega (arith, sum_by-cons greatest_words (Label l) ls))
      (subst (λ z. L (ls ++ ks) (sum_by greatest_words ls + n) z m exit regs' m') h.1 (leads_straight ls ks n h.0 mid m exit regs' m' h.2 k))
  leads_straight (Entry rd f ∷ ls) ks n regs mid m exit regs' m' h k =
      (sum_by greatest_words ls + n, omega (arith, sum_by-cons greatest_words (Entry rd f) ls), subst (λ z. L (ls ++ ks) (sum_by greatest_words ls + n) z m exit regs' m') h.1 (leads_straight ls ks n h.0 mid m exit regs' m' h.2 k))
  leads_straight (Jump rd l ∷ ls) ks n regs mid m exit regs' m' h k = absurd h.1
  leads_straight (Branch funct3 rs1 rs2 l ∷ ls) ks n regs mid m exit regs' m' h k = absurd h.1
  leads_straight (Slot f ∷ ls) ks n regs mid m exit regs' m' h k = absurd h.1
  leads_straight (Point a ∷ ls) ks n regs mid m exit regs' m' h k = absurd h.1

  -- a single instruction
  pub leads_one : (i : Instr) (regs : List ℕ) (m : M) (regs' : List ℕ) (m' : M) → Moves access s i regs m regs' m' → L (Word i ∷ []) 1 regs m Past regs' m'
  leads_one i regs m regs' m' h = (0, omega arith, regs', m', h, (refl, (refl, refl)))

  -- lines behind a single instruction
  pub leads_next : (i : Instr) (ls : List Line) (n : ℕ) (regs : List ℕ) (m : M) (mid : List ℕ) (memory : M) (exit : Exit) (regs' : List ℕ) (m' : M)
      → Moves access s i regs m mid memory → L ls n mid memory exit regs' m' → L (Word i ∷ ls) (n + 1) regs m exit regs' m'
  leads_next i ls n regs m mid memory exit regs' m' h k = (n, omega arith, mid, memory, h, k)

  -- a store of a word
  pub sw_moves : (rs1 rs2 : ℕ) (imm : ℤ) (regs : List ℕ) (m m' : M) (a v : ℕ) → add (reg regs rs1) (word_of imm) ≡ a → reg regs rs2 ≡ v → access.store m a 4 v ≡ Some m'
      → (pc : ℕ) → execute access (Sw rs1 rs2 imm) regs pc m ≡ Goes regs (add pc 4) m'
  unfolding execute stores
  sw_moves rs1 rs2 imm regs m m' a v e f h pc =
      ap (λ a. stored regs pc (access.store m a 4 (reg regs rs2))) e ∙ ap (λ v. stored regs pc (access.store m a 4 v)) f ∙ ap (stored regs pc) h
