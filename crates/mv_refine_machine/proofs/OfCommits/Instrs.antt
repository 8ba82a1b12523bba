-- What the stub's instructions do.
use Rattle.std.proofs.Common.{◌≡◌, ℕ, suc, ◌+◌, ◌-◌, ◌%◌, ◌^◌, ◌<◌, true, false, cond, eqb, List, Some, pos, negsuc, refl, ap, ap₂, ◌∙◌, arith}
use Rattle.std.proofs.lemmas.Bool.{eq-eqb, ne_eqb}
use Rattle.mv_num.specs.Words.{word_of, add, shl, narrow}
use Rattle.mv_num.specs.declared.kind.Kind.TheVariants as kind
use Rattle.mv_isa.specs.declared.instr.Instr.TheVariants.{Lui, Jal, Jalr, Beq, Lw, Sw, Addi, FenceI}
use Rattle.mv_isa.specs.Execution.{Access, Goes, reg, put, upper, sets, jumps, branches, loaded, stored, loads, stores, execute}
use Rattle.mv_select_code.proofs.OfTrees.Registers.{reg_zero}
use Rattle.mv_select_code.proofs.OfControl.Walk.{put_zero}
use Rattle.mv_isa.proofs.LineSteps.{add_four, jumps_to}

pub add_pos : (a n : ℕ) → a + n < 2 ^ 32 → add a (word_of (pos n)) ≡ a + n
unfolding add word_of
add_pos a n h = omega arith

-- one less, and 24 less
add_less : (a : ℕ) → a < 2 ^ 32 → add (suc a) (word_of (negsuc 0)) ≡ a
unfolding add word_of
add_less a h = omega arith

add_back : (a : ℕ) → a < 2 ^ 31 → add (a + 24) (word_of (negsuc 23)) ≡ a
unfolding add word_of
add_back a h = omega arith

upper_plan : upper (pos 0x400) ≡ 0x0040_0000
unfolding upper shl word_of
upper_plan = refl

module _ {M : Type 0} (access : Access M) (m : M) (regs : List ℕ) (pc : ℕ) (small : pc < 2 ^ 31) where
  pub lui_goes : execute access (Lui 5 (pos 0x400)) regs pc m ≡ Goes (put regs 5 0x0040_0000) (pc + 4) m
  unfolding execute sets
  lui_goes = ap₂ (λ v next. Goes (put regs 5 v) next m) upper_plan (add_four pc small)

  pub lw_goes : (rd rs1 n a v : ℕ) → reg regs rs1 + n ≡ a → a < 2 ^ 32 → access.load m a 4 ≡ Some v → execute access (Lw rd rs1 (pos n)) regs pc m ≡ Goes (put regs rd v) (pc + 4) m
  unfolding execute loads sets narrow
  lw_goes rd rs1 n a v e lt h =
      ap (λ a. loaded regs pc m rd kind.UInt (access.load m a 4)) (add_pos (reg regs rs1) n (omega (arith, e, lt)) ∙ e) ∙ ap (loaded regs pc m rd kind.UInt) h
      ∙ ap (λ next. Goes (put regs rd v) next m) (add_four pc small)

  pub sw_goes : (rs1 rs2 a v : ℕ) (m' : M) → reg regs rs1 ≡ a → reg regs rs2 ≡ v → a < 2 ^ 32 → access.store m a 4 v ≡ Some m' → execute access (Sw rs1 rs2 (pos 0)) regs pc m ≡ Goes regs (pc + 4) m'
  unfolding execute stores
  sw_goes rs1 rs2 a v m' e f lt h =
      ap (λ a. stored regs pc (access.store m a 4 (reg regs rs2))) (add_pos (reg regs rs1) 0 (omega (arith, e, lt)) ∙ (let z : reg regs rs1 + 0 ≡ a = omega (arith, e) in z))
      ∙ ap (λ v. stored regs pc (access.store m a 4 v)) f ∙ ap (stored regs pc) h
      ∙ ap (λ next. Goes regs next m') (add_four pc small)

  pub addi_goes : (rd rs1 n v : ℕ) → reg regs rs1 + n ≡ v → v < 2 ^ 32 → execute access (Addi rd rs1 (pos n)) regs pc m ≡ Goes (put regs rd v) (pc + 4) m
  unfolding execute sets
  addi_goes rd rs1 n v e lt = ap₂ (λ v next. Goes (put regs rd v) next m) (add_pos (reg regs rs1) n (omega (arith, e, lt)) ∙ e) (add_four pc small)

  pub less_goes : (rd rs1 v : ℕ) → reg regs rs1 ≡ suc v → v < 2 ^ 32 → execute access (Addi rd rs1 (negsuc 0)) regs pc m ≡ Goes (put regs rd v) (pc + 4) m
  unfolding execute sets
  less_goes rd rs1 v e lt = ap₂ (λ v next. Goes (put regs rd v) next m) (ap (λ a. add a (word_of (negsuc 0))) e ∙ add_less v lt) (add_four pc small)

  pub stays_goes : (rs1 v : ℕ) → reg regs rs1 ≡ suc v → execute access (Beq rs1 0 (pos 28)) regs pc m ≡ Goes regs (pc + 4) m
  unfolding execute branches
  stays_goes rs1 v e =
      let z = reg_zero regs in
      let f : eqb (reg regs rs1) (reg regs 0) ≡ false = ne_eqb (reg regs rs1) (reg regs 0) (λ q. omega (arith, q, e, z)) in
      ap (λ b. cond b (jumps regs m (add pc (word_of (pos 28)))) (Goes regs (add pc 4) m)) f ∙ ap (λ next. Goes regs next m) (add_four pc small)

  pub leaves_goes : (rs1 : ℕ) → pc % 4 ≡ 0 → reg regs rs1 ≡ 0 → execute access (Beq rs1 0 (pos 28)) regs pc m ≡ Goes regs (pc + 28) m
  unfolding execute branches
  leaves_goes rs1 even e =
      let z = reg_zero regs in
      let f : eqb (reg regs rs1) (reg regs 0) ≡ true = eq-eqb (reg regs rs1) (reg regs 0) (omega (arith, e, z)) in
      ap (λ b. cond b (jumps regs m (add pc (word_of (pos 28)))) (Goes regs (add pc 4) m)) f
      ∙ ap (jumps regs m) (add_pos pc 28 (omega (arith, small))) ∙ jumps_to access m regs (pc + 28) (omega (arith, even))

  pub back_goes : (to : ℕ) → pc ≡ to + 24 → pc % 4 ≡ 0 → execute access (Jal 0 (negsuc 23)) regs pc m ≡ Goes regs to m
  unfolding execute
  back_goes to e even =
      ap₂ (λ rs a. jumps rs m a) (put_zero regs (add pc 4)) (ap (λ a. add a (word_of (negsuc 23))) e ∙ add_back to (omega (arith, small, e))) ∙ jumps_to access m regs to (omega (arith, even, e))

  pub fence_goes : execute access FenceI regs pc m ≡ Goes regs (pc + 4) (access.fence m)
  unfolding execute
  fence_goes = ap (λ next. Goes regs next (access.fence m)) (add_four pc small)

  even_target : (to : ℕ) → to < 2 ^ 32 → to % 4 ≡ 0 → (let sum = add to (word_of (pos 0)) in sum - sum % 2) ≡ to
  unfolding add word_of
  even_target to lt even = omega (arith, lt, even)

  pub return_goes : (to : ℕ) → reg regs 1 ≡ to → to < 2 ^ 32 → to % 4 ≡ 0 → execute access (Jalr 0 1 (pos 0)) regs pc m ≡ Goes regs to m
  unfolding execute
  return_goes to e lt even =
      ap₂ (λ rs a. jumps rs m a) (put_zero regs (add pc 4)) (ap (λ a. (let sum = add a (word_of (pos 0)) in sum - sum % 2)) e ∙ even_target to lt even) ∙ jumps_to access m regs to even
