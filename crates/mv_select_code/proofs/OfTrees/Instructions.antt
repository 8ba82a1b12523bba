-- What an instruction leaves, given what its registers hold.
use Rattle.std.proofs.Common.{◌≡◌, ℕ, List, ℤ, Some, ap, ◌∙◌, bit_and, bit_or, bit_xor}
use Rattle.mv_num.specs.Words.{word_of, add, sub, mul, shl, shr_s, shr_u, lt_s, lt_u, narrow}
use Rattle.mv_num.specs.declared.kind.Kind.TheVariants as kind
use Rattle.mv_isa.specs.declared.instr.Instr.TheVariants.{Lui, Lw, Addi, Slti, Sltiu, Xori, Ori, Andi, Slli, Srli, Srai, Add, Sub, Sll, Slt, Sltu, Xor, Srl, Sra, Or, And, Mul}
use Rattle.mv_isa.specs.Execution.{Access, Outcome, Goes, reg, put, truth, upper, sets, loaded, loads, execute}
use Rattle.mv_select_code.specs.Trees.Straight.{Sets}

-- an operator on operands that are known
pub on : (op : ℕ → ℕ → ℕ) (x y a b v : ℕ) → x ≡ a → y ≡ b → op a b ≡ v → op x y ≡ v
on op x y a b v e f g = ap (λ z. op z y) e ∙ ap (op a) f ∙ g

module _ {M : Type 0} (access : Access M) (m : M) where
  abbrev left : List ℕ → ℕ → ℕ → ℕ → Outcome M
  left regs rd pc v = Goes (put regs rd v) (add pc 4) m

  pub lui_sets : (rd : ℕ) (imm : ℤ) (regs : List ℕ) (v : ℕ) → upper imm ≡ v → Sets access m (Lui rd imm) regs (put regs rd v)
  unfolding execute sets
  lui_sets rd imm regs v e pc = ap (left regs rd pc) e

  pub lw_sets : (rd rs1 : ℕ) (imm : ℤ) (regs : List ℕ) (a v : ℕ) → add (reg regs rs1) (word_of imm) ≡ a → access.load m a 4 ≡ Some v → Sets access m (Lw rd rs1 imm) regs (put regs rd v)
  unfolding execute loads sets narrow
  lw_sets rd rs1 imm regs a v e h pc = ap (λ a. loaded regs pc m rd kind.UInt (access.load m a 4)) e ∙ ap (loaded regs pc m rd kind.UInt) h

  pub addi_sets : (rd rs1 : ℕ) (imm : ℤ) (regs : List ℕ) (a b v : ℕ) → reg regs rs1 ≡ a → word_of imm ≡ b → add a b ≡ v → Sets access m (Addi rd rs1 imm) regs (put regs rd v)
  unfolding execute sets
  addi_sets rd rs1 imm regs a b v e f g pc = ap (left regs rd pc) (on add (reg regs rs1) (word_of imm) a b v e f g)

  pub sltiu_sets : (rd rs1 : ℕ) (imm : ℤ) (regs : List ℕ) (a b v : ℕ) → reg regs rs1 ≡ a → word_of imm ≡ b → truth (lt_u a b) ≡ v → Sets access m (Sltiu rd rs1 imm) regs (put regs rd v)
  unfolding execute sets
  sltiu_sets rd rs1 imm regs a b v e f g pc = ap (left regs rd pc) (on (λ x y. truth (lt_u x y)) (reg regs rs1) (word_of imm) a b v e f g)

  pub xori_sets : (rd rs1 : ℕ) (imm : ℤ) (regs : List ℕ) (a b v : ℕ) → reg regs rs1 ≡ a → word_of imm ≡ b → bit_xor a b ≡ v → Sets access m (Xori rd rs1 imm) regs (put regs rd v)
  unfolding execute sets
  xori_sets rd rs1 imm regs a b v e f g pc = ap (left regs rd pc) (on bit_xor (reg regs rs1) (word_of imm) a b v e f g)

  pub ori_sets : (rd rs1 : ℕ) (imm : ℤ) (regs : List ℕ) (a b v : ℕ) → reg regs rs1 ≡ a → word_of imm ≡ b → bit_or a b ≡ v → Sets access m (Ori rd rs1 imm) regs (put regs rd v)
  unfolding execute sets
  ori_sets rd rs1 imm regs a b v e f g pc = ap (left regs rd pc) (on bit_or (reg regs rs1) (word_of imm) a b v e f g)

  pub andi_sets : (rd rs1 : ℕ) (imm : ℤ) (regs : List ℕ) (a b v : ℕ) → reg regs rs1 ≡ a → word_of imm ≡ b → bit_and a b ≡ v → Sets access m (Andi rd rs1 imm) regs (put regs rd v)
  unfolding execute sets
  andi_sets rd rs1 imm regs a b v e f g pc = ap (left regs rd pc) (on bit_and (reg regs rs1) (word_of imm) a b v e f g)

  pub slti_sets : (rd rs1 : ℕ) (imm : ℤ) (regs : List ℕ) (a b v : ℕ) → reg regs rs1 ≡ a → word_of imm ≡ b → truth (lt_s a b) ≡ v → Sets access m (Slti rd rs1 imm) regs (put regs rd v)
  unfolding execute sets
  slti_sets rd rs1 imm regs a b v e f g pc = ap (left regs rd pc) (on (λ x y. truth (lt_s x y)) (reg regs rs1) (word_of imm) a b v e f g)

  pub slli_sets : (rd rs1 : ℕ) (imm : ℤ) (regs : List ℕ) (a b v : ℕ) → reg regs rs1 ≡ a → word_of imm ≡ b → shl a b ≡ v → Sets access m (Slli rd rs1 imm) regs (put regs rd v)
  unfolding execute sets
  slli_sets rd rs1 imm regs a b v e f g pc = ap (left regs rd pc) (on shl (reg regs rs1) (word_of imm) a b v e f g)

  pub srli_sets : (rd rs1 : ℕ) (imm : ℤ) (regs : List ℕ) (a b v : ℕ) → reg regs rs1 ≡ a → word_of imm ≡ b → shr_u a b ≡ v → Sets access m (Srli rd rs1 imm) regs (put regs rd v)
  unfolding execute sets
  srli_sets rd rs1 imm regs a b v e f g pc = ap (left regs rd pc) (on shr_u (reg regs rs1) (word_of imm) a b v e f g)

  pub srai_sets : (rd rs1 : ℕ) (imm : ℤ) (regs : List ℕ) (a b v : ℕ) → reg regs rs1 ≡ a → word_of imm ≡ b → shr_s a b ≡ v → Sets access m (Srai rd rs1 imm) regs (put regs rd v)
  unfolding execute sets
  srai_sets rd rs1 imm regs a b v e f g pc = ap (left regs rd pc) (on shr_s (reg regs rs1) (word_of imm) a b v e f g)

  pub add_sets : (rd rs1 rs2 : ℕ) (regs : List ℕ) (a b v : ℕ) → reg regs rs1 ≡ a → reg regs rs2 ≡ b → add a b ≡ v → Sets access m (Add rd rs1 rs2) regs (put regs rd v)
  unfolding execute sets
  add_sets rd rs1 rs2 regs a b v e f g pc = ap (left regs rd pc) (on add (reg regs rs1) (reg regs rs2) a b v e f g)

  pub sub_sets : (rd rs1 rs2 : ℕ) (regs : List ℕ) (a b v : ℕ) → reg regs rs1 ≡ a → reg regs rs2 ≡ b → sub a b ≡ v → Sets access m (Sub rd rs1 rs2) regs (put regs rd v)
  unfolding execute sets
  sub_sets rd rs1 rs2 regs a b v e f g pc = ap (left regs rd pc) (on sub (reg regs rs1) (reg regs rs2) a b v e f g)

  pub mul_sets : (rd rs1 rs2 : ℕ) (regs : List ℕ) (a b v : ℕ) → reg regs rs1 ≡ a → reg regs rs2 ≡ b → mul a b ≡ v → Sets access m (Mul rd rs1 rs2) regs (put regs rd v)
  unfolding execute sets
  mul_sets rd rs1 rs2 regs a b v e f g pc = ap (left regs rd pc) (on mul (reg regs rs1) (reg regs rs2) a b v e f g)

  pub and_sets : (rd rs1 rs2 : ℕ) (regs : List ℕ) (a b v : ℕ) → reg regs rs1 ≡ a → reg regs rs2 ≡ b → bit_and a b ≡ v → Sets access m (And rd rs1 rs2) regs (put regs rd v)
  unfolding execute sets
  and_sets rd rs1 rs2 regs a b v e f g pc = ap (left regs rd pc) (on bit_and (reg regs rs1) (reg regs rs2) a b v e f g)

  pub or_sets : (rd rs1 rs2 : ℕ) (regs : List ℕ) (a b v : ℕ) → reg regs rs1 ≡ a → reg regs rs2 ≡ b → bit_or a b ≡ v → Sets access m (Or rd rs1 rs2) regs (put regs rd v)
  unfolding execute sets
  or_sets rd rs1 rs2 regs a b v e f g pc = ap (left regs rd pc) (on bit_or (reg regs rs1) (reg regs rs2) a b v e f g)

  pub xor_sets : (rd rs1 rs2 : ℕ) (regs : List ℕ) (a b v : ℕ) → reg regs rs1 ≡ a → reg regs rs2 ≡ b → bit_xor a b ≡ v → Sets access m (Xor rd rs1 rs2) regs (put regs rd v)
  unfolding execute sets
  xor_sets rd rs1 rs2 regs a b v e f g pc = ap (left regs rd pc) (on bit_xor (reg regs rs1) (reg regs rs2) a b v e f g)

  pub sll_sets : (rd rs1 rs2 : ℕ) (regs : List ℕ) (a b v : ℕ) → reg regs rs1 ≡ a → reg regs rs2 ≡ b → shl a b ≡ v → Sets access m (Sll rd rs1 rs2) regs (put regs rd v)
  unfolding execute sets
  sll_sets rd rs1 rs2 regs a b v e f g pc = ap (left regs rd pc) (on shl (reg regs rs1) (reg regs rs2) a b v e f g)

  pub sra_sets : (rd rs1 rs2 : ℕ) (regs : List ℕ) (a b v : ℕ) → reg regs rs1 ≡ a → reg regs rs2 ≡ b → shr_s a b ≡ v → Sets access m (Sra rd rs1 rs2) regs (put regs rd v)
  unfolding execute sets
  sra_sets rd rs1 rs2 regs a b v e f g pc = ap (left regs rd pc) (on shr_s (reg regs rs1) (reg regs rs2) a b v e f g)

  pub srl_sets : (rd rs1 rs2 : ℕ) (regs : List ℕ) (a b v : ℕ) → reg regs rs1 ≡ a → reg regs rs2 ≡ b → shr_u a b ≡ v → Sets access m (Srl rd rs1 rs2) regs (put regs rd v)
  unfolding execute sets
  srl_sets rd rs1 rs2 regs a b v e f g pc = ap (left regs rd pc) (on shr_u (reg regs rs1) (reg regs rs2) a b v e f g)

  pub slt_sets : (rd rs1 rs2 : ℕ) (regs : List ℕ) (a b v : ℕ) → reg regs rs1 ≡ a → reg regs rs2 ≡ b → truth (lt_s a b) ≡ v → Sets access m (Slt rd rs1 rs2) regs (put regs rd v)
  unfolding execute sets
  slt_sets rd rs1 rs2 regs a b v e f g pc = ap (left regs rd pc) (on (λ x y. truth (lt_s x y)) (reg regs rs1) (reg regs rs2) a b v e f g)

  pub sltu_sets : (rd rs1 rs2 : ℕ) (regs : List ℕ) (a b v : ℕ) → reg regs rs1 ≡ a → reg regs rs2 ≡ b → truth (lt_u a b) ≡ v → Sets access m (Sltu rd rs1 rs2) regs (put regs rd v)
  unfolding execute sets
  sltu_sets rd rs1 rs2 regs a b v e f g pc = ap (left regs rd pc) (on (λ x y. truth (lt_u x y)) (reg regs rs1) (reg regs rs2) a b v e f g)
