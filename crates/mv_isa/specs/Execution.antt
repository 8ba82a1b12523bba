-- What one instruction does to registers, pc and memory, over any memory and for any word that was fetched (RISC-V unprivileged ISA
-- 20191213: chapter 2 for RV32I, chapter 3 for FENCE.I, chapter 7 for M). An instruction that faults changes nothing: a fault carries
-- neither registers nor memory.
use Rattle.std.specs.Prelude.{ℕ, ◌-◌, ◌%◌, ◌^◌, Bool, cond, not, eqb, List, slice_index, slice_set, Option, Some, None, bit_and, bit_or, bit_xor, ℤ}
use Rattle.mv_num.specs.declared.kind.Kind.{Kind}
use Rattle.mv_num.specs.declared.kind.Kind.TheVariants as kind
use Rattle.mv_num.specs.Words.{word_of, add, sub, mul, mul_high_ss, mul_high_su, mul_high_uu, div_s, div_u, rem_s, rem_u, shl, shr_s, shr_u, lt_s, lt_u, narrow}
use Rattle.mv_isa.specs.declared.instr.Cause.{Cause}
use Rattle.mv_isa.specs.declared.instr.Cause.TheVariants as cause
use Rattle.mv_isa.specs.declared.instr.Instr.{Instr}
use Rattle.mv_isa.specs.declared.instr.Instr.TheVariants.{Lui, Auipc, Jal, Jalr, Beq, Bne, Blt, Bge, Bltu, Bgeu, Lb, Lh, Lw, Lbu, Lhu, Sb, Sh, Sw, Addi, Slti, Sltiu, Xori, Ori, Andi, Slli, Srli, Srai, Add, Sub, Sll, Slt, Sltu, Xor, Srl, Sra, Or, And, Mul, Mulh, Mulhsu, Mulhu, Div, Divu, Rem, Remu, Fence, FenceI, Ecall, Ebreak}
use Rattle.mv_isa.specs.Encoding.{decode}

-- a kind of memory: what a load of so many bytes at an address gives and what a store leaves, none where they fault, and what
-- FENCE.I leaves
pub record Access (M : Type 0) : Type 0 where
  pub load : M → (address width : ℕ) → Option ℕ
  pub store : M → (address width value : ℕ) → Option M
  pub fence : M → M

-- what an instruction leads to: registers, pc and memory after it, or an environment call that stands at pc, or a fault
pub data Outcome (M : Type 0) : Type 0 where
  Goes : (regs : List ℕ) → (pc : ℕ) → (memory : M) → Outcome M
  Calls : Outcome M
  Faults : (why : Cause) → Outcome M

-- register 0 reads 0, and a write to it does nothing (2.1)
unfoldable pub reg : List ℕ → ℕ → ℕ
reg regs r = cond (eqb r 0) 0 (slice_index regs r)

unfoldable pub put : List ℕ → ℕ → ℕ → List ℕ
put regs rd value = cond (eqb rd 0) regs (slice_set regs rd value)

-- a test as a number
unfoldable pub truth : Bool → ℕ
truth b = cond b 1 0

-- the word of 20 upper bits, its lower 12 are 0 (2.4)
unfoldable pub upper : ℤ → ℕ
upper imm = shl (word_of imm) 12

-- quotients and remainders: by 0 a quotient is all ones and a remainder the dividend; -2 ^ 31 by -1 wraps to -2 ^ 31, with
-- remainder 0 (7.2)
unfoldable pub quotient_s : ℕ → ℕ → ℕ
quotient_s a b = cond (eqb b 0) (2 ^ 32 - 1) (div_s a b)

unfoldable pub quotient_u : ℕ → ℕ → ℕ
quotient_u a b = cond (eqb b 0) (2 ^ 32 - 1) (div_u a b)

unfoldable pub remainder_s : ℕ → ℕ → ℕ
remainder_s a b = cond (eqb b 0) a (rem_s a b)

unfoldable pub remainder_u : ℕ → ℕ → ℕ
remainder_u a b = cond (eqb b 0) a (rem_u a b)

module _ {M : Type 0} where
  -- on to the next instruction, with a value in a register
  unfoldable pub sets : List ℕ → ℕ → M → (rd value : ℕ) → Outcome M
  sets regs pc m rd value = Goes (put regs rd value) (add pc 4) m

  -- a jump to an address. It faults where that is no multiple of 4 (2.2, 2.5)
  unfoldable pub jumps : List ℕ → M → (target : ℕ) → Outcome M
  jumps regs m target = cond (eqb (target % 4) 0) (Goes regs target m) (Faults cause.Jump)

  -- a branch, taken where the test holds (2.5). One that isn't taken never faults
  unfoldable pub branches : List ℕ → ℕ → M → ℤ → Bool → Outcome M
  branches regs pc m imm test = cond test (jumps regs m (add pc (word_of imm))) (Goes regs (add pc 4) m)

  -- what was loaded goes into a register, with the sign of a signed type or with zeros above (2.6)
  abbrev pub loaded : List ℕ → ℕ → M → (rd : ℕ) → Kind → Option ℕ → Outcome M
  loaded regs pc m rd k None = Faults cause.Load
  loaded regs pc m rd k (Some value) = sets regs pc m rd (narrow k value)

  abbrev pub stored : List ℕ → ℕ → Option M → Outcome M
  stored regs pc None = Faults cause.Store
  stored regs pc (Some m) = Goes regs (add pc 4) m

  unfoldable pub loads : Access M → List ℕ → ℕ → M → (rd rs1 : ℕ) → ℤ → (width : ℕ) → Kind → Outcome M
  loads access regs pc m rd rs1 imm width k =
      loaded regs pc m rd k (access.load m (add (reg regs rs1) (word_of imm)) width)

  unfoldable pub stores : Access M → List ℕ → ℕ → M → (rs1 rs2 : ℕ) → ℤ → (width : ℕ) → Outcome M
  stores access regs pc m rs1 rs2 imm width =
      stored regs pc (access.store m (add (reg regs rs1) (word_of imm)) width (reg regs rs2))

  -- JALR clears the lowest bit of its target (2.5); a shift takes the low five bits of its count (2.4); FENCE orders memory between
  -- harts, so that it does nothing here (2.7)
  unfoldable pub execute : Access M → Instr → List ℕ → ℕ → M → Outcome M
  execute access (Lui rd imm) regs pc m = sets regs pc m rd (upper imm)
  execute access (Auipc rd imm) regs pc m = sets regs pc m rd (add pc (upper imm))
  execute access (Jal rd imm) regs pc m = jumps (put regs rd (add pc 4)) m (add pc (word_of imm))
  execute access (Jalr rd rs1 imm) regs pc m =
      let sum = add (reg regs rs1) (word_of imm) in jumps (put regs rd (add pc 4)) m (sum - sum % 2)
  execute access (Beq rs1 rs2 imm) regs pc m = branches regs pc m imm (eqb (reg regs rs1) (reg regs rs2))
  execute access (Bne rs1 rs2 imm) regs pc m = branches regs pc m imm (not (eqb (reg regs rs1) (reg regs rs2)))
  execute access (Blt rs1 rs2 imm) regs pc m = branches regs pc m imm (lt_s (reg regs rs1) (reg regs rs2))
  execute access (Bge rs1 rs2 imm) regs pc m = branches regs pc m imm (not (lt_s (reg regs rs1) (reg regs rs2)))
  execute access (Bltu rs1 rs2 imm) regs pc m = branches regs pc m imm (lt_u (reg regs rs1) (reg regs rs2))
  execute access (Bgeu rs1 rs2 imm) regs pc m = branches regs pc m imm (not (lt_u (reg regs rs1) (reg regs rs2)))
  execute access (Lb rd rs1 imm) regs pc m = loads access regs pc m rd rs1 imm 1 kind.SChar
  execute access (Lh rd rs1 imm) regs pc m = loads access regs pc m rd rs1 imm 2 kind.Short
  execute access (Lw rd rs1 imm) regs pc m = loads access regs pc m rd rs1 imm 4 kind.UInt
  execute access (Lbu rd rs1 imm) regs pc m = loads access regs pc m rd rs1 imm 1 kind.UChar
  execute access (Lhu rd rs1 imm) regs pc m = loads access regs pc m rd rs1 imm 2 kind.UShort
  execute access (Sb rs1 rs2 imm) regs pc m = stores access regs pc m rs1 rs2 imm 1
  execute access (Sh rs1 rs2 imm) regs pc m = stores access regs pc m rs1 rs2 imm 2
  execute access (Sw rs1 rs2 imm) regs pc m = stores access regs pc m rs1 rs2 imm 4
  execute access (Addi rd rs1 imm) regs pc m = sets regs pc m rd (add (reg regs rs1) (word_of imm))
  execute access (Slti rd rs1 imm) regs pc m = sets regs pc m rd (truth (lt_s (reg regs rs1) (word_of imm)))
  execute access (Sltiu rd rs1 imm) regs pc m = sets regs pc m rd (truth (lt_u (reg regs rs1) (word_of imm)))
  execute access (Xori rd rs1 imm) regs pc m = sets regs pc m rd (bit_xor (reg regs rs1) (word_of imm))
  execute access (Ori rd rs1 imm) regs pc m = sets regs pc m rd (bit_or (reg regs rs1) (word_of imm))
  execute access (Andi rd rs1 imm) regs pc m = sets regs pc m rd (bit_and (reg regs rs1) (word_of imm))
  execute access (Slli rd rs1 imm) regs pc m = sets regs pc m rd (shl (reg regs rs1) (word_of imm))
  execute access (Srli rd rs1 imm) regs pc m = sets regs pc m rd (shr_u (reg regs rs1) (word_of imm))
  execute access (Srai rd rs1 imm) regs pc m = sets regs pc m rd (shr_s (reg regs rs1) (word_of imm))
  execute access (Add rd rs1 rs2) regs pc m = sets regs pc m rd (add (reg regs rs1) (reg regs rs2))
  execute access (Sub rd rs1 rs2) regs pc m = sets regs pc m rd (sub (reg regs rs1) (reg regs rs2))
  execute access (Sll rd rs1 rs2) regs pc m = sets regs pc m rd (shl (reg regs rs1) (reg regs rs2))
  execute access (Slt rd rs1 rs2) regs pc m = sets regs pc m rd (truth (lt_s (reg regs rs1) (reg regs rs2)))
  execute access (Sltu rd rs1 rs2) regs pc m = sets regs pc m rd (truth (lt_u (reg regs rs1) (reg regs rs2)))
  execute access (Xor rd rs1 rs2) regs pc m = sets regs pc m rd (bit_xor (reg regs rs1) (reg regs rs2))
  execute access (Srl rd rs1 rs2) regs pc m = sets regs pc m rd (shr_u (reg regs rs1) (reg regs rs2))
  execute access (Sra rd rs1 rs2) regs pc m = sets regs pc m rd (shr_s (reg regs rs1) (reg regs rs2))
  execute access (Or rd rs1 rs2) regs pc m = sets regs pc m rd (bit_or (reg regs rs1) (reg regs rs2))
  execute access (And rd rs1 rs2) regs pc m = sets regs pc m rd (bit_and (reg regs rs1) (reg regs rs2))
  execute access (Mul rd rs1 rs2) regs pc m = sets regs pc m rd (mul (reg regs rs1) (reg regs rs2))
  execute access (Mulh rd rs1 rs2) regs pc m = sets regs pc m rd (mul_high_ss (reg regs rs1) (reg regs rs2))
  execute access (Mulhsu rd rs1 rs2) regs pc m = sets regs pc m rd (mul_high_su (reg regs rs1) (reg regs rs2))
  execute access (Mulhu rd rs1 rs2) regs pc m = sets regs pc m rd (mul_high_uu (reg regs rs1) (reg regs rs2))
  execute access (Div rd rs1 rs2) regs pc m = sets regs pc m rd (quotient_s (reg regs rs1) (reg regs rs2))
  execute access (Divu rd rs1 rs2) regs pc m = sets regs pc m rd (quotient_u (reg regs rs1) (reg regs rs2))
  execute access (Rem rd rs1 rs2) regs pc m = sets regs pc m rd (remainder_s (reg regs rs1) (reg regs rs2))
  execute access (Remu rd rs1 rs2) regs pc m = sets regs pc m rd (remainder_u (reg regs rs1) (reg regs rs2))
  execute access Fence regs pc m = Goes regs (add pc 4) m
  execute access FenceI regs pc m = Goes regs (add pc 4) (access.fence m)
  execute access Ecall regs pc m = Calls
  execute access Ebreak regs pc m = Faults cause.Break

  abbrev pub decoded : Access M → Option Instr → List ℕ → ℕ → M → Outcome M
  decoded access None regs pc m = Faults cause.Undefined
  decoded access (Some i) regs pc m = execute access i regs pc m

  -- one step with the word that was fetched at pc, none where there is no fetch
  abbrev pub step : Access M → Option ℕ → List ℕ → ℕ → M → Outcome M
  step access None regs pc m = Faults cause.Fetch
  step access (Some word) regs pc m = decoded access (decode word) regs pc m
