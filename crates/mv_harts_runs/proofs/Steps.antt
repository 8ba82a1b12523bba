-- What one instruction does to memory.
use Rattle.std.proofs.Common.{◌≡◌, ℕ, ◌%◌, Bool, true, false, cond, eqb, List, Option, Some, None, ℤ, refl, sym, subst}
use Rattle.std.specs.Prelude.{option_and_then, slice_get}
use Rattle.mv_num.specs.declared.kind.Kind.{Kind}
use Rattle.mv_num.specs.Words.{add, word_of}
use Rattle.mv_isa.specs.declared.instr.Cause.TheVariants as cause
use Rattle.mv_isa.specs.declared.instr.Instr.{Instr}
use Rattle.mv_isa.specs.declared.instr.Instr.TheVariants.{Lui, Auipc, Jal, Jalr, Beq, Bne, Blt, Bge, Bltu, Bgeu, Lb, Lh, Lw, Lbu, Lhu, Sb, Sh, Sw, Addi, Slti, Sltiu, Xori, Ori, Andi, Slli, Srli, Srai, Add, Sub, Sll, Slt, Sltu, Xor, Srl, Sra, Or, And, Mul, Mulh, Mulhsu, Mulhu, Div, Divu, Rem, Remu, Fence, FenceI, Ecall, Ebreak}
use Rattle.mv_isa.specs.Encoding.{decode}
use Rattle.mv_isa.specs.Execution.{Outcome, Goes, Calls, Faults, sets, jumps, branches, loaded, stored, loads, stores, execute, decoded, step}
use Rattle.mv_fetch.specs.Held.{Room, choices}
use Rattle.mv_rv32.specs.Stepping.{access, picked_step}
use Rattle.mv_machine.specs.Runs.{State, choices_at, fetched_step}
use Rattle.mv_machine.specs.Commits.{fetched_instr}
use Rattle.mv_harts_runs.specs.Harts.{Store, store_of}

abbrev pub is_fence : Instr → Bool
is_fence FenceI = true
is_fence i = false

-- memory behind an instruction, by the store that it makes, and whether it is FENCE.I
abbrev pub Effect : Option Store → (fence : Bool) → (m m' : Room) → Type 0
Effect (Some st) fence m m' = access.store m st.address st.width st.value ≡ Some m'
Effect None true m m' = m' ≡ access.fence m
Effect None false m m' = m' ≡ m

abbrev pub Led : Instr → List ℕ → Room → Outcome Room → Type 0
Led i regs m (Goes r p m') = Effect (store_of i regs) (is_fence i) m m'
Led i regs m Calls = i ≡ Ecall
Led i regs m (Faults why) = Unit {0}

-- an instruction that goes on with the same memory, or faults
abbrev Same : Room → Outcome Room → Type 0
Same m (Goes r p m') = m' ≡ m
Same m Calls = ⊥
Same m (Faults why) = Unit {0}

jumps_same : (regs : List ℕ) (m : Room) (target : ℕ) → Same m (jumps regs m target)
unfolding jumps
jumps_same regs m target = by_test (eqb (target % 4) 0)
  where
    by_test : (b : Bool) → Same m (cond b (Goes regs target m) (Faults cause.Jump))
    by_test true = refl
    by_test false = tt

branches_same : (regs : List ℕ) (pc : ℕ) (m : Room) (imm : ℤ) (test : Bool) → Same m (branches regs pc m imm test)
unfolding branches
branches_same regs pc m imm true = jumps_same regs m (add pc (word_of imm))
branches_same regs pc m imm false = refl

loaded_same : (regs : List ℕ) (pc : ℕ) (m : Room) (rd : ℕ) (k : Kind) (value : Option ℕ) → Same m (loaded regs pc m rd k value)
unfolding sets
loaded_same regs pc m rd k None = tt
loaded_same regs pc m rd k (Some value) = refl

module _ (i : Instr) (regs : List ℕ) (m : Room) where
  plain : (o : Outcome Room) → store_of i regs ≡ None → is_fence i ≡ false → Same m o → Led i regs m o
  plain (Goes r p m') e f h = subst (λ s. Effect s (is_fence i) m m') (sym e) (subst (λ b. Effect None b m m') (sym f) h)
  plain Calls e f h = absurd h
  plain (Faults why) e f h = tt

stored_led : (st : Store) (regs : List ℕ) (pc : ℕ) (m : Room) (o : Option Room) → access.store m st.address st.width st.value ≡ o → (i : Instr) → store_of i regs ≡ Some st → Led i regs m (stored regs pc o)
stored_led st regs pc m None e i s = tt
stored_led st regs pc m (Some m') e i s = subst (λ x. Effect x (is_fence i) m m') (sym s) e

execute_led : (i : Instr) (regs : List ℕ) (pc : ℕ) (m : Room) → Led i regs m (execute access i regs pc m)
unfolding execute sets loads stores
execute_led (Lui rd imm) regs pc m = refl
execute_led (Auipc rd imm) regs pc m = refl
execute_led (Jal rd imm) regs pc m = plain (Jal rd imm) regs m _ refl refl (jumps_same _ m _)
execute_led (Jalr rd rs1 imm) regs pc m = plain (Jalr rd rs1 imm) regs m _ refl refl (jumps_same _ m _)
execute_led (Beq rs1 rs2 imm) regs pc m = plain (Beq rs1 rs2 imm) regs m _ refl refl (branches_same regs pc m imm _)
execute_led (Bne rs1 rs2 imm) regs pc m = plain (Bne rs1 rs2 imm) regs m _ refl refl (branches_same regs pc m imm _)
execute_led (Blt rs1 rs2 imm) regs pc m = plain (Blt rs1 rs2 imm) regs m _ refl refl (branches_same regs pc m imm _)
execute_led (Bge rs1 rs2 imm) regs pc m = plain (Bge rs1 rs2 imm) regs m _ refl refl (branches_same regs pc m imm _)
execute_led (Bltu rs1 rs2 imm) regs pc m = plain (Bltu rs1 rs2 imm) regs m _ refl refl (branches_same regs pc m imm _)
execute_led (Bgeu rs1 rs2 imm) regs pc m = plain (Bgeu rs1 rs2 imm) regs m _ refl refl (branches_same regs pc m imm _)
execute_led (Lb rd rs1 imm) regs pc m = plain (Lb rd rs1 imm) regs m _ refl refl (loaded_same regs pc m rd _ _)
execute_led (Lh rd rs1 imm) regs pc m = plain (Lh rd rs1 imm) regs m _ refl refl (loaded_same regs pc m rd _ _)
execute_led (Lw rd rs1 imm) regs pc m = plain (Lw rd rs1 imm) regs m _ refl refl (loaded_same regs pc m rd _ _)
execute_led (Lbu rd rs1 imm) regs pc m = plain (Lbu rd rs1 imm) regs m _ refl refl (loaded_same regs pc m rd _ _)
execute_led (Lhu rd rs1 imm) regs pc m = plain (Lhu rd rs1 imm) regs m _ refl refl (loaded_same regs pc m rd _ _)
execute_led (Sb rs1 rs2 imm) regs pc m = stored_led _ regs pc m _ refl (Sb rs1 rs2 imm) refl
execute_led (Sh rs1 rs2 imm) regs pc m = stored_led _ regs pc m _ refl (Sh rs1 rs2 imm) refl
execute_led (Sw rs1 rs2 imm) regs pc m = stored_led _ regs pc m _ refl (Sw rs1 rs2 imm) refl
execute_led (Addi rd rs1 imm) regs pc m = refl
execute_led (Slti rd rs1 imm) regs pc m = refl
execute_led (Sltiu rd rs1 imm) regs pc m = refl
execute_led (Xori rd rs1 imm) regs pc m = refl
execute_led (Ori rd rs1 imm) regs pc m = refl
execute_led (Andi rd rs1 imm) regs pc m = refl
execute_led (Slli rd rs1 imm) regs pc m = refl
execute_led (Srli rd rs1 imm) regs pc m = refl
execute_led (Srai rd rs1 imm) regs pc m = refl
execute_led (Add rd rs1 rs2) regs pc m = refl
execute_led (Sub rd rs1 rs2) regs pc m = refl
execute_led (Sll rd rs1 rs2) regs pc m = refl
execute_led (Slt rd rs1 rs2) regs pc m = refl
execute_led (Sltu rd rs1 rs2) regs pc m = refl
execute_led (Xor rd rs1 rs2) regs pc m = refl
execute_led (Srl rd rs1 rs2) regs pc m = refl
execute_led (Sra rd rs1 rs2) regs pc m = refl
execute_led (Or rd rs1 rs2) regs pc m = refl
execute_led (And rd rs1 rs2) regs pc m = refl
execute_led (Mul rd rs1 rs2) regs pc m = refl
execute_led (Mulh rd rs1 rs2) regs pc m = refl
execute_led (Mulhsu rd rs1 rs2) regs pc m = refl
execute_led (Mulhu rd rs1 rs2) regs pc m = refl
execute_led (Div rd rs1 rs2) regs pc m = refl
execute_led (Divu rd rs1 rs2) regs pc m = refl
execute_led (Rem rd rs1 rs2) regs pc m = refl
execute_led (Remu rd rs1 rs2) regs pc m = refl
execute_led Fence regs pc m = refl
execute_led FenceI regs pc m = refl
execute_led Ecall regs pc m = refl
execute_led Ebreak regs pc m = tt

-- ---- what a pick fetches

abbrev pub FetchedLed : Option Instr → List ℕ → Room → Outcome Room → Type 0
FetchedLed None regs m (Goes r p m') = ⊥
FetchedLed None regs m Calls = ⊥
FetchedLed None regs m (Faults why) = Unit {0}
FetchedLed (Some i) regs m o = Led i regs m o

decoded_led : (i : Option Instr) (regs : List ℕ) (pc : ℕ) (m : Room) → FetchedLed i regs m (decoded access i regs pc m)
decoded_led None regs pc m = tt
decoded_led (Some i) regs pc m = execute_led i regs pc m

word_led : (word : Option ℕ) (regs : List ℕ) (pc : ℕ) (m : Room) → FetchedLed (option_and_then decode word) regs m (step access word regs pc m)
word_led None regs pc m = tt
word_led (Some word) regs pc m = decoded_led (decode word) regs pc m

pub fetched_led : (s : State) (pick : ℕ) → FetchedLed (fetched_instr s pick) s.regs s.room (fetched_step s pick)
unfolding fetched_step picked_step
fetched_led s pick = word_led (slice_get (choices s.room.held s.pc) (pick % choices_at s)) s.regs s.pc s.room
