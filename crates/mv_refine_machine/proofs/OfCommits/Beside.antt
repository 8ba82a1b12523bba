-- A step of the machine is one of its memory, with the rest left as it was.
use Rattle.std.proofs.Common.{◌≡◌, ℕ, ◌%◌, Bool, true, false, cond, eqb, List, Option, Some, None, option_map, ℤ, refl}
use Rattle.mv_num.specs.declared.kind.Kind.{Kind}
use Rattle.mv_num.specs.Words.{add, word_of}
use Rattle.mv_isa.specs.declared.instr.Cause.TheVariants as cause
use Rattle.mv_isa.specs.declared.instr.Instr.{Instr}
use Rattle.mv_isa.specs.declared.instr.Instr.TheVariants.{Lui, Auipc, Jal, Jalr, Beq, Bne, Blt, Bge, Bltu, Bgeu, Lb, Lh, Lw, Lbu, Lhu, Sb, Sh, Sw, Addi, Slti, Sltiu, Xori, Ori, Andi, Slli, Srli, Srai, Add, Sub, Sll, Slt, Sltu, Xor, Srl, Sra, Or, And, Mul, Mulh, Mulhsu, Mulhu, Div, Divu, Rem, Remu, Fence, FenceI, Ecall, Ebreak}
use Rattle.mv_isa.specs.Encoding.{decode}
use Rattle.mv_isa.specs.Execution.{Outcome, Goes, Calls, Faults, sets, jumps, branches, loaded, stored, loads, stores, execute, decoded, step}
use Rattle.mv_fetch.specs.Held.{Room}
use Rattle.mv_rv32.specs.Stepping.{access as room_access}
use Rattle.mv_refine_machine.specs.Commits.Watched.{Watched, access, put_room}

-- what a step of the memory leads to, with the rest
abbrev pub beside : Watched → Outcome Room → Outcome Watched
beside m (Goes regs pc room) = Goes regs pc (put_room m room)
beside m Calls = Calls
beside m (Faults why) = Faults why

cond_beside : (m : Watched) (b : Bool) (x y : Outcome Room) → cond b (beside m x) (beside m y) ≡ beside m (cond b x y)
cond_beside m true x y = refl
cond_beside m false x y = refl

jumps_beside : (regs : List ℕ) (m : Watched) (target : ℕ) → jumps regs m target ≡ beside m (jumps regs m.rest.room target)
unfolding jumps
jumps_beside regs m target = cond_beside m (eqb (target % 4) 0) (Goes regs target m.rest.room) (Faults cause.Jump)

branches_beside : (regs : List ℕ) (pc : ℕ) (m : Watched) (imm : ℤ) (test : Bool) → branches regs pc m imm test ≡ beside m (branches regs pc m.rest.room imm test)
unfolding branches
branches_beside regs pc m imm true = jumps_beside regs m (add pc (word_of imm))
branches_beside regs pc m imm false = refl

loaded_beside : (regs : List ℕ) (pc : ℕ) (m : Watched) (rd : ℕ) (k : Kind) (value : Option ℕ) → loaded regs pc m rd k value ≡ beside m (loaded regs pc m.rest.room rd k value)
unfolding sets
loaded_beside regs pc m rd k None = refl
loaded_beside regs pc m rd k (Some value) = refl

stored_beside : (regs : List ℕ) (pc : ℕ) (m : Watched) (room : Option Room) → stored regs pc (option_map (put_room m) room) ≡ beside m (stored regs pc room)
stored_beside regs pc m None = refl
stored_beside regs pc m (Some room) = refl

execute_beside : (i : Instr) (regs : List ℕ) (pc : ℕ) (m : Watched) → execute access i regs pc m ≡ beside m (execute room_access i regs pc m.rest.room)
unfolding execute sets loads stores access
execute_beside (Lui rd imm) regs pc m = refl
execute_beside (Auipc rd imm) regs pc m = refl
execute_beside (Jal rd imm) regs pc m = jumps_beside _ m _
execute_beside (Jalr rd rs1 imm) regs pc m = jumps_beside _ m _
execute_beside (Beq rs1 rs2 imm) regs pc m = branches_beside regs pc m imm _
execute_beside (Bne rs1 rs2 imm) regs pc m = branches_beside regs pc m imm _
execute_beside (Blt rs1 rs2 imm) regs pc m = branches_beside regs pc m imm _
execute_beside (Bge rs1 rs2 imm) regs pc m = branches_beside regs pc m imm _
execute_beside (Bltu rs1 rs2 imm) regs pc m = branches_beside regs pc m imm _
execute_beside (Bgeu rs1 rs2 imm) regs pc m = branches_beside regs pc m imm _
execute_beside (Lb rd rs1 imm) regs pc m = loaded_beside regs pc m rd _ _
execute_beside (Lh rd rs1 imm) regs pc m = loaded_beside regs pc m rd _ _
execute_beside (Lw rd rs1 imm) regs pc m = loaded_beside regs pc m rd _ _
execute_beside (Lbu rd rs1 imm) regs pc m = loaded_beside regs pc m rd _ _
execute_beside (Lhu rd rs1 imm) regs pc m = loaded_beside regs pc m rd _ _
execute_beside (Sb rs1 rs2 imm) regs pc m = stored_beside regs pc m _
execute_beside (Sh rs1 rs2 imm) regs pc m = stored_beside regs pc m _
execute_beside (Sw rs1 rs2 imm) regs pc m = stored_beside regs pc m _
execute_beside (Addi rd rs1 imm) regs pc m = refl
execute_beside (Slti rd rs1 imm) regs pc m = refl
execute_beside (Sltiu rd rs1 imm) regs pc m = refl
execute_beside (Xori rd rs1 imm) regs pc m = refl
execute_beside (Ori rd rs1 imm) regs pc m = refl
execute_beside (Andi rd rs1 imm) regs pc m = refl
execute_beside (Slli rd rs1 imm) regs pc m = refl
execute_beside (Srli rd rs1 imm) regs pc m = refl
execute_beside (Srai rd rs1 imm) regs pc m = refl
execute_beside (Add rd rs1 rs2) regs pc m = refl
execute_beside (Sub rd rs1 rs2) regs pc m = refl
execute_beside (Sll rd rs1 rs2) regs pc m = refl
execute_beside (Slt rd rs1 rs2) regs pc m = refl
execute_beside (Sltu rd rs1 rs2) regs pc m = refl
execute_beside (Xor rd rs1 rs2) regs pc m = refl
execute_beside (Srl rd rs1 rs2) regs pc m = refl
execute_beside (Sra rd rs1 rs2) regs pc m = refl
execute_beside (Or rd rs1 rs2) regs pc m = refl
execute_beside (And rd rs1 rs2) regs pc m = refl
execute_beside (Mul rd rs1 rs2) regs pc m = refl
execute_beside (Mulh rd rs1 rs2) regs pc m = refl
execute_beside (Mulhsu rd rs1 rs2) regs pc m = refl
execute_beside (Mulhu rd rs1 rs2) regs pc m = refl
execute_beside (Div rd rs1 rs2) regs pc m = refl
execute_beside (Divu rd rs1 rs2) regs pc m = refl
execute_beside (Rem rd rs1 rs2) regs pc m = refl
execute_beside (Remu rd rs1 rs2) regs pc m = refl
execute_beside Fence regs pc m = refl
execute_beside FenceI regs pc m = refl
execute_beside Ecall regs pc m = refl
execute_beside Ebreak regs pc m = refl

decoded_beside : (i : Option Instr) (regs : List ℕ) (pc : ℕ) (m : Watched) → decoded access i regs pc m ≡ beside m (decoded room_access i regs pc m.rest.room)
decoded_beside None regs pc m = refl
decoded_beside (Some i) regs pc m = execute_beside i regs pc m

pub step_beside : (word : Option ℕ) (regs : List ℕ) (pc : ℕ) (m : Watched) → step access word regs pc m ≡ beside m (step room_access word regs pc m.rest.room)
step_beside None regs pc m = refl
step_beside (Some word) regs pc m = decoded_beside (decode word) regs pc m

-- the memory went on, and the rest stayed
pub record Went (m : Watched) (outcome : Outcome Room) (regs : List ℕ) (pc : ℕ) (m' : Watched) : Type 0 where
  pub room : Room
  pub goes : outcome ≡ Goes regs pc room
  pub rest : m' ≡ put_room m room

pub goes_beside : (m : Watched) (outcome : Outcome Room) (regs : List ℕ) (pc : ℕ) (m' : Watched) → beside m outcome ≡ Goes regs pc m' → Went m outcome regs pc m'
goes_beside m (Goes r p room) regs pc m' e = record { room = room; goes = cc; rest = cc }
goes_beside m Calls regs pc m' e = absurd (cc)
goes_beside m (Faults why) regs pc m' e = absurd (cc)
