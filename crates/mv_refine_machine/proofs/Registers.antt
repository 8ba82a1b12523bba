-- A run has 32 registers.
use Rattle.std.proofs.Common.{◌≡◌, ℕ, zero, suc, ◌%◌, Bool, true, false, cond, eqb, List, length, slice_get, slice_index, Option, Some, None, ℤ, refl, ◌∙◌, length-set, if◌then◌else◌}
use Rattle.std.proofs.lemmas.Bool.{ne_eqb}
use Rattle.mv_machine.specs.Acts.{PollActs}
use Rattle.mv_num.specs.declared.kind.Kind.{Kind}
use Rattle.mv_num.specs.Words.{add, word_of}
use Rattle.mv_isa.specs.declared.instr.Cause.TheVariants as cause
use Rattle.mv_isa.specs.declared.instr.Instr.{Instr}
use Rattle.mv_isa.specs.declared.instr.Instr.TheVariants.{Lui, Auipc, Jal, Jalr, Beq, Bne, Blt, Bge, Bltu, Bgeu, Lb, Lh, Lw, Lbu, Lhu, Sb, Sh, Sw, Addi, Slti, Sltiu, Xori, Ori, Andi, Slli, Srli, Srai, Add, Sub, Sll, Slt, Sltu, Xor, Srl, Sra, Or, And, Mul, Mulh, Mulhsu, Mulhu, Div, Divu, Rem, Remu, Fence, FenceI, Ecall, Ebreak}
use Rattle.mv_isa.specs.Encoding.{decode}
use Rattle.mv_isa.specs.Execution.{Outcome, Goes, Calls, Faults, reg, put, sets, jumps, branches, loaded, stored, loads, stores, execute, decoded, step}
use Rattle.mv_fetch.specs.Held.{Room, choices}
use Rattle.mv_rv32.specs.Stepping.{access, picked_step}
use Rattle.mv_image.specs.Spelling.{Fields}
use Rattle.mv_machine.proofs.Leaving.{Leaves as EachLeaves, planned_leaves, polled_leaves}
use Rattle.mv_machine.specs.Runs.{State, Stop, Going, Exit, Trap, Fault, Request, Exits, Reads, Writes, Traps, Plans, Polls, Unknown, request_of, argument, answered, environment_call, fetched_step, choices_at, after, is_going, turn, runs_from, first, runs}

put_length : (regs : List ℕ) (rd value : ℕ) → length (put regs rd value) ≡ length regs
unfolding put
put_length regs zero value = refl
put_length regs (suc rd) value = let e : eqb (suc rd) 0 ≡ false = ne_eqb (suc rd) 0 (λ e. absurd (cc)) in rw e (length-set regs (suc rd) value)

-- an outcome has as many registers as before, where it has any
abbrev Keeps : ℕ → Outcome Room → Type 0
Keeps n (Goes regs pc room) = length regs ≡ n
Keeps n Calls = Unit {0}
Keeps n (Faults why) = Unit {0}

cond_keeps : (n : ℕ) (b : Bool) (x y : Outcome Room) → Keeps n x → Keeps n y → Keeps n (cond b x y)
cond_keeps n true x y h k = h
cond_keeps n false x y h k = k

jumps_keep : {n : ℕ} (regs : List ℕ) (room : Room) (target : ℕ) → length regs ≡ n → Keeps n (jumps regs room target)
unfolding jumps
jumps_keep {n} regs room target h = cond_keeps n (eqb (target % 4) 0) (Goes regs target room) (Faults cause.Jump) h tt

branches_keep : (regs : List ℕ) (pc : ℕ) (room : Room) (imm : ℤ) (test : Bool) → Keeps (length regs) (branches regs pc room imm test)
unfolding branches
branches_keep regs pc room imm true = jumps_keep regs room (add pc (word_of imm)) refl
branches_keep regs pc room imm false = refl

loaded_keeps : (regs : List ℕ) (pc : ℕ) (room : Room) (rd : ℕ) (k : Kind) (value : Option ℕ) → Keeps (length regs) (loaded regs pc room rd k value)
unfolding sets
loaded_keeps regs pc room rd k None = tt
loaded_keeps regs pc room rd k (Some value) = put_length regs rd _

stored_keeps : (regs : List ℕ) (pc : ℕ) (room : Option Room) → Keeps (length regs) (stored regs pc room)
stored_keeps regs pc None = tt
stored_keeps regs pc (Some room) = refl

execute_keeps : (i : Instr) (regs : List ℕ) (pc : ℕ) (room : Room) → Keeps (length regs) (execute access i regs pc room)
unfolding execute sets loads stores
execute_keeps (Lui rd imm) regs pc room = put_length regs rd _
execute_keeps (Auipc rd imm) regs pc room = put_length regs rd _
execute_keeps (Jal rd imm) regs pc room = jumps_keep _ room _ (put_length regs rd _)
execute_keeps (Jalr rd rs1 imm) regs pc room = jumps_keep _ room _ (put_length regs rd _)
execute_keeps (Beq rs1 rs2 imm) regs pc room = branches_keep regs pc room imm _
execute_keeps (Bne rs1 rs2 imm) regs pc room = branches_keep regs pc room imm _
execute_keeps (Blt rs1 rs2 imm) regs pc room = branches_keep regs pc room imm _
execute_keeps (Bge rs1 rs2 imm) regs pc room = branches_keep regs pc room imm _
execute_keeps (Bltu rs1 rs2 imm) regs pc room = branches_keep regs pc room imm _
execute_keeps (Bgeu rs1 rs2 imm) regs pc room = branches_keep regs pc room imm _
execute_keeps (Lb rd rs1 imm) regs pc room = loaded_keeps regs pc room rd _ _
execute_keeps (Lh rd rs1 imm) regs pc room = loaded_keeps regs pc room rd _ _
execute_keeps (Lw rd rs1 imm) regs pc room = loaded_keeps regs pc room rd _ _
execute_keeps (Lbu rd rs1 imm) regs pc room = loaded_keeps regs pc room rd _ _
execute_keeps (Lhu rd rs1 imm) regs pc room = loaded_keeps regs pc room rd _ _
execute_keeps (Sb rs1 rs2 imm) regs pc room = stored_keeps regs pc _
execute_keeps (Sh rs1 rs2 imm) regs pc room = stored_keeps regs pc _
execute_keeps (Sw rs1 rs2 imm) regs pc room = stored_keeps regs pc _
execute_keeps (Addi rd rs1 imm) regs pc room = put_length regs rd _
execute_keeps (Slti rd rs1 imm) regs pc room = put_length regs rd _
execute_keeps (Sltiu rd rs1 imm) regs pc room = put_length regs rd _
execute_keeps (Xori rd rs1 imm) regs pc room = put_length regs rd _
execute_keeps (Ori rd rs1 imm) regs pc room = put_length regs rd _
execute_keeps (Andi rd rs1 imm) regs pc room = put_length regs rd _
execute_keeps (Slli rd rs1 imm) regs pc room = put_length regs rd _
execute_keeps (Srli rd rs1 imm) regs pc room = put_length regs rd _
execute_keeps (Srai rd rs1 imm) regs pc room = put_length regs rd _
execute_keeps (Add rd rs1 rs2) regs pc room = put_length regs rd _
execute_keeps (Sub rd rs1 rs2) regs pc room = put_length regs rd _
execute_keeps (Sll rd rs1 rs2) regs pc room = put_length regs rd _
execute_keeps (Slt rd rs1 rs2) regs pc room = put_length regs rd _
execute_keeps (Sltu rd rs1 rs2) regs pc room = put_length regs rd _
execute_keeps (Xor rd rs1 rs2) regs pc room = put_length regs rd _
execute_keeps (Srl rd rs1 rs2) regs pc room = put_length regs rd _
execute_keeps (Sra rd rs1 rs2) regs pc room = put_length regs rd _
execute_keeps (Or rd rs1 rs2) regs pc room = put_length regs rd _
execute_keeps (And rd rs1 rs2) regs pc room = put_length regs rd _
execute_keeps (Mul rd rs1 rs2) regs pc room = put_length regs rd _
execute_keeps (Mulh rd rs1 rs2) regs pc room = put_length regs rd _
execute_keeps (Mulhsu rd rs1 rs2) regs pc room = put_length regs rd _
execute_keeps (Mulhu rd rs1 rs2) regs pc room = put_length regs rd _
execute_keeps (Div rd rs1 rs2) regs pc room = put_length regs rd _
execute_keeps (Divu rd rs1 rs2) regs pc room = put_length regs rd _
execute_keeps (Rem rd rs1 rs2) regs pc room = put_length regs rd _
execute_keeps (Remu rd rs1 rs2) regs pc room = put_length regs rd _
execute_keeps Fence regs pc room = refl
execute_keeps FenceI regs pc room = refl
execute_keeps Ecall regs pc room = tt
execute_keeps Ebreak regs pc room = tt

step_keeps : (word : Option ℕ) (regs : List ℕ) (pc : ℕ) (room : Room) → Keeps (length regs) (step access word regs pc room)
step_keeps None regs pc room = tt
step_keeps (Some word) regs pc room = decoded_keeps (decode word)
  where
    decoded_keeps : (i : Option Instr) → Keeps (length regs) (decoded access i regs pc room)
    decoded_keeps None = tt
    decoded_keeps (Some i) = execute_keeps i regs pc room

fetched_keeps : (s : State) (pick : ℕ) → Keeps (length s.regs) (fetched_step s pick)
unfolding fetched_step picked_step
fetched_keeps s pick = step_keeps (slice_get (choices s.room.held s.pc) (pick % choices_at s)) s.regs s.pc s.room

plan_keeps : (s : State) → EachLeaves (λ (t : State). length t.regs ≡ length s.regs) s
unfolding answered
plan_keeps s = record { refuses = λ actions answer. put_length s.regs 10 answer; carries = λ room actions plan answer. put_length s.regs 10 answer; adopts = λ actions bs. put_length s.regs 10 1; faults = refl }

call_keeps : (request : Request) (s : State) → length (environment_call request s).regs ≡ length s.regs
unfolding answered
call_keeps Exits s = refl
call_keeps Reads s = put_length s.regs 10 _
call_keeps Writes s = put_length s.regs 10 _
call_keeps Traps s = refl
call_keeps Plans s = planned_leaves (λ (t : State). length t.regs ≡ length s.regs) s (argument s) (reg s.regs 11) (plan_keeps s)
call_keeps Polls s = polled_leaves (λ (t : State). length t.regs ≡ length s.regs) s (plan_keeps s)
call_keeps Unknown s = refl

after_keeps : (outcome : Outcome Room) (s : State) → Keeps (length s.regs) outcome → length (after outcome s).regs ≡ length s.regs
after_keeps (Goes regs pc room) s h = h
after_keeps Calls s h = call_keeps (request_of _) s
after_keeps (Faults why) s h = refl

going_keeps : (stop : Stop) (going ended : State) → length going.regs ≡ length ended.regs → length (if is_going stop then going else ended).regs ≡ length ended.regs
going_keeps Going going ended h = h
going_keeps (Exit status) going ended h = refl
going_keeps (Trap code) going ended h = refl
going_keeps (Fault why) going ended h = refl

turn_keeps : (s : State) (pick : ℕ) → length (turn s pick).regs ≡ length s.regs
unfolding turn
turn_keeps s pick = going_keeps s.stop (after (fetched_step s pick) s) s (after_keeps (fetched_step s pick) s (fetched_keeps s pick))

runs_keep : (s : State) (picks : List ℕ) (n : ℕ) → length (runs_from s picks n).regs ≡ length s.regs
unfolding runs_from
runs_keep s picks zero = refl
runs_keep s picks (suc n) = turn_keeps (runs_from s picks n) (slice_index picks n) ∙ runs_keep s picks n

first_registers : (image : Fields) (input : List (Option ℕ)) (polls : PollActs) → length (first image input polls).regs ≡ 32
unfolding first
first_registers image input polls = refl

pub run_registers : (image : Fields) (input : List (Option ℕ)) (polls : PollActs) (picks : List ℕ) (n : ℕ) → length (runs image input polls picks n).regs ≡ 32
run_registers image input polls picks n = runs_keep (first image input polls) picks n ∙ first_registers image input polls
