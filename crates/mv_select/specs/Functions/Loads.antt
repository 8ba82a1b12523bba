-- Where an instruction loads from.
use Rattle.std.specs.Prelude.{ℕ, List, Option, Some, None}
use Rattle.mv_num.specs.Words.{word_of, add}
use Rattle.mv_isa.specs.declared.instr.Instr.{Instr}
use Rattle.mv_isa.specs.declared.instr.Instr.TheVariants.{Lb, Lh, Lw, Lbu, Lhu}
use Rattle.mv_isa.specs.Execution.{reg}

-- where an instruction loads from, if it is a load
abbrev pub loads_from : Instr → List ℕ → Option ℕ
loads_from (Lb rd rs1 imm) regs = Some (add (reg regs rs1) (word_of imm))
loads_from (Lh rd rs1 imm) regs = Some (add (reg regs rs1) (word_of imm))
loads_from (Lw rd rs1 imm) regs = Some (add (reg regs rs1) (word_of imm))
loads_from (Lbu rd rs1 imm) regs = Some (add (reg regs rs1) (word_of imm))
loads_from (Lhu rd rs1 imm) regs = Some (add (reg regs rs1) (word_of imm))
loads_from _ regs = None
