use Rattle.std.proofs.Common.{◌≡◌, sym, subst, arith}
use Rattle.std.proofs.lemmas.Int.{ints, to_z-of_z}
use Rattle.mv_isa.specs.Encoding.{Fits}
use Rattle.mv_asmtext.specs.Mnemonics.{field_of, instruction}
use Rattle.mv_asmtext.specs.Numbers.{signed}
use Rattle.mv_asmtext.proofs.InstructionFits.{holds_small, instruction_fits}
use Rattle.mv_asmtext.proofs.assembly.instruction_word.Goals as goal

pub signed-requires : goal.signed-requires
signed-requires c = holds_small (field_of c.args.mnemonic) c.args.number c.requires

pub encode-requires : goal.encode-requires
encode-requires c =
    let e : c.instruction.result ≡ instruction c.args.mnemonic c.args.registers.now (signed c.args.number) = grind (arith, ints, to_z-of_z) in
    subst Fits (sym e) (instruction_fits c.args.registers.now (omega arith) (omega arith) (omega arith) c.args.number c.args.mnemonic c.requires)
