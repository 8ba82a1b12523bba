use Rattle.std.proofs.Common.{Option, sym, subst, IfSome, IfNone, arith}
use Rattle.mv_isa.specs.declared.instr.Instr.{Instr}
use Rattle.mv_isa.specs.Encoding.{IsEncodingOf}
use Rattle.mv_isa.proofs.Again.{decode_said, decode_none}
use Rattle.mv_isa.proofs.decoding.decode.Goals as goal

pub returns-clause-some : goal.returns-clause-some
returns-clause-some c =
    let P : Option Instr → Type 0 = λ o. IfSome o (IsEncodingOf c.args.word) in
    subst P (sym c.instruction.ensures) (decode_said c.args.word (omega arith))

pub returns-clause-none : goal.returns-clause-none
returns-clause-none c =
    let P : Option Instr → Type 0 = λ o. IfNone o ((i : Instr) → IsEncodingOf c.args.word i → ⊥) in
    subst P (sym c.instruction.ensures) (decode_none c.args.word)
