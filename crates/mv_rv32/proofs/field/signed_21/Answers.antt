use Rattle.mv_isa.proofs.Immediates.{cast_21}
use Rattle.mv_rv32.proofs.field.signed_21.Goals as goal

pub returns : goal.returns
returns c = cast_21 c.args.x c.cast_signed.result c.requires c.cast_signed.type_inv c.cast_signed.ensures
