use Rattle.mv_isa.proofs.Immediates.{cast_12}
use Rattle.mv_harts_one.proofs.fields.signed_12.Goals as goal

pub returns : goal.returns
returns c = cast_12 c.args.x c.cast_signed.result c.requires c.cast_signed.type_inv c.cast_signed.ensures
