use Rattle.std.proofs.lemmas.Result.{IfOk-weaker}
use Rattle.mv_variants.proofs.Worked.{plain_made}
use Rattle.mv_variants.proofs.making.made_under.Goals as goal

pub returns-else-fits_frame : goal.returns-else-fits_frame
returns-else-fits_frame c = IfOk-weaker c.worked-else-fits_frame.result _ _ (plain_made c.args.assignment.now.values c.args.body.now c.args.ready.now) c.worked-else-fits_frame.ensures
