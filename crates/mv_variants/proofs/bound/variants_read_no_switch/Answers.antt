use Rattle.mv_variants.proofs.OfBound.OwnReads.{read_no_switch}
use Rattle.mv_variants.proofs.bound.variants_read_no_switch.Goals as goal

pub returns : goal.returns
returns c = read_no_switch
