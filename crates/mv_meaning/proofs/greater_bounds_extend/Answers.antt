use Rattle.mv_meaning.proofs.Bounds.{bound_extends}
use Rattle.mv_meaning.proofs.greater_bounds_extend.Goals as goal

pub returns : goal.returns
returns c = bound_extends
