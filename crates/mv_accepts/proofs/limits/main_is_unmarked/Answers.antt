use Rattle.mv_accepts.proofs.OfLimits.Marked.{main_unmarked}
use Rattle.mv_accepts.proofs.limits.main_is_unmarked.Goals as goal

pub returns : goal.returns
returns c = main_unmarked
