use Rattle.mv_accepts.proofs.OfLimits.Main.{main_typed}
use Rattle.mv_accepts.proofs.limits.main_is_typed.Goals as goal

pub returns : goal.returns
returns c = main_typed
