use Rattle.mv_accepts.proofs.OfLimits.Units.{units_small}
use Rattle.mv_accepts.proofs.limits.programs_of_small_units_are_small.Goals as goal

pub returns : goal.returns
returns c = units_small
