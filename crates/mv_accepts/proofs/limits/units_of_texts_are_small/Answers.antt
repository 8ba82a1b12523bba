use Rattle.mv_accepts.proofs.OfLimits.Texts.{units_small}
use Rattle.mv_accepts.proofs.limits.units_of_texts_are_small.Goals as goal

pub returns : goal.returns
returns c = units_small
