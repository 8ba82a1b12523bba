use Rattle.mv_harts_meant.proofs.Meant.{all_mean}
use Rattle.mv_harts_meant.proofs.Picks.{picks_same}
use Rattle.mv_harts_meant.proofs.laws.harts_mean.Goals as goal

pub returns-clause-means : goal.returns-clause-means
returns-clause-means c = all_mean c.fitting_law.ensures.fitting c.harts_are_right.ensures

pub returns-clause-picks : goal.returns-clause-picks
returns-clause-picks c = picks_same c.fitting_law.ensures.fitting c.harts_are_right.ensures
