use Rattle.std.proofs.Common.{length}
use Rattle.mv_arms.proofs.plan.+passed.Given as goal

abbrev pub decreases-passed : goal.decreases-passed
decreases-passed l = length l.places.now
