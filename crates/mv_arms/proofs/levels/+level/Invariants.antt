use Rattle.std.proofs.Common.{length}
use Rattle.mv_arms.proofs.levels.+level.Given as goal

abbrev pub decreases-level : goal.decreases-level
decreases-level l = length l.levels.now
