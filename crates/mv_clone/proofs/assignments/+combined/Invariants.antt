use Rattle.std.proofs.Common.{length}
use Rattle.mv_clone.proofs.assignments.+combined.Given as goal

abbrev pub decreases-combined : goal.decreases-combined
decreases-combined l = length l.switches.now
