use Rattle.std.proofs.Common.{◌≡◌, length}
use Rattle.mv_fold.specs.Shortened.{without_idle}
use Rattle.mv_fold.proofs.shortened.without_idle.Given as goal

abbrev pub invariant-loop-stms : goal.invariant-loop-stms
invariant-loop-stms l = without_idle l.stms.items ≡ without_idle l.fn.code

abbrev pub decreases-loop-stms : goal.decreases-loop-stms
decreases-loop-stms l = length l.stms.items
