use Rattle.std.proofs.Common.{◌≡◌, length}
use Rattle.mv_fold.specs.Shortened.{carried}
use Rattle.mv_fold.proofs.shortened.carried.Given as goal

abbrev pub invariant-loop-alloc : goal.invariant-loop-alloc
invariant-loop-alloc l = carried l.temps l.stms.items ≡ carried l.temps l.fn.code

abbrev pub decreases-loop-alloc : goal.decreases-loop-alloc
decreases-loop-alloc l = length l.stms.items
