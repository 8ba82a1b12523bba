use Rattle.mv_fold.proofs.Reached.{IsSearched}
use Rattle.mv_fold.proofs.needed.needed.Given as goal
use Rattle.std.proofs.Common.{◌-◌}

abbrev pub invariant-loop-next : goal.invariant-loop-next
invariant-loop-next l = IsSearched l.count l.uses l.flags.items l.order.items l.next

abbrev pub decreases-loop-next : goal.decreases-loop-next
decreases-loop-next l = l.count - l.next
