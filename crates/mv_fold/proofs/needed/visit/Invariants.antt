use Rattle.std.proofs.Common.{take}
use Rattle.mv_fold.specs.Reaching.{IsVisited}
use Rattle.mv_fold.proofs.needed.visit.Given as goal

abbrev pub invariant-loop-read : goal.invariant-loop-read
invariant-loop-read l = IsVisited (take l.read-index l.row) l.initial.flags l.initial.order.items l.flags l.order.items
