use Rattle.std.proofs.Common.{take}
use Rattle.mv_fold.specs.Reaching.{AreRows}
use Rattle.mv_fold.proofs.needed.rows.Given as goal

abbrev pub invariant-loop-read : goal.invariant-loop-read
invariant-loop-read l = AreRows l.count (take l.read-index l.uses) l.rows.items
