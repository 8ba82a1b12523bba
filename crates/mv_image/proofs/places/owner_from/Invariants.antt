use Rattle.std.proofs.Common.{◌≤◌, ◌-◌}
use Rattle.mv_image.specs.Counts.{count_of}
use Rattle.mv_image.specs.Cursors.{HasReached}
use Rattle.mv_image.proofs.places.owner_from.Given as goal

abbrev pub invariant-loop-at : goal.invariant-loop-at
invariant-loop-at l = record { reached : HasReached (count_of l.counts l.words) l.n l.thing l.at; forward : l.fn.from.owner ≤ l.at.owner }

abbrev pub decreases-loop-at : goal.decreases-loop-at
decreases-loop-at l = l.n - l.at.owner
