use Rattle.std.proofs.Common.{◌≡◌, ◌++◌, drop}
use Rattle.mv_bindings.specs.Bindings.{events_from}
use Rattle.mv_interpret.proofs.commits.push_events.Given as goal

abbrev pub invariant-loop-i : goal.invariant-loop-i
invariant-loop-i l = l.log ++ events_from l.i (drop l.i l.old) (drop l.i l.new) ≡ l.fn.log ++ events_from 0 l.old l.new
