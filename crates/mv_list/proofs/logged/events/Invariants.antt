use Rattle.std.proofs.Common.{◌≡◌, ◌++◌, drop}
use Rattle.mv_list.specs.Events.{events_text}
use Rattle.mv_list.proofs.logged.events.Given as goal

abbrev pub invariant-loop-event : goal.invariant-loop-event
invariant-loop-event l = l.out.items ++ events_text l.image (drop l.event-index l.log) ≡ events_text l.image l.log
