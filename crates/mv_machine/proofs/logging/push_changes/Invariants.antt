use Rattle.std.proofs.Common.{◌≡◌, List, ◌++◌}
use Rattle.mv_bindings.specs.declared.binding.Event.{Event}
use Rattle.mv_machine.proofs.Telling.{IsTold}
use Rattle.mv_machine.proofs.logging.push_changes.Given as goal

abbrev pub invariant-loop-place : goal.invariant-loop-place
invariant-loop-place l = record {
  sofar : List Event;
  pushed : l.events ≡ l.fn.events ++ sofar;
  told : IsTold l.old l.new l.place sofar;
}
