use Rattle.std.proofs.Common.{◌≡◌, List, []}
use Rattle.mv_bindings.specs.declared.binding.Event.{Event}
use Rattle.mv_probe.specs.Hearing.{hearing, object_at, Becomes}
use Rattle.mv_probe.specs.Fates.{Fates}
use Rattle.mv_machine.proofs.Telling.{IsTold}
use Rattle.mv_machine.proofs.plans.tell_changes.Given as goal

abbrev pub invariant-loop-place : goal.invariant-loop-place
invariant-loop-place g l =
    (sofar : List Event) × (l.new ≡ [] → l.probes ≡ l.fn.probes) × IsTold l.old l.new l.place sofar
    × Fates (Becomes (λ probe. object_at probe.ptr probe.vtable)
    (λ probe. hearing ((goal.Probe-dyn g (probe.vtable, probe.value)).told probe.value)
    ((goal.Probe-dyn g (probe.vtable, probe.value)).patience probe.value)) sofar) l.fn.probes.items l.probes.items
