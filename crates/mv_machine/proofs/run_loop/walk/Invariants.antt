use Rattle.std.proofs.Common.{◌≡◌, ◌≤◌, ◌-◌, List, []}
use Rattle.mv_bindings.specs.declared.binding.Event.{Event}
use Rattle.mv_probe.specs.Hearing.{hearing, object_at, Becomes}
use Rattle.mv_probe.specs.Fates.{Fates}
use Rattle.mv_machine.specs.Logging.{Adds, HasCome}
use Rattle.mv_machine.specs.Moves.{seen, Goes, WithEvents}
use Rattle.mv_machine.proofs.run_loop.walk.Given as goal

abbrev pub invariant-loop-left : goal.invariant-loop-left
invariant-loop-left g l =
    let was = l.initial.oracle in
    let is = l.oracle in
    record {
      few : l.left ≤ l.steps;
      events : List Event;
      adds : Adds events l.initial.log l.log;
      come : HasCome l.engine.bindings l.log;
      goes : Goes l.places l.place (l.steps - l.left)
          (seen l.initial.engine l.initial.operator (g.I.Source.left l.initial.source) (g.O.Sink.written l.initial.sink))
          (seen l.engine l.operator (g.I.Source.left l.source) (g.O.Sink.written l.sink))
          ((goal.FetchOracle-dyn g (was.vtable, was.value)).way was.value) ((goal.FetchOracle-dyn g (is.vtable, is.value)).way is.value)
          (WithEvents (λ was now events. Fates
          (Becomes (λ probe. object_at probe.ptr probe.vtable)
          (λ probe. hearing ((goal.Probe-dyn g (probe.vtable, probe.value)).told probe.value)
          ((goal.Probe-dyn g (probe.vtable, probe.value)).patience probe.value)) events) was now) (l.initial.probes.items, []) (l.probes.items, events));
      image : l.engine.image ≡ l.initial.engine.image;
      number : l.engine.number ≡ l.initial.engine.number;
      quiet : l.initial.engine.image.functions ≡ [] → l.initial.engine.image.pointers ≡ [] → l.probes ≡ l.initial.probes;
      input : g.I.Source.faults l.initial.source ≤ g.I.Source.faults l.source;
      output : g.O.Sink.faults l.initial.sink ≤ g.O.Sink.faults l.sink;
      reading : g.I.Source.faults l.source ≡ g.I.Source.faults l.initial.source;
      writing : g.O.Sink.faults l.sink ≡ g.O.Sink.faults l.initial.sink;
    }

abbrev pub decreases-loop-left : goal.decreases-loop-left
decreases-loop-left g l = l.left
