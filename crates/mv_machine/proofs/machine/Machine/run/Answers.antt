use Rattle.std.proofs.Common.{[], refl, sym, ap, ◌∙◌}
use Rattle.mv_io.proofs.Common.{count_kept}
use Rattle.mv_probe.specs.Hearing.{hearing, object_at, Becomes}
use Rattle.mv_probe.specs.Fates.{Fates}
use Rattle.mv_probe.proofs.Logs.{told_then}
use Rattle.mv_machine.specs.Snapshots.{Snapshot}
use Rattle.mv_machine.specs.Moves.{seen, WithEvents}
use Rattle.mv_machine.proofs.Logged.{added, logs_of, none_kept}
use Rattle.mv_machine.proofs.Resumed.{input_count, output_count, ran, unless}
use Rattle.mv_machine.proofs.machine.Machine.run.Goals as goal

pub returns-clause-runs : goal.returns-clause-runs
returns-clause-runs g c =
    let was = c.args.self.now in
    let walk = c.walk-walked in
    let w = walk.ensures.walked in
    let e = walk.new.engine in
    let is : Snapshot = record { image = e.image; regs = e.hart.regs; pc = e.hart.pc; room = e.memory; bindings = e.bindings; last = walk.result.stopped } in
    unless was.last _ (
      w.0,
      logs_of w.0 _ _ _ c.log_from-log.ensures.events w.1 c.events_of.ensures,
      ran was is (seen c.self.inside.engine c.new-operator.result (g.I.Source.left c.args.source.now) (g.O.Sink.written c.args.sink.now)) (seen e walk.new.operator (g.I.Source.left walk.new.source) (g.O.Sink.written walk.new.sink))
          (record {
            hart = c.self.invariant;
            image = sym (ap (λ (m : Snapshot). m.image) c.self.view_is);
            regs = sym (ap (λ (m : Snapshot). m.regs) c.self.view_is);
            pc = sym (ap (λ (m : Snapshot). m.pc) c.self.view_is);
            room = sym (ap (λ (m : Snapshot). m.room) c.self.view_is);
            bindings = sym (ap (λ (m : Snapshot). m.bindings) c.self.view_is);
          })
          (record { hart = walk.ensures.number ∙ c.self.invariant; image = refl; regs = refl; pc = refl; room = refl; bindings = refl })
          (walk.ensures.image ∙ ap (λ (m : Snapshot). m.image) c.self.view_is)
          _ _ _ _
          (WithEvents (λ before now events. Fates
          (Becomes (λ probe. object_at probe.ptr probe.vtable)
          (λ probe. hearing ((goal.Probe-dyn g (probe.vtable, probe.value)).told probe.value)
          ((goal.Probe-dyn g (probe.vtable, probe.value)).patience probe.value)) events) before now))
          (λ k l m xs ys before behind. (told_then _ _ xs ys k.0 l.0 m.0 before.0 behind.0, added k.1 l.1 xs ys m.1 before.1 behind.1))
          (c.args.probes.now.items, []) (walk.new.probes.items, w.0) c.args.places walk.result.place c.args.steps c.executed.result
          c.args.actions.now c.new-operator.ensures walk.result.stopped walk.result.fetched c.unwrap_or.result c.unwrap_or.ensures c.executed.ensures w.2 walk.ensures.place,
    )

pub returns-clause-unwanted : goal.returns-clause-unwanted
returns-clause-unwanted g c unwanted =
    let walked = c.walk-walked.ensures.walked in c.events_of.ensures ∙ none_kept walked.0 _ _ (c.log_from-log.ensures.unwanted unwanted) walked.1

pub returns-clause-reading : goal.returns-clause-reading
returns-clause-reading g c = input_count c.walk-walked.result.stopped c.unwrap_or.result _ _ c.unwrap_or.ensures c.walk-walked.ensures.reading

pub returns-clause-writing : goal.returns-clause-writing
returns-clause-writing g c = output_count c.walk-walked.result.stopped c.unwrap_or.result _ _ c.unwrap_or.ensures c.walk-walked.ensures.writing

pub returns-in-Some-clause-reading : goal.returns-in-Some-clause-reading
returns-in-Some-clause-reading g c = count_kept _ _ _ refl

pub returns-in-Some-clause-writing : goal.returns-in-Some-clause-writing
returns-in-Some-clause-writing g c = count_kept _ _ _ refl
