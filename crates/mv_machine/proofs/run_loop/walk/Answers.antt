use Rattle.std.proofs.Common.{◌≡◌, ◌-◌, ◌+◌, [], ◌++◌, refl, sym, ap, ◌∙◌, arith, ℕ, None, append-nil}
use Rattle.mv_bindings.specs.Bindings.{events_from}
use Rattle.mv_image.specs.Spelling.{Fields}
use Rattle.mv_io.specs.Outside.{Rose}
use Rattle.mv_probe.proofs.Logs.{told_nothing, told_then, patient_after}
use Rattle.mv_machine.specs.Departures.{floor}
use Rattle.mv_machine.specs.Moves.{seen, noted}
use Rattle.mv_patch.specs.Orders.{binding_count}
use Rattle.mv_machine.proofs.Logged.{Also, turns_logged, adds_none, adds_more, comes_to, has_count, added}
use Rattle.mv_machine.proofs.Walks.{goes_none, goes_more, goes_at, goes_on, goes_placed, stepped, notes_settled, nothing_noted, turns_by, turns_since}
use Rattle.mv_machine.proofs.run_loop.walk.Goals as goal
use Rattle.mv_io.proofs.Common.{count_since, rose_later}

pub loop-left-init : goal.loop-left-init
loop-left-init g c = record {
  few = omega arith;
  events = [];
  adds = adds_none c.args.log.now;
  come = c.requires.come;
  goes = goes_at _ _ _ _ _ _ _ 0 (c.args.steps - c.args.steps) (omega arith) (goes_none c.args.places _ _ _ (told_nothing _ _ c.args.probes.now.items c.requires.patient, refl));
  image = refl;
  number = refl;
  quiet = λ none no_pointers. refl;
  input = omega arith;
  output = omega arith;
  reading = refl;
  writing = refl;
}

pub settle-stopped-requires : goal.settle-stopped-requires
settle-stopped-requires g c = let i = c.loop-left.invariant in patient_after _ _ i.goes.3.1 c.args.probes.now.items c.loop-left.probes.items i.goes.3.3.0

pub note_bindings-requires : goal.note_bindings-requires
note_bindings-requires g c =
    let i = c.loop-left.invariant in
    has_count _ _ _ i.come (c.loop-left.engine.ready.count ∙ ap binding_count (sym c.settle-stopped.ensures.image))

pub loop-left-preserved : goal.loop-left-preserved
loop-left-preserved g c =
    let i = c.loop-left.invariant in
    let l = c.loop-left in
    let n = c.settle-stopped.new in
    let few = i.few in
    let some = c.loop-left-test.true in
    let x = seen c.args.engine.now c.args.operator.now (g.I.Source.left c.args.source.now) (g.O.Sink.written c.args.sink.now) in
    let z = seen n.engine n.operator (g.I.Source.left n.source) (g.O.Sink.written n.sink) in
    let A = Rose (g.I.Source.faults l.source) (g.I.Source.faults n.source) in
    let B = Rose (g.O.Sink.faults l.sink) (g.O.Sink.faults n.sink) in
    let s = c.take_stride-stepped.ensures in
    let last = record l.engine { hart = s.1; memory = s.2 } in
    let y = seen last l.operator (g.I.Source.left l.source) (g.O.Sink.written l.sink) in
    let count = s.5 in
    let more = events_from 0 l.engine.bindings n.engine.bindings in
    let quiet = told_nothing _ _ l.probes.items (patient_after _ _ i.goes.3.1 c.args.probes.now.items l.probes.items i.goes.3.3.0) in
    let at : c.floor_of-floor.result ≡ floor l.engine.image = c.floor_of-floor.ensures ∙ ap floor (sym i.image) in
    let goes = goes_on c.args.places (c.args.steps - l.left) x l.engine l.operator (g.I.Source.left l.source) (g.O.Sink.written l.sink) _ _ l.place c.floor_of-floor.result at (Also _ [] i.events) (Also _ i.events i.events)
    (λ xs ys before behind. (
      told_then _ _ xs ys c.args.probes.now.items l.probes.items l.probes.items before.0 behind.0,
      added [] i.events xs ys i.events before.1 behind.1,
    )) (quiet, sym (append-nil i.events)) i.goes s.0 s.1 s.2 s.3 s.4 s.6 in
    let turn = turns_logged None y z _ _ A B _ i.events
    (turns_by last l.operator (g.I.Source.left l.source) (g.O.Sink.written l.sink) None z c.take_stride-stepped.new.hart c.take_stride-stepped.new.memory _ _ A B _ c.take_stride-stepped.result.stepped s.7 c.in_default.ensures.moves) in
    let note = notes_settled c.args.places c.take_stride-stepped.result.stepped last l.operator (g.I.Source.left l.source)
    (g.O.Sink.written l.sink) z c.take_stride-stepped.new.hart c.take_stride-stepped.new.memory _ _ s.4 c.take_stride-stepped.new.place A B _
    s.7 c.in_default.ensures.moves (s.8 ∙ ap (λ (floor : ℕ). noted c.args.places c.take_stride-stepped.result.stepped floor s.1.pc c.take_stride-stepped.new.hart.pc s.4) at) in
    record {
      few = omega (arith, few, count);
      events = i.events ++ more;
      adds = adds_more i.events l.engine.bindings n.engine.bindings _ _ _ i.adds i.come c.note_bindings.ensures;
      come = comes_to n.engine.bindings _ _ c.note_bindings.ensures;
      goes = goes_at _ _ _ _ _ _ _ (c.args.steps - l.left + s.0 + 1) (c.args.steps - c.take_stride-stepped.result.left) (omega (arith, few, some, count))
          (goes_more c.args.places s.4 c.take_stride-stepped.new.place (c.args.steps - l.left + s.0) x y z _ _ _ A B (Also _ [] i.events) (Also _ i.events (i.events ++ more)) (Also _ [] (i.events ++ more))
          (λ xs ys before behind. (told_then _ _ xs ys c.args.probes.now.items l.probes.items n.probes.items before.0 behind.0, added [] i.events xs ys (i.events ++ more) before.1 behind.1)) goes turn note);
      image = c.in_default.ensures.image ∙ i.image;
      number = c.in_default.ensures.number ∙ i.number;
      quiet = λ none no_pointers. c.in_default.ensures.quiet (ap (λ (f : Fields). f.functions) i.image ∙ none) (ap (λ (f : Fields). f.pointers) i.image ∙ no_pointers) ∙ i.quiet none no_pointers;
      input = omega (arith, i.input, c.in_default.ensures.input);
      output = omega (arith, i.output, c.in_default.ensures.output);
      reading = c.in_default.ensures.reading ∙ i.reading;
      writing = c.in_default.ensures.writing ∙ i.writing;
    }

pub returns-in-Some-clause-walked : goal.returns-in-Some-clause-walked
returns-in-Some-clause-walked g c =
    let i = c.loop-left.invariant in
    let l = c.loop-left in
    let n = c.settle-stopped.new in
    let few = i.few in
    let some = c.loop-left-test.true in
    let x = seen c.args.engine.now c.args.operator.now (g.I.Source.left c.args.source.now) (g.O.Sink.written c.args.sink.now) in
    let z = seen n.engine n.operator (g.I.Source.left n.source) (g.O.Sink.written n.sink) in
    let A = Rose (g.I.Source.faults l.source) (g.I.Source.faults n.source) in
    let B = Rose (g.O.Sink.faults l.sink) (g.O.Sink.faults n.sink) in
    let s = c.take_stride-stepped.ensures in
    let last = record l.engine { hart = s.1; memory = s.2 } in
    let y = seen last l.operator (g.I.Source.left l.source) (g.O.Sink.written l.sink) in
    let count = s.5 in
    let more = events_from 0 l.engine.bindings n.engine.bindings in
    let quiet = told_nothing _ _ l.probes.items (patient_after _ _ i.goes.3.1 c.args.probes.now.items l.probes.items i.goes.3.3.0) in
    let at : c.floor_of-floor.result ≡ floor l.engine.image = c.floor_of-floor.ensures ∙ ap floor (sym i.image) in
    let goes = goes_on c.args.places (c.args.steps - l.left) x l.engine l.operator (g.I.Source.left l.source) (g.O.Sink.written l.sink) _ _ l.place c.floor_of-floor.result at (Also _ [] i.events) (Also _ i.events i.events)
    (λ xs ys before behind. (
      told_then _ _ xs ys c.args.probes.now.items l.probes.items l.probes.items before.0 behind.0,
      added [] i.events xs ys i.events before.1 behind.1,
    )) (quiet, sym (append-nil i.events)) i.goes s.0 s.1 s.2 s.3 s.4 s.6 in
    let turn = turns_logged _ y z _ _ A B _ i.events
    (turns_by last l.operator (g.I.Source.left l.source) (g.O.Sink.written l.sink) _ z c.take_stride-stepped.new.hart c.take_stride-stepped.new.memory _ _ A B _ c.take_stride-stepped.result.stepped s.7 c.in-Some.ensures.moves) in (
      i.events ++ more,
      adds_more i.events l.engine.bindings n.engine.bindings _ _ _ i.adds i.come c.note_bindings.ensures,
      (
        c.args.steps - l.left + s.0,
        y,
        (l.probes.items, i.events),
        _,
        omega (arith, few, some, count),
        omega (arith, few, some, count),
        goes_placed _ _ _ _ _ _ _ _ _ (sym (s.8
            ∙ nothing_noted c.args.places c.take_stride-stepped.result.stepped c.in-Some.stopped
            (stepped y c.take_stride-stepped.new.hart c.take_stride-stepped.new.memory) z _ _ _ s.4 A B _ c.in-Some.ensures.moves)) goes,
        turns_since _ y _ _ _ A B _ _ _ (rose_later _ _ _ i.input) (rose_later _ _ _ i.output) turn,
      ),
    )

pub returns-in-Some-clause-reading : goal.returns-in-Some-clause-reading
returns-in-Some-clause-reading g c = count_since _ _ _ _ c.loop-left.invariant.reading c.in-Some.ensures.reading

pub returns-in-Some-clause-writing : goal.returns-in-Some-clause-writing
returns-in-Some-clause-writing g c = count_since _ _ _ _ c.loop-left.invariant.writing c.in-Some.ensures.writing

pub returns-clause-walked : goal.returns-clause-walked
returns-clause-walked g c =
    let i = c.loop-left.invariant in
    let none = c.loop-left-test.false in
    (i.events, i.adds, (refl, goes_at _ _ _ _ _ _ _ (c.args.steps - c.loop-left.left) c.args.steps (omega (arith, none, i.few)) i.goes))
