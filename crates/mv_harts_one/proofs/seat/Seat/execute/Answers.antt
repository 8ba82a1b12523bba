use Rattle.std.proofs.Common.{◌≡◌, ◌||◌, sym, ap, subst, ◌∙◌}
use Rattle.mv_io.specs.Outside.{CountAfter, Rose}
use Rattle.mv_machine.specs.Moves.{input_failed, output_failed}
use Rattle.mv_harts_one.specs.declared.seat.Seat.{Seat}
use Rattle.mv_harts_one.proofs.Executing.{executes_or_fails, no_want, unread, unwritten, or_true, or_false}
use Rattle.mv_harts_one.proofs.seat.Seat.execute.Goals as goal
use Rattle.mv_harts_one.proofs.seat.Seat.execute.Goals.{then-self, else-self}

pub returns-clause-does : goal.returns-clause-does
returns-clause-does g c = λ number bytes o was sits left one under.
    let e = c.turn-stopped.new.engine in
    let same : c.note.new.self.engine.opened ≡ e.opened = ap (λ (s : Seat). s.engine.opened) c.note.ensures in
    let now : c.if-self.result ≡ (e.opened || c.remains-remains.result) =
    elim c.if-self.branch [ then-self w ↦ or_true _ _ _ (sym same ∙ w.if-self.true) (w.result-is ∙ w.if-self.true) | else-self w ↦ or_false _ _ _ (sym same ∙ w.if-self.false) w.result-is ] in
    executes_or_fails number c.args.self.now o c.args.act bytes was sits c.requires.on one e c.turn-stopped.new.operator (g.O.Sink.written c.args.sink.now) (g.O.Sink.written c.turn-stopped.new.sink) _ c.turn-stopped.ensures.number
    c.turn-stopped.ensures.opened c.args.under c.remains-remains.result c.if-self.result c.turn-stopped.result c.new-operator.result (g.I.Source.left c.args.source.now) (g.I.Source.left c.turn-stopped.new.source) _ _
    (Rose (g.I.Source.faults c.args.source.now) (g.I.Source.faults c.turn-stopped.new.source)) (Rose (g.O.Sink.faults c.args.sink.now) (g.O.Sink.faults c.turn-stopped.new.sink)) c.note.new.self
    c.remains-remains.ensures under now c.new-operator.ensures left c.note.ensures (no_want c.turn-stopped.result (sym c.wants_memory.ensures ∙ c.if-wants_memory.false)) c.turn-stopped.ensures.turns

pub returns-then-wants_memory-clause-reading : goal.returns-then-wants_memory-clause-reading
returns-then-wants_memory-clause-reading g c =
    subst (λ b. CountAfter b (g.I.Source.faults c.args.source.now) (g.I.Source.faults c.turn-stopped.new.source))
    (unread c.turn-stopped.result (sym c.wants_memory.ensures ∙ c.if-wants_memory.true) ∙ sym (ap input_failed c.requires.on)) c.turn-stopped.ensures.reading

pub returns-then-wants_memory-clause-writing : goal.returns-then-wants_memory-clause-writing
returns-then-wants_memory-clause-writing g c =
    subst (λ b. CountAfter b (g.O.Sink.faults c.args.sink.now) (g.O.Sink.faults c.turn-stopped.new.sink))
    (unwritten c.turn-stopped.result (sym c.wants_memory.ensures ∙ c.if-wants_memory.true) ∙ sym (ap output_failed c.requires.on)) c.turn-stopped.ensures.writing

pub returns-clause-reading : goal.returns-clause-reading
returns-clause-reading g c =
    subst (λ (s : Seat). CountAfter (input_failed s.stop) (g.I.Source.faults c.args.source.now) (g.I.Source.faults c.turn-stopped.new.source)) (sym c.note.ensures) c.turn-stopped.ensures.reading

pub returns-clause-writing : goal.returns-clause-writing
returns-clause-writing g c =
    subst (λ (s : Seat). CountAfter (output_failed s.stop) (g.O.Sink.faults c.args.sink.now) (g.O.Sink.faults c.turn-stopped.new.sink)) (sym c.note.ensures) c.turn-stopped.ensures.writing
