use Rattle.std.proofs.Common.{refl}
use Rattle.mv_io.specs.Outside.{Rose}
use Rattle.mv_machine.specs.Moves.{seen}
use Rattle.mv_machine.proofs.Walks.{turns_by}
use Rattle.mv_machine.proofs.run_loop.turn.Goals as goal

pub returns-clause-turns : goal.returns-clause-turns
returns-clause-turns g c =
    let n = c.settle.new in
    let z = seen n.engine n.operator (g.I.Source.left n.source) (g.O.Sink.written n.sink) in
    let A = Rose (g.I.Source.faults c.args.source.now) (g.I.Source.faults n.source) in
    let B = Rose (g.O.Sink.faults c.args.sink.now) (g.O.Sink.faults n.sink) in
    turns_by c.args.engine.now c.args.operator.now (g.I.Source.left c.args.source.now)
    (g.O.Sink.written c.args.sink.now) c.settle.result z c.step-stepped.new.hart c.step-stepped.new.memory _ _ A B _ c.step-stepped.result
    c.step-stepped.ensures c.settle.ensures.moves

pub returns-clause-opened : goal.returns-clause-opened
returns-clause-opened g c = c.settle.ensures.opened refl
