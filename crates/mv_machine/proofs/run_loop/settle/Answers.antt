use Rattle.mv_probe.proofs.Logs.{told_nothing}
use Rattle.mv_machine.specs.Moves.{seen}
use Rattle.mv_machine.proofs.Walks.{settles_next, settles_fault, settles_memory}
use Rattle.mv_machine.proofs.Opening.{stays_closed}
use Rattle.mv_machine.proofs.run_loop.settle.Goals as goal

pub returns-in-Next-clause-moves : goal.returns-in-Next-clause-moves
returns-in-Next-clause-moves g c =
    let x = seen c.args.engine.now c.args.operator.now (g.I.Source.left c.args.source.now) (g.O.Sink.written c.args.sink.now) in
    settles_next c.args.stepped x _ _ _ c.in-Next.is (told_nothing _ _ c.args.probes.now.items c.requires)

pub returns-in-Fault-clause-moves : goal.returns-in-Fault-clause-moves
returns-in-Fault-clause-moves g c =
    let x = seen c.args.engine.now c.args.operator.now (g.I.Source.left c.args.source.now) (g.O.Sink.written c.args.sink.now) in
    settles_fault c.args.stepped c.in-Fault.cause x _ _ _ c.in-Fault.is (told_nothing _ _ c.args.probes.now.items c.requires)

pub returns-in-Memory-clause-moves : goal.returns-in-Memory-clause-moves
returns-in-Memory-clause-moves g c =
    let x = seen c.args.engine.now c.args.operator.now (g.I.Source.left c.args.source.now) (g.O.Sink.written c.args.sink.now) in
    settles_memory c.args.stepped x _ _ _ c.in-Memory.is (told_nothing _ _ c.args.probes.now.items c.requires)

pub returns-in-Next-clause-opened : goal.returns-in-Next-clause-opened
returns-in-Next-clause-opened g c = stays_closed c.args.engine.now.image c.args.engine.now.bindings c.args.engine.now.opened

pub returns-in-Fault-clause-opened : goal.returns-in-Fault-clause-opened
returns-in-Fault-clause-opened g c = stays_closed c.args.engine.now.image c.args.engine.now.bindings c.args.engine.now.opened

pub returns-in-Memory-clause-opened : goal.returns-in-Memory-clause-opened
returns-in-Memory-clause-opened g c = stays_closed c.args.engine.now.image c.args.engine.now.bindings c.args.engine.now.opened
