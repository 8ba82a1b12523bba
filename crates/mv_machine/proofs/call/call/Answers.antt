use Rattle.std.proofs.Common.{refl, sym, ap, ◌∙◌, rules}
use Rattle.mv_io.proofs.Common.{count_kept}
use Rattle.mv_probe.proofs.Logs.{told_nothing}
use Rattle.mv_machine.specs.Runs.{request_of, trap_of}
use Rattle.mv_machine.proofs.Calls.{request_exits, request_reads, request_writes, request_traps, request_plans, request_polls, request_unknown, exits, traps, unknown, reads, writes, same, plans, polls, outcomes_stop}
use Rattle.mv_machine.proofs.Opening.{stays_closed}
use Rattle.mv_machine.proofs.call.call.Goals as goal

pub returns-then-number-eq-EXIT-clause-moves : goal.returns-then-number-eq-EXIT-clause-moves
returns-then-number-eq-EXIT-clause-moves g c =
    exits c.args.engine.now c.args.operator.now _ _ _ (told_nothing _ _ c.args.probes.now.items c.requires) _
    (sym (ap request_of c.number-number.ensures) ∙ request_exits _ c.if-number-eq-EXIT.true) (search rules)

pub returns-in-Ok-clause-moves : goal.returns-in-Ok-clause-moves
returns-in-Ok-clause-moves g c =
    reads c.args.engine.now c.args.operator.now _ _ _ (told_nothing _ _ c.args.probes.now.items c.requires) c.getchar.new.hart _
    (sym (ap request_of c.number-number.ensures) ∙ request_reads _ c.if-number-eq-READ.true) c.in-Ok.ensures.read

pub returns-in-Err-clause-moves : goal.returns-in-Err-clause-moves
returns-in-Err-clause-moves g c = (
  same c.args.engine.now c.args.operator.now _ _ c.getchar.new.hart _ _ c.in-Err.ensures.hart c.in-Err.ensures.left refl,
  (told_nothing _ _ c.args.probes.now.items c.requires),
  sym (ap request_of c.number-number.ensures)
      ∙ request_reads _ c.if-number-eq-READ.true,
  c.in-Err.ensures.rose,
)

pub returns-in-Ok-putchar-clause-moves : goal.returns-in-Ok-putchar-clause-moves
returns-in-Ok-putchar-clause-moves g c =
    writes c.args.engine.now c.args.operator.now _ _ _ (told_nothing _ _ c.args.probes.now.items c.requires) c.putchar.new.hart _
    (sym (ap request_of c.number-number.ensures) ∙ request_writes _ c.if-number-eq-WRITE.true) c.in-Ok-putchar.ensures.written

pub returns-in-Err-putchar-clause-moves : goal.returns-in-Err-putchar-clause-moves
returns-in-Err-putchar-clause-moves g c = (
  same c.args.engine.now c.args.operator.now _ _ c.putchar.new.hart _ _ c.in-Err-putchar.ensures.hart refl c.in-Err-putchar.ensures.kept,
  (told_nothing _ _ c.args.probes.now.items c.requires),
  sym (ap request_of c.number-number.ensures)
      ∙ request_writes _ c.if-number-eq-WRITE.true,
  c.in-Err-putchar.ensures.rose,
)

pub returns-then-number-eq-TRAP-clause-moves : goal.returns-then-number-eq-TRAP-clause-moves
returns-then-number-eq-TRAP-clause-moves g c =
    outcomes_stop _ _ _ _ c.trap.result (trap_of _) c.trap.ensures.stop
    (traps c.args.engine.now c.args.operator.now _ _ _ (told_nothing _ _ c.args.probes.now.items c.requires) _
    (sym (ap request_of c.number-number.ensures) ∙ request_traps _ c.if-number-eq-TRAP.true) refl)

pub returns-then-number-eq-PLAN-clause-moves : goal.returns-then-number-eq-PLAN-clause-moves
returns-then-number-eq-PLAN-clause-moves g c = plans c.args.engine.now c.args.operator.now _ _ _ c.order.result _ _ _ (sym (ap request_of c.number-number.ensures) ∙ request_plans _ c.if-number-eq-PLAN.true) (c.order.ensures.moves _ _ _)

pub returns-then-number-eq-POLL-clause-moves : goal.returns-then-number-eq-POLL-clause-moves
returns-then-number-eq-POLL-clause-moves g c = polls c.args.engine.now c.args.operator.now _ _ _ _ (sym (ap request_of c.number-number.ensures) ∙ request_polls _ c.if-number-eq-POLL.true) (c.poll.ensures.moves _ _)

pub returns-clause-moves : goal.returns-clause-moves
returns-clause-moves g c =
    unknown c.args.engine.now c.args.operator.now _ _ _ (told_nothing _ _ c.args.probes.now.items c.requires)
    (sym (ap request_of c.number-number.ensures)
    ∙ request_unknown _ c.if-number-eq-EXIT.false c.if-number-eq-READ.false c.if-number-eq-WRITE.false c.if-number-eq-TRAP.false
    c.if-number-eq-PLAN.false c.if-number-eq-POLL.false)

pub returns-then-number-eq-EXIT-clause-opened : goal.returns-then-number-eq-EXIT-clause-opened
returns-then-number-eq-EXIT-clause-opened g c = stays_closed c.args.engine.now.image c.args.engine.now.bindings c.args.engine.now.opened

pub returns-in-Ok-clause-opened : goal.returns-in-Ok-clause-opened
returns-in-Ok-clause-opened g c = stays_closed c.args.engine.now.image c.args.engine.now.bindings c.args.engine.now.opened

pub returns-in-Err-clause-opened : goal.returns-in-Err-clause-opened
returns-in-Err-clause-opened g c = stays_closed c.args.engine.now.image c.args.engine.now.bindings c.args.engine.now.opened

pub returns-in-Ok-putchar-clause-opened : goal.returns-in-Ok-putchar-clause-opened
returns-in-Ok-putchar-clause-opened g c = stays_closed c.args.engine.now.image c.args.engine.now.bindings c.args.engine.now.opened

pub returns-in-Err-putchar-clause-opened : goal.returns-in-Err-putchar-clause-opened
returns-in-Err-putchar-clause-opened g c = stays_closed c.args.engine.now.image c.args.engine.now.bindings c.args.engine.now.opened

pub returns-then-number-eq-TRAP-clause-opened : goal.returns-then-number-eq-TRAP-clause-opened
returns-then-number-eq-TRAP-clause-opened g c = stays_closed c.args.engine.now.image c.args.engine.now.bindings c.args.engine.now.opened

pub returns-clause-opened : goal.returns-clause-opened
returns-clause-opened g c = stays_closed c.args.engine.now.image c.args.engine.now.bindings c.args.engine.now.opened

pub returns-then-number-eq-TRAP-clause-reading : goal.returns-then-number-eq-TRAP-clause-reading
returns-then-number-eq-TRAP-clause-reading g c = count_kept _ _ _ refl

pub returns-then-number-eq-TRAP-clause-writing : goal.returns-then-number-eq-TRAP-clause-writing
returns-then-number-eq-TRAP-clause-writing g c = count_kept _ _ _ refl

pub returns-then-number-eq-PLAN-clause-reading : goal.returns-then-number-eq-PLAN-clause-reading
returns-then-number-eq-PLAN-clause-reading g c = count_kept _ _ _ refl

pub returns-then-number-eq-PLAN-clause-writing : goal.returns-then-number-eq-PLAN-clause-writing
returns-then-number-eq-PLAN-clause-writing g c = count_kept _ _ _ refl
