use Rattle.std.proofs.Common.{sym, ◌∙◌}
use Rattle.mv_probe.proofs.Logs.{told_nothing}
use Rattle.mv_machine.proofs.Orders.{busy_poll, poll_of_none, poll_of_action}
use Rattle.mv_machine.proofs.patching.poll.Goals as goal

pub returns-then-live-ne0-clause-moves : goal.returns-then-live-ne0-clause-moves
returns-then-live-ne0-clause-moves g c = λ left written.
    busy_poll c.args.engine.now c.refuse.new.engine left written _ c.args.operator.now (λ e. c.if-live-ne0.true (c.live_frames-live.ensures ∙ e))
    (told_nothing _ _ c.args.probes.now.items c.requires) (c.refuse.ensures.does c.args.operator.now)

pub returns-in-None-clause-moves : goal.returns-in-None-clause-moves
returns-in-None-clause-moves g c = λ left written.
    poll_of_none c.args.engine.now c.refuse-in-None.new.engine left written _ c.args.operator.now c.next.new.self
    (sym c.live_frames-live.ensures ∙ c.if-live-ne0.false) c.in-None.ensures (told_nothing _ _ c.args.probes.now.items c.requires) c.refuse-in-None.ensures.does

pub returns-in-Some-clause-moves : goal.returns-in-Some-clause-moves
returns-in-Some-clause-moves g c = λ left written.
    poll_of_action c.args.engine.now c.act.new.engine left written _ c.in-Some.action c.args.operator.now c.next.new.self
    (sym c.live_frames-live.ensures ∙ c.if-live-ne0.false) c.in-Some.ensures (c.act.ensures.moves c.next.new.self left written)
