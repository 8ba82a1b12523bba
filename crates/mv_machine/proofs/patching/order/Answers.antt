use Rattle.std.proofs.Common.{ap₂, refl, sym, ◌∙◌, ◌<◌, subst}
use Rattle.mv_bindings.specs.Bindings.{events_from}
use Rattle.mv_probe.proofs.Logs.{told_nothing}
use Rattle.mv_patch.specs.Orders.{is_known_order}
use Rattle.mv_patch.specs.Plans.{plan_of}
use Rattle.mv_machine.specs.Runs.{Going, carried_out}
use Rattle.mv_machine.specs.Moves.{Does}
use Rattle.mv_machine.proofs.Orders.{known_below, same_plan, live_refuses, other_refuses, unknown_order, refused_order, carried_order}
use Rattle.mv_machine.proofs.Opening.{stays_closed, opens_by}
use Rattle.mv_machine.proofs.patching.order.Goals as goal

pub order_of-order-requires : goal.order_of-order-requires
order_of-order-requires g c = known_below c.args.engine.now.image _ _ (sym c.is_known.ensures ∙ c.if-not-is_known.false)

pub returns-then-not-is_known-clause-moves : goal.returns-then-not-is_known-clause-moves
returns-then-not-is_known-clause-moves g c = λ actions left written.
    unknown_order c.args.engine.now c.args.engine.now left written _ actions
    (ap₂ (λ a b. is_known_order c.args.engine.now.image a b) (sym c.argument-code.ensures) (sym c.index-index.ensures) ∙ sym c.is_known.ensures ∙ c.if-not-is_known.true)
    refl (told_nothing _ _ c.args.probes.now.items c.requires)

pub returns-in-Err-clause-moves : goal.returns-in-Err-clause-moves
returns-in-Err-clause-moves g c = λ actions left written.
    refused_order c.args.engine.now c.refuse-in-Err.new.engine left written _ actions
    (ap₂ (λ a b. is_known_order c.args.engine.now.image a b) (sym c.argument-code.ensures) (sym c.index-index.ensures) ∙ sym c.is_known.ensures ∙ c.if-not-is_known.false)
    (live_refuses c.args.engine.now.number _ (subst (λ n. 0 < n) c.live_frames-live.ensures c.in-Err.ensures.some_live)) (told_nothing _ _ c.args.probes.now.items c.requires) (c.refuse-in-Err.ensures.does actions)

pub returns-in-Ok-clause-moves : goal.returns-in-Ok-clause-moves
returns-in-Ok-clause-moves g c = λ actions left written.
    let e = c.args.engine.now in
    let plan = c.plan.new.into.planned in
    let news = events_from 0 e.bindings plan.bound in
    carried_order e c.carry_out.new.engine left written _ actions plan news
    (ap₂ (λ a b. is_known_order e.image a b) (sym c.argument-code.ensures) (sym c.index-index.ensures) ∙ sym c.is_known.ensures ∙ c.if-not-is_known.false)
    c.if-engine-ne0.false (sym c.live_frames-live.ensures ∙ c.in-Ok.ensures.none_live)
    (c.in-Ok.ensures.planned ∙ same_plan e.image e.memory.held e.bindings _ _ c.order_of-order.result c.order_of-order.ensures ∙ ap₂ (λ a b. plan_of e.image e.memory.held e.bindings a b) c.argument-code.ensures c.index-index.ensures)
    c.carry_out.ensures.told
    (subst (λ value. Does (λ s. carried_out s plan value) e actions c.carry_out.new.engine actions Going news) c.answer-value.ensures (c.carry_out.ensures.does actions))

pub returns-then-engine-ne0-clause-moves : goal.returns-then-engine-ne0-clause-moves
returns-then-engine-ne0-clause-moves g c = λ actions left written.
    refused_order c.args.engine.now c.refuse.new.engine left written _ actions
    (ap₂ (λ a b. is_known_order c.args.engine.now.image a b) (sym c.argument-code.ensures) (sym c.index-index.ensures) ∙ sym c.is_known.ensures ∙ c.if-not-is_known.false)
    (other_refuses c.args.engine.now.number _ c.if-engine-ne0.true) (told_nothing _ _ c.args.probes.now.items c.requires) (c.refuse.ensures.does actions)

pub returns-then-not-is_known-clause-opened : goal.returns-then-not-is_known-clause-opened
returns-then-not-is_known-clause-opened g c = stays_closed c.args.engine.now.image c.args.engine.now.bindings c.args.engine.now.opened

pub returns-in-Ok-clause-opened : goal.returns-in-Ok-clause-opened
returns-in-Ok-clause-opened g c = λ closed.
    let e = c.args.engine.now in
    opens_by e.image e.memory.held e.bindings c.carry_out.new.engine.bindings _ _ c.plan.new.into.planned c.carry_out.new.engine.opened
    (c.in-Ok.ensures.planned ∙ same_plan e.image e.memory.held e.bindings _ _ c.order_of-order.result c.order_of-order.ensures)
    c.carry_out.ensures.opened c.carry_out.ensures.bindings
