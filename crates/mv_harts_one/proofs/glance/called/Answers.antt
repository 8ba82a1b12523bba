use Rattle.std.proofs.Common.{false, sym, ap₂, ◌∙◌}
use Rattle.mv_patch.specs.Orders.{is_known_order}
use Rattle.mv_harts_one.proofs.Words.{stands_at_poll, stands_at_order, at_no_order, at_no_call}
use Rattle.mv_harts_one.proofs.glance.called.Goals as goal
use Rattle.mv_harts_one.proofs.glance.called.Goals.{else-number-eq-PLAN-via-then-number-eq-PLAN+else-is_known, else-number-eq-PLAN-via-else-number-eq-PLAN}

pub returns-then-number-eq-POLL : goal.returns-then-number-eq-POLL
returns-then-number-eq-POLL c = stands_at_poll c.number-number.result _ _ false c.number-number.ensures c.live_frames.result _ c.if-number-eq-POLL.true c.if-live_frames-ne0.false c.live_frames.ensures

pub returns-then-is_known : goal.returns-then-is_known
returns-then-is_known c =
    stands_at_order c.number-number.result _ _ false c.number-number.ensures c.live_frames.result _ c.if-number-eq-PLAN.true
    (ap₂ (λ a b. is_known_order c.args.engine.now.image a b) (sym c.argument.ensures) (sym c.index.ensures) ∙ sym c.is_known.ensures ∙ c.if-is_known.true) c.if-live_frames-ne0.false c.live_frames.ensures

pub returns : goal.returns
returns c =
    elim c.else-number-eq-PLAN.branch [
      | else-number-eq-PLAN-via-then-number-eq-PLAN+else-is_known w ↦
          at_no_order c.number-number.result _ _ _ c.number-number.ensures w.if-number-eq-PLAN.true
          (ap₂ (λ a b. is_known_order c.args.engine.now.image a b) (sym w.argument.ensures) (sym w.index.ensures) ∙ sym w.is_known.ensures ∙ w.if-is_known.false)
      | else-number-eq-PLAN-via-else-number-eq-PLAN w ↦ at_no_call c.number-number.result _ _ _ c.number-number.ensures w.if-number-eq-PLAN.false c.if-number-eq-POLL.false
    ]
