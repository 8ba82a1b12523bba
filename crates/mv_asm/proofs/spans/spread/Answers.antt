use Rattle.std.proofs.Common.{◌≡◌, ◌<◌, ◌∙◌, length, ap, arith}
use Rattle.std.proofs.lemmas.List.{with_items_is}
use Rattle.std.proofs.lemmas.List.Elements.{All-pop}
use Rattle.mv_asm.proofs.Spread.{spread_more}
use Rattle.mv_asm.proofs.spans.spread.Goals as goal
use Rattle.mv_asm.proofs.spans.spread.Goals.{then-room-eq0+then-sizing-item-eq1+in_ok-narrow_near, else-room-eq0}

pub work-preserved : goal.work-preserved
work-preserved c =
    let popped = All-pop (λ number. number < length c.work.spans.items) c.work.waiting.items c.pop.new.self.items c.pop.result c.pop.ensures.items c.work.invariant.waiting in
    let below : c.in-Some.number < length c.work.spans.items = rw c.in-Some.is at popped.1 in
    elim c.if-room-eq0.branch [
      | then-room-eq0+then-sizing-item-eq1+in_ok-narrow_near w ↦
          let items = with_items_is c.work.spans w.narrow_near.new.spans (w.narrow_near.auto.spans ∙ w.deref_mut.ensures.len) in
          let same : length w.narrow_near.new.spans ≡ length c.work.spans.items = w.narrow_near.auto.spans ∙ ap length w.deref_mut.ensures.value in
          let narrowed = rw w.deref_mut.ensures.value at w.in_ok-narrow_near.ensures.narrowed in
          rw (w.sizing-is, w.spans-is, w.waiting-is, items) (record {
            spread = spread_more _ _ _ _ _ c.in-Some.number c.index.result.now c.work.invariant.spread below c.index.ensures w.if-room-eq0.true w.if-sizing-item-eq1.true same narrowed;
            waiting = λ k d l. omega (arith, w.in_ok-narrow_near.ensures.waiting k d l, w.narrow_near.auto.spans);
          })
      | else-room-eq0 w ↦ rw (w.sizing-is, w.spans-is, w.waiting-is) (record { spread = c.work.invariant.spread; waiting = popped.0 })
    ]
