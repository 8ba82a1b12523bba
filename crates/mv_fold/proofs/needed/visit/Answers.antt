use Rattle.std.proofs.Common.{arith, ◌≡◌, ◌+◌, ◌++◌, ◌∷◌, [], ◌∙◌, ap, sym, subst, take, get_or, set, true}
use Rattle.mv_fold.specs.Reaching.{IsVisited}
use Rattle.mv_fold.proofs.Reached.{visited_again, visited_now}
use Rattle.mv_fold.proofs.needed.visit.Goals as goal
use Rattle.mv_fold.proofs.needed.visit.Goals.{then-not-flags-place+in_ok-push, else-not-flags-place}

pub loop-read-preserved : goal.loop-read-preserved
loop-read-preserved c =
    let i = c.loop-read.read-index in
    let x = get_or c.args.row.now i 0 in
    let read = take (i + 1) c.args.row.now in
    let flags = c.loop-read.flags in
    let order = c.loop-read.order.items in
    elim c.if-not-flags-place.branch [
      | then-not-flags-place+in_ok-push w ↦
          let e : c.if-not-flags-place.order.items ≡ order ++ x ∷ [] = ap (λ v. v.items) w.order-is ∙ w.in_ok-push.ensures.items in
          subst (λ fl. IsVisited read c.args.flags.now c.args.order.now.items fl c.if-not-flags-place.order.items) (sym w.flags-is)
          (subst (λ o. IsVisited read c.args.flags.now c.args.order.now.items (set flags x true) o) (sym e)
          (visited_now c.args.row.now i 0 c.loop-read-test.true c.args.flags.now c.args.order.now.items flags order c.loop-read.invariant
          (omega (arith, c.requires.fits i 0 c.loop-read-test.true, c.loop-read.auto.flags)) w.if-not-flags-place.true))
      | else-not-flags-place w ↦
          subst (λ fl. IsVisited read c.args.flags.now c.args.order.now.items fl c.if-not-flags-place.order.items) (sym w.flags-is)
          (subst (λ v. IsVisited read c.args.flags.now c.args.order.now.items flags v.items) (sym w.order-is)
          (visited_again c.args.row.now i 0 c.loop-read-test.true c.args.flags.now c.args.order.now.items flags order c.loop-read.invariant w.if-not-flags-place.false))
    ]
