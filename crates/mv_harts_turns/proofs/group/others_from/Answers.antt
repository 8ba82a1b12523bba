use Rattle.std.proofs.Common.{◌+◌, sym, subst}
use Rattle.mv_harts_turns.specs.Groups.{AreFirst}
use Rattle.mv_harts_turns.proofs.Starting.{first_none, first_more, first_seat}
use Rattle.mv_harts_turns.proofs.group.others_from.Goals as goal

pub loop-before-init : goal.loop-before-init
loop-before-init c = λ bytes. first_none c.args.image.now bytes c.new-others.result.items c.new-others.ensures.items

pub loop-before-preserved : goal.loop-before-preserved
loop-before-preserved c = λ bytes.
    let image = c.args.image.now in
    let n = c.loop-before.before + 1 in
    subst (λ l. AreFirst image bytes n l) (sym c.in_ok-push.ensures.items)
    (first_more image bytes c.loop-before.before c.loop-before.others.items c.in_ok-seat.seat (c.loop-before.invariant bytes) (first_seat image n (bytes n) c.in_ok-seat.seat (c.in_ok-seat.ensures.sits (bytes n)) c.in_ok-seat.ensures.taken))
