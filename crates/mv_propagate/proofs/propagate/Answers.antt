use Rattle.mv_propagate.proofs.BodyPropagated.{body_is_propagated}
use Rattle.mv_propagate.proofs.propagate.Goals as goal

pub returns : goal.returns
returns c = body_is_propagated c.args.body.now _ _ _ _ _ _ _ c.new-none.ensures c.in_ok-walk.ensures c.in_ok-copied.ensures c.in_ok-copied-2.ensures
    c.in_ok-copied-3.ensures c.in_ok-copied-4.ensures
