use Rattle.mv_carry.proofs.BodyCarried.{body_is_carried}
use Rattle.mv_carry.proofs.carry.Goals as goal

pub returns : goal.returns
returns c = body_is_carried c.args.body.now _ _ _ _ _ c.in_ok-copied.ensures c.in_ok-carried.ensures c.in_ok-copied-2.ensures c.in_ok-copied-3.ensures c.in_ok-copied-4.ensures
