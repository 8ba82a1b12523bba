use Rattle.std.proofs.Common.{refl}
use Rattle.mv_propagate.proofs.Staying.{learn}
use Rattle.mv_propagate.proofs.facts.learned.Goals as goal

pub returns : goal.returns
returns c = learn c.args.temp c.args.held c.args.facts.now _ c.in_ok-kept.kept _ _ _ refl c.in_ok-kept.ensures c.in_ok-push.ensures.ok
