use Rattle.mv_variants.proofs.Tidied.{expanded_ready}
use Rattle.mv_variants.proofs.ready.ready.Goals as goal

pub returns-then-is_no_longer : goal.returns-then-is_no_longer
returns-then-is_no_longer c =
    expanded_ready c.args.shorts.now c.args.body.now c.in_ok-expanded.expanded c.in_ok-made.made c.in_ok-expanded.ensures c.in_ok-made.ensures
    (c.is_no_longer.ensures c.if-is_no_longer.true)
