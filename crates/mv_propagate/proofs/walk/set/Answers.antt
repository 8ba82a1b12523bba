use Rattle.mv_propagate.proofs.Walked.{sets_leaf, sets}
use Rattle.mv_propagate.proofs.walk.set.Goals as goal

pub returns-then-is_source : goal.returns-then-is_source
returns-then-is_source c =
    sets_leaf c.args.temps c.args.facts.now c.in_ok-learned.field-0 c.args.temp c.args.value.now c.in_ok-value.value c.tree_of.result c.in-Some.leaf c.in_ok-value.ensures c.in-Some.ensures
    c.tree_of.ensures (c.is_low.ensures c.if-is_low.true) c.in_ok-learned.ensures

pub returns : goal.returns
returns c = sets c.args.temps c.args.facts.now c.in_ok-unwritten.field-0 c.args.temp c.args.value.now c.in_ok-value.value c.in_ok-value.ensures c.in_ok-unwritten.ensures
