use Rattle.mv_select.specs.Functions.Uses.{value_uses}
use Rattle.mv_select.proofs.OfFunctions.Uses.{grown}
use Rattle.mv_select.proofs.uses.add_values.Goals as goal

pub loop-tree-preserved : goal.loop-tree-preserved
loop-tree-preserved c =
    grown (value_uses c.args.w) c.args.uses.now c.loop-tree.uses c.add_value.new.uses c.args.trees.now c.as_slice-tree-items.result.now
    c.loop-tree.tree-index c.tree-item.result c.as_slice-tree-items.ensures c.loop-tree-test.true c.tree-item.is c.loop-tree.invariant
    c.in_ok-add_value.ensures
