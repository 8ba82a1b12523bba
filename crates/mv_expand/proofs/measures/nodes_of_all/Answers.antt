use Rattle.mv_expand.proofs.Counting.{count_more}
use Rattle.mv_expand.proofs.measures.nodes_of_all.Goals as goal

pub loop-tree-preserved : goal.loop-tree-preserved
loop-tree-preserved c =
    count_more c.loop-tree.tree-index c.loop-tree.count c.nodes.result c.saturating_add-count.result c.as_slice-tree-items.result.now c.args.trees.now c.tree-item.result
    c.as_slice-tree-items.ensures c.loop-tree-test.true c.tree-item.is c.loop-tree.invariant c.nodes.ensures c.saturating_add-count.ensures
