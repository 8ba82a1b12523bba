use Rattle.mv_fold.specs.Needed.{tree_uses}
use Rattle.std.proofs.Common.{None}
use Rattle.mv_fold.proofs.Growing.{grown}
use Rattle.mv_fold.proofs.uses.add_trees.Goals as goal

pub loop-tree-preserved : goal.loop-tree-preserved
loop-tree-preserved c =
    grown (tree_uses None) c.args.uses.now c.loop-tree.uses c.add_tree.new.uses c.args.trees.now c.as_slice-tree-items.result.now
    c.loop-tree.tree-index c.tree-item.result c.as_slice-tree-items.ensures c.loop-tree-test.true c.tree-item.is c.loop-tree.invariant c.in_ok-add_tree.ensures
