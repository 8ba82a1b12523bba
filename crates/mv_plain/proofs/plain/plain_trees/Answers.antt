use Rattle.mv_plain.proofs.PlainCode.{trees_begin, trees_next}
use Rattle.mv_plain.proofs.plain.plain_trees.Goals as goal

pub loop-tree-init : goal.loop-tree-init
loop-tree-init c = trees_begin c.args.trees.now c.new-plain.result c.new-plain.ensures

pub loop-tree-preserved : goal.loop-tree-preserved
loop-tree-preserved c =
    trees_next c.args.trees.now c.as_slice-tree-items.result.now c.loop-tree.plain c.push.new.self c.loop-tree.tree-index c.tree-item.result
    c.in_ok-plain_tree.field-0 c.as_slice-tree-items.ensures c.loop-tree-test.true c.tree-item.is c.loop-tree.invariant c.in_ok-plain_tree.ensures
    c.in_ok-push.ensures.ok
