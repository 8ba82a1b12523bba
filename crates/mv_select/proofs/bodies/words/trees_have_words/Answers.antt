use Rattle.mv_select.proofs.OfBodies.Holding.{words_step, words_end}
use Rattle.mv_select.proofs.bodies.words.trees_have_words.Goals as goal

pub loop-tree-preserved : goal.loop-tree-preserved
loop-tree-preserved c =
    words_step c.args.trees.now c.as_slice-tree-items.result.now c.loop-tree.tree-index c.tree-item.result c.as_slice-tree-items.ensures c.loop-tree-test.true
    c.tree-item.is c.loop-tree.invariant c.tree_has_words.ensures

pub returns : goal.returns
returns c = words_end c.args.trees.now c.as_slice-tree-items.result.now c.loop-tree.tree-index c.as_slice-tree-items.ensures c.loop-tree-test.false c.loop-tree.invariant
