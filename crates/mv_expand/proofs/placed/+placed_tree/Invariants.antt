use Rattle.mv_ir.specs.Trees.{nodes}
use Rattle.mv_expand.proofs.placed.+placed_tree.Given as goal

abbrev pub decreases-placed_tree : goal.decreases-placed_tree
decreases-placed_tree l = nodes l.tree.now
