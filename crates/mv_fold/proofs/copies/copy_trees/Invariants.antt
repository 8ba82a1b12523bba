use Rattle.std.proofs.Common.{◌≡◌, take}
use Rattle.mv_fold.proofs.copies.copy_trees.Given as goal

abbrev pub invariant-loop-tree : goal.invariant-loop-tree
invariant-loop-tree l = l.copy ≡ take l.tree-index l.trees
