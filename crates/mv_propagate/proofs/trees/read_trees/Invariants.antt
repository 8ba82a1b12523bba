use Rattle.std.proofs.Common.{take}
use Rattle.mv_propagate.specs.Propagating.{ReadsAll}
use Rattle.mv_propagate.proofs.trees.read_trees.Given as goal

abbrev pub invariant-loop-tree : goal.invariant-loop-tree
invariant-loop-tree l = ReadsAll l.facts (take l.tree-index l.trees) l.made
