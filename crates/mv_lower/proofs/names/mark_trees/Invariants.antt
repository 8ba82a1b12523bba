use Rattle.std.proofs.Common.{◌≡◌, take}
use Rattle.mv_lower.specs.Naming.{seen_marks, marked, trees_names}
use Rattle.mv_lower.proofs.names.mark_trees.Given as goal

abbrev pub invariant-loop-tree : goal.invariant-loop-tree
invariant-loop-tree l = seen_marks l.marks ≡ marked (trees_names (take l.tree-index l.trees)) (seen_marks l.initial.marks)
