use Rattle.std.proofs.Common.{◌≡◌, ◌++◌, take}
use Rattle.mv_fold.specs.Needed.{trees_uses}
use Rattle.mv_fold.proofs.uses.add_trees.Given as goal

abbrev pub invariant-loop-tree : goal.invariant-loop-tree
invariant-loop-tree l = l.uses ≡ l.initial.uses ++ trees_uses (take l.tree-index l.trees)
