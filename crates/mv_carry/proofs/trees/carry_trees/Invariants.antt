use Rattle.std.proofs.Common.{◌≡◌, take, map}
use Rattle.mv_carry.specs.Facts.{known}
use Rattle.mv_carry.specs.Carrying.{carried_tree}
use Rattle.mv_carry.proofs.trees.carry_trees.Given as goal

abbrev pub invariant-loop-tree : goal.invariant-loop-tree
invariant-loop-tree l = l.carried ≡ map (carried_tree (known l.reach)) (take l.tree-index l.trees)
