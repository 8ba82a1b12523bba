use Rattle.std.proofs.Common.{take}
use Rattle.mv_plain.specs.Plain.{ArePlainer}
use Rattle.mv_plain.proofs.plain.plain_trees.Given as goal

abbrev pub invariant-loop-tree : goal.invariant-loop-tree
invariant-loop-tree l = ArePlainer (take l.tree-index l.trees) l.plain
