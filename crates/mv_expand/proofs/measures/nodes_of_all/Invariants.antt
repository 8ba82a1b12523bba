use Rattle.std.proofs.Common.{◌≡◌, take}
use Rattle.mv_ir.specs.Trees.{nodes_of_all}
use Rattle.mv_expand.specs.Walking.{capped}
use Rattle.mv_expand.proofs.measures.nodes_of_all.Given as goal

abbrev pub invariant-loop-tree : goal.invariant-loop-tree
invariant-loop-tree l = l.count ≡ capped (nodes_of_all (take l.tree-index l.trees))
