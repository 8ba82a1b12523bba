use Rattle.std.proofs.Common.{◌≡◌, ◌*◌, take}
use Rattle.mv_ir.specs.Trees.{nodes_of_all}
use Rattle.mv_variants.specs.Sizes.{up_to_greatest}
use Rattle.mv_variants.proofs.words.trees_words.Given as goal

abbrev pub invariant-loop-tree : goal.invariant-loop-tree
invariant-loop-tree l = l.words ≡ up_to_greatest (2 * nodes_of_all (take l.tree-index l.trees))
