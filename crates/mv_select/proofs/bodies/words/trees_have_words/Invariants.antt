use Rattle.std.proofs.Common.{take}
use Rattle.mv_select.specs.Bodies.SelectedBodies.{AreWords, constants_of_all}
use Rattle.mv_select.proofs.bodies.words.trees_have_words.Given as goal

abbrev pub invariant-loop-tree : goal.invariant-loop-tree
invariant-loop-tree l = AreWords (constants_of_all (take l.tree-index l.trees))
