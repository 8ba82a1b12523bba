-- Lemmas on this crate's words that the crates above share.
use Rattle.std.proofs.Common.{◌≡◌, List, ◌++◌, map, ◌∙◌, ap}
use Rattle.mv_ir.specs.declared.tree.Tree.{Tree}
use Rattle.mv_ir.specs.Measures.{joined}
use Rattle.mv_ir.proofs.Keeping.{map_append}
use Rattle.mv_ir.proofs.Lists.{joined_append}
use Rattle.mv_select.specs.Bodies.SelectedBodies.{tree_constants, constants_of_all}

pub constants_append : (xs ys : List Tree) → constants_of_all (xs ++ ys) ≡ constants_of_all xs ++ constants_of_all ys
constants_append xs ys = ap joined (map_append tree_constants xs ys) ∙ joined_append (map tree_constants xs) (map tree_constants ys)
