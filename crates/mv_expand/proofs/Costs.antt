-- What straight code costs, statement by statement.
use Rattle.std.proofs.Common.{arith, ◌≡◌, ℕ, ◌+◌, ◌*◌, List, [], ◌∷◌, ◌++◌, map, ap, ◌∙◌}
use Rattle.mv_ir.specs.declared.tree.Tree.{Tree}
use Rattle.mv_ir.specs.declared.stm.Stm.{Stm}
use Rattle.mv_ir.specs.declared.stm.Stm.TheOpen as stm
use Rattle.mv_ir.specs.Trees.{nodes, nodes_of_all}
use Rattle.mv_ir.specs.Measures.{total, stm_size, stm_trees, trees}
use Rattle.mv_ir.specs.Rolled.{set, divide, return_with}
use Rattle.mv_ir.proofs.Keeping.{map_append}
use Rattle.mv_ir.proofs.Joining.{nodes_append, trees_append, total_append}
use Rattle.mv_ir.proofs.Rolls.{size_roll, trees_roll}
use Rattle.mv_expand.specs.Placed.{straight_cost}

pub cost_append : (xs ys : List Stm) → straight_cost (xs ++ ys) ≡ straight_cost xs + straight_cost ys
cost_append xs ys =
    let a = ap total (map_append stm_size xs ys) ∙ total_append (map stm_size xs) (map stm_size ys) in
    let b = ap nodes_of_all (trees_append xs ys) ∙ nodes_append (trees xs) (trees ys) in
    omega (arith, a, b)

-- a statement and those behind it
pub cost_cons : (s : Stm) (rest : List Stm) → straight_cost (s ∷ rest) ≡ straight_cost (s ∷ []) + straight_cost rest
cost_cons s rest = cost_append (s ∷ []) rest

one_cost : (s : Stm) (n : ℕ) → stm_size s ≡ 1 → nodes_of_all (stm_trees s) ≡ n → straight_cost (s ∷ []) ≡ 8 + 3 * n
one_cost s n size trees =
    let b = nodes_append (stm_trees s) [] in
    omega (arith, size, trees, b)

pub set_cost : (t : ℕ) (v : Tree) → straight_cost (set t v ∷ []) ≡ 8 + 3 * nodes v
set_cost t v = one_cost (set t v) (nodes v) (size_roll (stm.Set t v)) (ap nodes_of_all (trees_roll (stm.Set t v)) ∙ omega arith)

pub divide_cost : (t o : ℕ) (a b : Tree) → straight_cost (divide t o a b ∷ []) ≡ 8 + 3 * (nodes a + nodes b)
divide_cost t o a b = one_cost (divide t o a b) (nodes a + nodes b) (size_roll (stm.Divide t o a b)) (ap nodes_of_all (trees_roll (stm.Divide t o a b)) ∙ omega arith)

pub return_cost : (v : Tree) → straight_cost (return_with v ∷ []) ≡ 8 + 3 * nodes v
return_cost v = one_cost (return_with v) (nodes v) (size_roll (stm.Return v)) (ap nodes_of_all (trees_roll (stm.Return v)) ∙ omega arith)
