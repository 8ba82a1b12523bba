-- A short body in place of a call. Its temporaries stand behind those of the caller, from `base` on; in place of a parameter that it never sets its argument
-- may stand itself.
use Rattle.std.specs.Prelude.{ℕ, suc, ◌≡◌, ◌+◌, ◌*◌, ◌<◌, ◌≤◌, Bool, true, false, cond, eqb, List, [], ◌∷◌, ◌++◌, map, length, slice_index_or, Option, Some, None}
use Rattle.mv_ast.specs.Names.{any_of}
use Rattle.mv_ir.specs.declared.tree.Tree.{Tree}
use Rattle.mv_ir.specs.declared.tree.Tree.TheOpen.{Tree-F}
use Rattle.mv_ir.specs.declared.tree.Tree.TheOpen as tree
use Rattle.mv_ir.specs.declared.tree.Tree.TheViews.{roll-Tree}
use Rattle.mv_ir.specs.declared.tree.Tree.TheFolds.{fold-Tree}
use Rattle.mv_ir.specs.declared.stm.Stm.{Stm}
use Rattle.mv_ir.specs.declared.stm.Stm.TheOpen.{Stm-F}
use Rattle.mv_ir.specs.declared.stm.Stm.TheOpen as stm
use Rattle.mv_ir.specs.declared.stm.Stm.TheFolds.{fold-Stm}
use Rattle.mv_ir.specs.declared.body.Body.{Body}
use Rattle.mv_ir.specs.Trees.{nodes_of_all}
use Rattle.mv_ir.specs.Measures.{joined, statements, tree_nodes, deepest}
use Rattle.mv_ir.specs.Rolled.{number, temp, set, divide}

-- ---- what code sets

abbrev pub layer_sets : {A : Type 0} → ℕ → Stm-F A → Bool
layer_sets t (stm.Set u v) = eqb u t
layer_sets t (stm.Divide u o a b) = eqb u t
layer_sets t _ = false

unfoldable pub stm_sets : ℕ → Stm → Bool
stm_sets t = fold-Stm Bool (layer_sets t)

-- whether one of some statements sets a temporary or divides into it
abbrev pub sets_temp : ℕ → List Stm → Bool
sets_temp t code = any_of (map (stm_sets t) code)

-- ---- the statements of the body

module _ (base : ℕ) (keeps : ℕ → Bool) (args : List Tree) where
  -- what stands for a temporary of the body
  abbrev pub stand_in : ℕ → Tree
  stand_in t = cond (keeps t) (slice_index_or args t (number 0)) (temp (base + t))

  abbrev pub placed_node : Tree-F Tree → Tree
  placed_node (tree.Temp t) = stand_in t
  placed_node x = roll-Tree x

  unfoldable pub placed_tree : Tree → Tree
  placed_tree = fold-Tree Tree placed_node

  -- arguments, from one on, into the temporaries that stand for the parameters
  abbrev pub given_from : ℕ → List Tree → List Stm
  given_from i [] = []
  given_from i (a ∷ rest) = cond (keeps i) [] (set (base + i) a ∷ []) ++ given_from (suc i) rest

  -- the value that is returned goes to where the result of the call does
  abbrev pub result_into : Option ℕ → Tree → List Stm
  result_into None v = []
  result_into (Some r) v = set r (placed_tree v) ∷ []

  abbrev pub placed_layer : {A : Type 0} → Option ℕ → Stm-F A → List Stm
  placed_layer r (stm.Set t v) = set (base + t) (placed_tree v) ∷ []
  placed_layer r (stm.Divide t o a b) = divide (base + t) o (placed_tree a) (placed_tree b) ∷ []
  placed_layer r (stm.Return v) = result_into r v
  placed_layer r _ = []

  unfoldable pub placed_stm : Option ℕ → Stm → List Stm
  placed_stm r = fold-Stm (List Stm) (placed_layer r)

  abbrev pub placed_code : Option ℕ → List Stm → List Stm
  placed_code r code = joined (map (placed_stm r) code)

  -- the arguments, and then the body
  abbrev pub steps : Option ℕ → List Stm → List Stm
  steps r code = given_from 0 args ++ placed_code r code

-- what straight code costs
abbrev pub straight_cost : List Stm → ℕ
straight_cost code = 8 * statements code + 3 * tree_nodes code

-- Statements that stand in place of a call: a body's, with its arguments, where they cost no more than the call does with what is left of it, and no tree is
-- deeper than code can be selected for.
pub record IsPlaced (base : ℕ) (r : Option ℕ) (args : List Tree) (b : Body) (placed : List Stm) : Type 0 where
  pub keeps : ℕ → Bool
  pub kept : (t : ℕ) → keeps t ≡ true → (t < b.params) × (sets_temp t b.code ≡ false)
  pub count : length args ≡ b.params
  pub is : placed ≡ steps base keeps args r b.code
  pub cost : 8 + straight_cost placed ≤ 60 + 3 * nodes_of_all args + straight_cost b.code
  pub shallow : deepest placed ≤ 4
