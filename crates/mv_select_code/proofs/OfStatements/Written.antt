-- Trees that are written as numbers.
use Rattle.std.proofs.Common.{◌≡◌, ℕ, List, Option, Some, None, refl, sym, ap, subst}
use Rattle.mv_ir.specs.declared.tree.Tree.{Tree}
use Rattle.mv_ir.specs.declared.tree.Tree.TheOpen.{Tree-F}
use Rattle.mv_ir.specs.declared.tree.Tree.TheOpen as tree
use Rattle.mv_ir.specs.declared.tree.Tree.TheViews.{roll-Tree}
use Rattle.mv_ir.specs.declared.tree.Tree.TheFolds.{map-Tree}
use Rattle.mv_ir.specs.Trees.{Value, tree_value, value}
use Rattle.mv_ir.proofs.Induction.{tree_ind}
use Rattle.mv_ir.proofs.Rolls.{value_roll}
use Rattle.mv_select_code.specs.Trees.TreeCode.{literal_layer, literal}
use Rattle.mv_select_code.proofs.OfTrees.Rolls.{literal_roll}

module _ (numbers : List ℕ) (bound : List (ℕ × ℕ)) (temps : List ℕ) (globals : List (List ℕ)) where
  abbrev IsWritten : Option ℕ → ℕ → Type 0
  IsWritten None w = Unit {0}
  IsWritten (Some n) w = w ≡ n

  layer : (x : Tree-F Tree) → IsWritten (literal_layer (map-Tree Tree (Option ℕ) literal x)) (tree_value numbers bound (map-Tree Tree Value (value numbers bound) x) temps globals)
  layer (tree.Number n) = refl
  layer (tree.Temp t) = tt
  layer (tree.Global g) = tt
  layer (tree.Function f) = tt
  layer (tree.Unary o a) = tt
  layer (tree.Binary o a b) = tt
  layer (tree.Narrow k a) = tt

  abbrev OfTree : Tree → Type 0
  OfTree t = IsWritten (literal t) (value numbers bound t temps globals)

  of_tree : (t : Tree) → OfTree t
  of_tree = tree_ind OfTree
      (λ x h. subst (λ o. IsWritten o (value numbers bound (roll-Tree x) temps globals)) (sym (literal_roll x))
      (subst (IsWritten (literal_layer (map-Tree Tree (Option ℕ) literal x))) (sym (ap (λ (w : Value). w temps globals) (value_roll numbers bound x))) (layer x)))

  -- the value of such a tree is the number
  pub written_value : (t : Tree) (n : ℕ) → literal t ≡ Some n → value numbers bound t temps globals ≡ n
  written_value t n e = subst (λ o. IsWritten o (value numbers bound t temps globals)) e (of_tree t)
