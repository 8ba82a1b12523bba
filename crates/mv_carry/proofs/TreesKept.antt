-- A tree has the same value with its reads of known temporaries replaced, where these hold what is known, and is no larger.
use Rattle.std.proofs.Common.{arith, ◌≡◌, ℕ, suc, ◌+◌, ◌≤◌, List, Option, Some, None, refl, sym, ◌∙◌, ap}
use Rattle.mv_num.specs.Words as word
use Rattle.mv_ir.specs.declared.tree.Tree.{Tree}
use Rattle.mv_ir.specs.declared.tree.Tree.TheOpen.{Tree-F}
use Rattle.mv_ir.specs.declared.tree.Tree.TheOpen as tree
use Rattle.mv_ir.specs.declared.tree.Tree.TheViews.{roll-Tree}
use Rattle.mv_ir.specs.declared.tree.Tree.TheFolds.{map-Tree}
use Rattle.mv_ir.specs.Trees.{Value, tree_value, unary, binary, value, nodes}
use Rattle.mv_ir.proofs.Induction.{TreeChildren, tree_ind}
use Rattle.mv_ir.proofs.Rolls.{value_roll, nodes_roll}
use Rattle.mv_fold.proofs.SimpleKept.{simple_same}
use Rattle.mv_carry.specs.declared.facts.Fact.{Fact}
use Rattle.mv_carry.specs.Facts.{number_of}
use Rattle.mv_carry.specs.Carrying.{number_or, known_tree, carried_tree}
use Rattle.mv_carry.proofs.Knowing.{Hold, held}
use Rattle.mv_carry.proofs.Equations.{known_tree_roll}

-- ---- nodes

module _ (fs : List Fact) where
  abbrev NodesSame : Tree → Type 0
  NodesSame t = nodes (known_tree fs t) ≡ nodes t

  read_nodes : (o : Option ℕ) (t : ℕ) → nodes (number_or o t) ≡ nodes (roll-Tree (tree.Temp t))
  read_nodes None t = refl
  read_nodes (Some n) t = nodes_roll (tree.Number n) ∙ sym (nodes_roll (tree.Temp t))

  nodes_layer : (x : Tree-F Tree) → TreeChildren NodesSame x → NodesSame (roll-Tree x)
  nodes_layer (tree.Number n) h = ap nodes (known_tree_roll fs (tree.Number n))
  nodes_layer (tree.Temp t) h = ap nodes (known_tree_roll fs (tree.Temp t)) ∙ read_nodes (number_of fs t) t
  nodes_layer (tree.Global g) h = ap nodes (known_tree_roll fs (tree.Global g))
  nodes_layer (tree.Function f) h = ap nodes (known_tree_roll fs (tree.Function f))
  nodes_layer (tree.Unary o a) h = ap nodes (known_tree_roll fs (tree.Unary o a)) ∙ nodes_roll (tree.Unary o (known_tree fs a)) ∙ ap suc h ∙ sym (nodes_roll (tree.Unary o a))
  nodes_layer (tree.Binary o a b) h =
      ap nodes (known_tree_roll fs (tree.Binary o a b)) ∙ nodes_roll (tree.Binary o (known_tree fs a) (known_tree fs b)) ∙
      ap (λ n. suc (n + nodes (known_tree fs b))) h.0 ∙ ap (λ n. suc (nodes a + n)) h.1 ∙ sym (nodes_roll (tree.Binary o a b))
  nodes_layer (tree.Narrow k a) h = ap nodes (known_tree_roll fs (tree.Narrow k a)) ∙ nodes_roll (tree.Narrow k (known_tree fs a)) ∙ ap suc h ∙ sym (nodes_roll (tree.Narrow k a))

  pub nodes_same : (t : Tree) → NodesSame t
  nodes_same = tree_ind NodesSame nodes_layer

-- ---- values

module _ (numbers : List ℕ) (bound : List (ℕ × ℕ)) where
  abbrev val : Tree → Value
  val = value numbers bound

  module _ (fs : List Fact) (xs : List ℕ) (globals : List (List ℕ)) (h : Hold fs xs) where
    abbrev IsSame : Tree → Type 0
    IsSame t = val t xs globals ≡ val (known_tree fs t) xs globals

    here : (x : Tree-F Tree) → val (roll-Tree x) xs globals ≡ tree_value numbers bound (map-Tree Tree Value val x) xs globals
    here x = ap (λ f. f xs globals) (value_roll numbers bound x)

    there : (x : Tree-F Tree) (y : Tree) → known_tree fs (roll-Tree x) ≡ y → val y xs globals ≡ val (known_tree fs (roll-Tree x)) xs globals
    there x y e = ap (λ u. val u xs globals) (sym e)

    read_same : (t : ℕ) (o : Option ℕ) → number_of fs t ≡ o → val (roll-Tree (tree.Temp t)) xs globals ≡ val (number_or o t) xs globals
    read_same t None e = refl
    read_same t (Some n) e = here (tree.Temp t) ∙ held fs xs h t n e ∙ sym (here (tree.Number n))

    value_layer : (x : Tree-F Tree) → TreeChildren IsSame x → IsSame (roll-Tree x)
    value_layer (tree.Number n) k = there (tree.Number n) _ (known_tree_roll fs (tree.Number n))
    value_layer (tree.Temp t) k = read_same t (number_of fs t) refl ∙ there (tree.Temp t) _ (known_tree_roll fs (tree.Temp t))
    value_layer (tree.Global g) k = there (tree.Global g) _ (known_tree_roll fs (tree.Global g))
    value_layer (tree.Function f) k = there (tree.Function f) _ (known_tree_roll fs (tree.Function f))
    value_layer (tree.Unary o a) k = here (tree.Unary o a) ∙ ap (unary o) k ∙ sym (here (tree.Unary o (known_tree fs a))) ∙ there (tree.Unary o a) _ (known_tree_roll fs (tree.Unary o a))
    value_layer (tree.Binary o a b) k =
        here (tree.Binary o a b) ∙ ap (λ v. binary o v (val b xs globals)) k.0 ∙ ap (binary o (val (known_tree fs a) xs globals)) k.1 ∙
        sym (here (tree.Binary o (known_tree fs a) (known_tree fs b))) ∙ there (tree.Binary o a b) _ (known_tree_roll fs (tree.Binary o a b))
    value_layer (tree.Narrow n a) k = here (tree.Narrow n a) ∙ ap (word.narrow n) k ∙ sym (here (tree.Narrow n (known_tree fs a))) ∙ there (tree.Narrow n a) _ (known_tree_roll fs (tree.Narrow n a))

    pub carried_value : (t : Tree) → val t xs globals ≡ val (carried_tree fs t) xs globals
    carried_value t = tree_ind IsSame value_layer t ∙ ap (λ (f : Value). f xs globals) (simple_same numbers bound (known_tree fs t)).value

  pub carried_nodes : (fs : List Fact) (t : Tree) → nodes (carried_tree fs t) ≤ nodes t
  carried_nodes fs t = omega (arith, nodes_same fs t, (simple_same numbers bound (known_tree fs t)).smaller)
