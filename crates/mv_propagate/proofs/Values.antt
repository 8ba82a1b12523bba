-- What is read in place of temporaries has the same values, and as many nodes.
use Rattle.std.proofs.Common.{◌≡◌, ℕ, suc, ◌+◌, List, ◌∷◌, map, refl, sym, ◌∙◌, ap}
use Rattle.mv_num.specs.Words as word
use Rattle.mv_ir.specs.declared.tree.Tree.{Tree}
use Rattle.mv_ir.specs.declared.tree.Tree.TheOpen.{Tree-F}
use Rattle.mv_ir.specs.declared.tree.Tree.TheOpen as tree
use Rattle.mv_ir.specs.declared.tree.Tree.TheViews.{roll-Tree}
use Rattle.mv_ir.specs.declared.tree.Tree.TheFolds.{map-Tree}
use Rattle.mv_ir.specs.declared.stm.Callee.{Callee}
use Rattle.mv_ir.specs.World.{Setting, Frame}
use Rattle.mv_ir.specs.Trees.{unary, binary, Value, tree_value, value, nodes, nodes_of_all}
use Rattle.mv_ir.specs.Outcome.{State}
use Rattle.mv_ir.specs.Meaning.{of_tree, goal, goal_of, callee_nodes, call_cost}
use Rattle.mv_ir.proofs.Rolls.{value_roll, nodes_roll}
use Rattle.mv_propagate.specs.declared.facts.Leaf.{Leaf}
use Rattle.mv_propagate.specs.declared.facts.Leaf.TheVariants.{Number, Temp}
use Rattle.mv_propagate.specs.declared.facts.Held.TheVariants as held_as
use Rattle.mv_propagate.specs.declared.facts.Fact.{Fact}
use Rattle.mv_propagate.specs.Facts.{tree_of, leaf_value, AllHold}
use Rattle.mv_propagate.specs.Propagating.{fact, Reads, itself, held, in_unary, in_binary, in_narrow, ReadsAll, no_trees, more_trees, ReadsCallee, same_callee, through}

-- ---- nodes

pub leaf_nodes : (l : Leaf) → nodes (tree_of l) ≡ 1
leaf_nodes (Number n) = nodes_roll (tree.Number n)
leaf_nodes (Temp u) = nodes_roll (tree.Temp u)

pub reads_nodes : (facts : List Fact) (x y : Tree) → Reads facts x y → nodes y ≡ nodes x
reads_nodes facts x y (itself z) = refl
reads_nodes facts x y (held t l c) = leaf_nodes l ∙ sym (nodes_roll (tree.Temp t))
reads_nodes facts x y (in_unary o a b h) = nodes_roll (tree.Unary o b) ∙ ap suc (reads_nodes facts a b h) ∙ sym (nodes_roll (tree.Unary o a))
reads_nodes facts x y (in_binary o a a' b b' h k) =
    nodes_roll (tree.Binary o a' b') ∙ ap (λ n. suc (n + nodes b')) (reads_nodes facts a a' h) ∙ ap (λ n. suc (nodes a + n)) (reads_nodes facts b b' k) ∙ sym (nodes_roll (tree.Binary o a b))
reads_nodes facts x y (in_narrow k a b h) = nodes_roll (tree.Narrow k b) ∙ ap suc (reads_nodes facts a b h) ∙ sym (nodes_roll (tree.Narrow k a))

pub all_nodes : (facts : List Fact) (xs ys : List Tree) → ReadsAll facts xs ys → nodes_of_all ys ≡ nodes_of_all xs
all_nodes facts xs ys no_trees = refl
all_nodes facts xs ys (more_trees t u ts us h k) = ap (λ n. n + nodes_of_all us) (reads_nodes facts t u h) ∙ ap (λ n. nodes t + n) (all_nodes facts ts us k)

-- ---- values

module _ (setting : Setting) (frame : Frame) (s : State) where
  abbrev of : Tree → ℕ
  of t = of_tree setting frame t s

  rolled : (x : Tree-F Tree) → of (roll-Tree x) ≡ tree_value setting.numbers frame.bound (map-Tree Tree Value (value setting.numbers frame.bound) x) s.temps s.world.globals
  rolled x = ap (λ v. v s.temps s.world.globals) (value_roll setting.numbers frame.bound x)

  pub leaf_means : (l : Leaf) → of_tree setting frame (tree_of l) s ≡ leaf_value s l
  leaf_means (Number n) = rolled (tree.Number n)
  leaf_means (Temp u) = rolled (tree.Temp u)

  module _ (facts : List Fact) (known : AllHold s facts) where
    pub reads_value : (x y : Tree) → Reads facts x y → of_tree setting frame y s ≡ of_tree setting frame x s
    reads_value x y (itself z) = refl
    reads_value x y (held t l c) = leaf_means l ∙ sym (known (fact t (held_as.Value l)) c) ∙ sym (rolled (tree.Temp t))
    reads_value x y (in_unary o a b h) = rolled (tree.Unary o b) ∙ ap (unary o) (reads_value a b h) ∙ sym (rolled (tree.Unary o a))
    reads_value x y (in_binary o a a' b b' h k) =
        rolled (tree.Binary o a' b') ∙ ap (λ v. binary o v (of b')) (reads_value a a' h) ∙ ap (binary o (of a)) (reads_value b b' k) ∙ sym (rolled (tree.Binary o a b))
    reads_value x y (in_narrow k a b h) = rolled (tree.Narrow k b) ∙ ap (word.narrow k) (reads_value a b h) ∙ sym (rolled (tree.Narrow k a))

    pub all_values : (xs ys : List Tree) → ReadsAll facts xs ys → map (λ t. of_tree setting frame t s) ys ≡ map (λ t. of_tree setting frame t s) xs
    all_values xs ys no_trees = refl
    all_values xs ys (more_trees t u ts us h k) = ap (λ v. v ∷ map of us) (reads_value t u h) ∙ ap (λ vs. of t ∷ vs) (all_values ts us k)

    -- what a leaf that is read in place of a tree says of that tree
    pub leaf_read : (x : Tree) (l : Leaf) → Reads facts x (tree_of l) → of_tree setting frame x s ≡ leaf_value s l
    leaf_read x l h = sym (reads_value x (tree_of l) h) ∙ leaf_means l

    -- ---- callees

    pub same_goal : (f g : Callee) → ReadsCallee facts f g → goal setting frame g s ≡ goal setting frame f s
    same_goal f g (same_callee c) = refl
    same_goal f g (through t u h) = ap (goal_of setting.numbers) (reads_value t u h)

  pub same_callee_nodes : (facts : List Fact) (f g : Callee) → ReadsCallee facts f g → callee_nodes setting frame g ≡ callee_nodes setting frame f
  same_callee_nodes facts f g (same_callee c) = refl
  same_callee_nodes facts f g (through t u h) = reads_nodes facts t u h

pub same_call_cost : (facts : List Fact) (f g : Callee) → ReadsCallee facts f g → call_cost g ≡ call_cost f
same_call_cost facts f g (same_callee c) = refl
same_call_cost facts f g (through t u h) = refl
