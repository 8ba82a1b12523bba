-- What is counted in code isn't more, and no other globals are read, where what temporaries hold is read in their place.
use Rattle.std.proofs.Common.{arith, ℕ, List, [], ◌∷◌, ◌++◌, sym, subst}
use Rattle.mv_ir.specs.declared.tree.Tree.{Tree}
use Rattle.mv_ir.specs.declared.tree.Tree.TheOpen as tree
use Rattle.mv_ir.specs.declared.stm.Callee.{Callee}
use Rattle.mv_ir.specs.declared.stm.Stm.{Stm}
use Rattle.mv_ir.specs.declared.stm.Stm.TheOpen as stm
use Rattle.mv_ir.specs.Rolled.{temp}
use Rattle.mv_ir.specs.Measures.{callee_trees, callee_read, tree_reads}
use Rattle.mv_ir.proofs.Joining.{depth_positive}
use Rattle.mv_fold.specs.Folded.{IsNoGreater}
use Rattle.mv_fold.proofs.SimpleKept.{nodes_some}
use Rattle.mv_fold.proofs.Within.{Among, among_append, none_among, Less, less_refl, with, less_with, of_trees, of_trees_append, Within, within_append, no_greater}
use Rattle.mv_fold.proofs.FoldedWithin.{of_tree, of_tree_roll, nodes_less, number_less, TreesLess, cons_less, leaf, inside, loop_amount, block_amount, if_within}
use Rattle.mv_propagate.specs.declared.facts.Leaf.{Leaf}
use Rattle.mv_propagate.specs.declared.facts.Leaf.TheVariants.{Number, Temp}
use Rattle.mv_propagate.specs.declared.facts.Fact.{Fact}
use Rattle.mv_propagate.specs.Facts.{tree_of}
use Rattle.mv_propagate.specs.Propagating.{Reads, itself, held, in_unary, in_binary, in_narrow, ReadsAll, no_trees, more_trees, ReadsCallee, same_callee, through, Propagated}
use Rattle.mv_propagate.proofs.Structure.{AreLow, IsClosed, propagated_is}

-- ---- trees

-- a read of a temporary is a tree of one node
pub temp_less : (u : ℕ) (t : Tree) → Less (of_tree (temp u)) (of_tree t)
temp_less u t = subst (λ a. Less a (of_tree t)) (sym (of_tree_roll (tree.Temp u))) (record {
  nodes = nodes_some t;
  depth = depth_positive t;
  reads = none_among (tree_reads t);
  statements = omega arith;
  calls = omega arith;
  arrays = none_among [];
})

leaf_less : (l : Leaf) (t : Tree) → Less (of_tree (tree_of l)) (of_tree t)
leaf_less (Number n) t = number_less n t
leaf_less (Temp u) t = temp_less u t

pub reads_less : (facts : List Fact) (v w : Tree) → Reads facts v w → Less (of_tree w) (of_tree v)
reads_less facts v w (itself x) = less_refl _
reads_less facts v w (held t l c) = leaf_less l (temp t)
reads_less facts v w (in_unary o a b h) =
    let less = reads_less facts a b h in
    nodes_less (tree.Unary o a) (tree.Unary o b) (record {
      nodes = omega (arith, less.nodes);
      depth = omega (arith, less.depth);
      reads = less.reads;
      statements = omega arith;
      calls = omega arith;
      arrays = none_among [];
    })
reads_less facts v w (in_binary o a a' b b' h k) =
    let first = reads_less facts a a' h in
    let second = reads_less facts b b' k in
    nodes_less (tree.Binary o a b) (tree.Binary o a' b') (record {
      nodes = omega (arith, first.nodes, second.nodes);
      depth = omega (arith, first.depth, second.depth);
      reads = among_append (tree_reads a') (tree_reads a) (tree_reads b') (tree_reads b) first.reads second.reads;
      statements = omega arith;
      calls = omega arith;
      arrays = none_among [];
    })
reads_less facts v w (in_narrow k a b h) =
    let less = reads_less facts a b h in
    nodes_less (tree.Narrow k a) (tree.Narrow k b) (record {
      nodes = omega (arith, less.nodes);
      depth = omega (arith, less.depth);
      reads = less.reads;
      statements = omega arith;
      calls = omega arith;
      arrays = none_among [];
    })

-- ---- lists of trees

one_less : (v w : Tree) → Less (of_tree w) (of_tree v) → TreesLess (w ∷ []) (v ∷ [])
one_less v w h = cons_less w v [] [] h (less_refl _)

two_less : (v w v' w' : Tree) → Less (of_tree w) (of_tree v) → Less (of_tree w') (of_tree v') → TreesLess (w ∷ w' ∷ []) (v ∷ v' ∷ [])
two_less v w v' w' h k = cons_less w v (w' ∷ []) (v' ∷ []) h (one_less v' w' k)

all_less : (facts : List Fact) (xs ys : List Tree) → ReadsAll facts xs ys → TreesLess ys xs
all_less facts xs ys no_trees = less_refl _
all_less facts xs ys (more_trees t u ts us h k) = cons_less u t us ts (reads_less facts t u h) (all_less facts ts us k)

callee_less : (facts : List Fact) (f f' : Callee) → ReadsCallee facts f f' → TreesLess (callee_trees f') (callee_trees f)
callee_less facts f f' (same_callee g) = less_refl _
callee_less facts f f' (through t u h) = one_less t u (reads_less facts t u h)

-- the same pointer switch is read
callee_among : (facts : List Fact) (f f' : Callee) → ReadsCallee facts f f' → Among (callee_read f') (callee_read f)
callee_among facts f f' (same_callee g) = λ n c. c
callee_among facts f f' (through t u h) = none_among []

both_less : (ts ts' us us' : List Tree) → TreesLess ts' ts → TreesLess us' us → TreesLess (ts' ++ us') (ts ++ us)
both_less ts ts' us us' h k =
    subst (λ a. Less a (of_trees (ts ++ us))) (sym (of_trees_append ts' us'))
    (subst (Less (with (of_trees ts') (of_trees us'))) (sym (of_trees_append ts us)) (less_with (of_trees ts') (of_trees ts) (of_trees us') (of_trees us) h k))

-- ---- code

within_closed : (temps : ℕ) → IsClosed temps Within
within_closed temps = record {
  none = less_refl _;
  both = within_append;
  same = λ s. less_refl _;
  set = λ fs t v w low h. leaf (stm.Set t v) (stm.Set t w) (one_less v w (reads_less fs v w h)) (omega arith) (omega arith) (none_among []);
  store = λ fs g v w low h. leaf (stm.SetGlobal g v) (stm.SetGlobal g w) (one_less v w (reads_less fs v w h)) (omega arith) (omega arith) (none_among []);
  divide = λ fs t o a a' b b' low h k.
      leaf (stm.Divide t o a b) (stm.Divide t o a' b') (two_less a a' b b' (reads_less fs a a' h) (reads_less fs b b' k)) (omega arith) (omega arith) (none_among []);
  check = λ fs r i j low h. leaf (stm.Check r i) (stm.Check r j) (one_less i j (reads_less fs i j h)) (omega arith) (omega arith) (none_among []);
  read = λ fs t r i j low h. leaf (stm.Read t r i) (stm.Read t r j) (one_less i j (reads_less fs i j h)) (omega arith) (omega arith) (λ g c. c);
  fetched = λ fs t u r i l low h lt lt'. leaf (stm.Read t r i) (stm.Set t (temp u)) (one_less i (temp u) (temp_less u i)) (omega arith) (omega arith) (none_among _);
  write = λ fs r i j v w low h k.
      leaf (stm.Write r i v) (stm.Write r j w) (two_less i j v w (reads_less fs i j h) (reads_less fs v w k)) (omega arith) (omega arith) (none_among []);
  branch = λ fs t u a a' b b' low h. if_within t u a a' b b' (reads_less fs t u h);
  loop = λ b b'. inside (stm.Loop b) (stm.Loop b') b b' (loop_amount b) (loop_amount b');
  block = λ b b'. inside (stm.Block b) (stm.Block b') b b' (block_amount b) (block_amount b');
  call = λ fs r f f' xs ys low h k.
      leaf (stm.Call r f xs) (stm.Call r f' ys) (both_less (callee_trees f) (callee_trees f') xs ys (callee_less fs f f' h) (all_less fs xs ys k)) (omega arith) (omega arith)
      (callee_among fs f f' h);
  known = λ fs r k xs ys low h. leaf (stm.Known r k xs) (stm.Known r k ys) (all_less fs xs ys h) (omega arith) (omega arith) (none_among []);
  return = λ fs v w low h. leaf (stm.Return v) (stm.Return w) (one_less v w (reads_less fs v w h)) (omega arith) (omega arith) (none_among []);
}

pub propagated_no_greater : (temps : ℕ) (facts : List Fact) (code result : List Stm) (after : List Fact) → AreLow temps facts → Propagated temps facts code result after →
    IsNoGreater code result
propagated_no_greater temps facts code result after low h = no_greater code result (propagated_is temps Within (within_closed temps) facts code result after low h)
