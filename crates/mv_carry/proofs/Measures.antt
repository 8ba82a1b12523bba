-- Carrying makes no count greater and no interval longer, and keeps bodies whole and well formed.
use Rattle.std.proofs.Common.{arith, ◌≡◌, ℕ, false, List, [], ◌∷◌, ◌++◌, length, map, Option, Some, None, refl, sym, ◌∙◌, ap, subst, nat_lt, nat_eq}
use Rattle.mv_num.proofs.Lists.{length_map}
use Rattle.mv_ir.specs.declared.tree.Tree.{Tree}
use Rattle.mv_ir.specs.declared.tree.Tree.TheOpen.{Tree-F}
use Rattle.mv_ir.specs.declared.tree.Tree.TheOpen as tree
use Rattle.mv_ir.specs.declared.tree.Tree.TheViews.{roll-Tree}
use Rattle.mv_ir.specs.declared.stm.Callee.{Callee}
use Rattle.mv_ir.specs.declared.stm.Callee.TheVariants as callee
use Rattle.mv_ir.specs.declared.stm.Stm.{Stm}
use Rattle.mv_ir.specs.declared.stm.Stm.TheOpen as stm
use Rattle.mv_ir.specs.declared.stm.Stm.TheViews.{roll-Stm}
use Rattle.mv_ir.specs.declared.body.Body.{Body}
use Rattle.mv_ir.specs.Measures.{callee_trees, callee_read, tree_reads}
use Rattle.mv_ir.specs.Live.{reads_temp, any_reads}
use Rattle.mv_ir.specs.WellFormed.{callee_named, known_arguments, IsWellFormed}
use Rattle.mv_ir.proofs.Induction.{TreeChildren, tree_ind}
use Rattle.mv_ir.proofs.Joining.{any_reads_append}
use Rattle.mv_fold.specs.Folded.{IsNoGreater}
use Rattle.mv_fold.proofs.Within.{Among, none_among, among_append, Less, less_refl, less_trans, with, less_with, of_trees, of_trees_append, Within, within_append, no_greater}
use Rattle.mv_fold.proofs.FoldedWithin.{of_tree, nodes_less, number_less, tree_less, TreesLess, cons_less, leaf, inside, loop_amount, block_amount, if_within}
use Rattle.mv_fold.proofs.Thinner.{IsThinner, ReadsLess, thinner_none, thinner_append, plain_thins, on_nothing, if_thins, loop_thins, block_thins, KeepsIntervals, thinner_body, or_both}
use Rattle.mv_fold.proofs.FoldedThinner.{every, NoMoreRead, number_reads, node_reads, tree_reads_less, thin_one, next_thins, same}
use Rattle.mv_fold.proofs.WellFormed.{Kept, keep_refl, kept_append, alike, if_kept, loop_kept, block_kept, asked, with_arguments, code_well_formed}
use Rattle.mv_carry.specs.declared.facts.Fact.{Fact}
use Rattle.mv_carry.specs.declared.facts.Reach.TheVariants.{Knowing}
use Rattle.mv_carry.specs.Facts.{number_of}
use Rattle.mv_carry.specs.Carrying.{number_or, known_tree, carried_tree, carried_callee, outermost, carried_code}
use Rattle.mv_carry.proofs.Equations.{known_tree_roll}
use Rattle.mv_carry.proofs.Structure.{IsClosed, carried_is}

module _ (fs : List Fact) where
  -- ---- what there is in a tree

  abbrev TreeLess : Tree → Type 0
  TreeLess t = Less (of_tree (known_tree fs t)) (of_tree t)

  to_less : (x : Tree-F Tree) (y : Tree) → known_tree fs (roll-Tree x) ≡ y → Less (of_tree y) (of_tree (roll-Tree x)) → TreeLess (roll-Tree x)
  to_less x y e h = subst (λ t. Less (of_tree t) (of_tree (roll-Tree x))) (sym e) h

  read_less : (o : Option ℕ) (t : ℕ) → Less (of_tree (number_or o t)) (of_tree (roll-Tree (tree.Temp t)))
  read_less None t = less_refl _
  read_less (Some n) t = number_less n (roll-Tree (tree.Temp t))

  less_layer : (x : Tree-F Tree) → TreeChildren TreeLess x → TreeLess (roll-Tree x)
  less_layer (tree.Number n) h = to_less (tree.Number n) _ (known_tree_roll fs (tree.Number n)) (less_refl _)
  less_layer (tree.Temp t) h = to_less (tree.Temp t) _ (known_tree_roll fs (tree.Temp t)) (read_less (number_of fs t) t)
  less_layer (tree.Global g) h = to_less (tree.Global g) _ (known_tree_roll fs (tree.Global g)) (less_refl _)
  less_layer (tree.Function f) h = to_less (tree.Function f) _ (known_tree_roll fs (tree.Function f)) (less_refl _)
  less_layer (tree.Unary o a) h =
      to_less (tree.Unary o a) _ (known_tree_roll fs (tree.Unary o a))
      (nodes_less (tree.Unary o a) (tree.Unary o (known_tree fs a)) (record { nodes = omega (arith, h.nodes); depth = omega (arith, h.depth); reads = h.reads; statements = omega arith; calls = omega arith; arrays = none_among [] }))
  less_layer (tree.Binary o a b) (h, k) =
      to_less (tree.Binary o a b) _ (known_tree_roll fs (tree.Binary o a b))
      (nodes_less (tree.Binary o a b) (tree.Binary o (known_tree fs a) (known_tree fs b)) (record {
        nodes = omega (arith, h.nodes, k.nodes);
        depth = omega (arith, h.depth, k.depth);
        reads = among_append (tree_reads (known_tree fs a)) (tree_reads a) (tree_reads (known_tree fs b)) (tree_reads b) h.reads k.reads;
        statements = omega arith;
        calls = omega arith;
        arrays = none_among [];
      }))
  less_layer (tree.Narrow n a) h =
      to_less (tree.Narrow n a) _ (known_tree_roll fs (tree.Narrow n a))
      (nodes_less (tree.Narrow n a) (tree.Narrow n (known_tree fs a)) (record { nodes = omega (arith, h.nodes); depth = omega (arith, h.depth); reads = h.reads; statements = omega arith; calls = omega arith; arrays = none_among [] }))

  carried_less : (t : Tree) → Less (of_tree (carried_tree fs t)) (of_tree t)
  carried_less t = less_trans _ _ _ (tree_less (known_tree fs t)) (tree_ind TreeLess less_layer t)

  one_less : (t : Tree) → TreesLess (carried_tree fs t ∷ []) (t ∷ [])
  one_less t = cons_less (carried_tree fs t) t [] [] (carried_less t) (less_refl _)

  two_less : (t u : Tree) → TreesLess (carried_tree fs t ∷ carried_tree fs u ∷ []) (t ∷ u ∷ [])
  two_less t u = cons_less (carried_tree fs t) t (carried_tree fs u ∷ []) (u ∷ []) (carried_less t) (one_less u)

  many_less : (ts : List Tree) → TreesLess (map (carried_tree fs) ts) ts
  many_less [] = less_refl _
  many_less (t ∷ ts) = cons_less (carried_tree fs t) t (map (carried_tree fs) ts) ts (carried_less t) (many_less ts)

  callee_less : (f : Callee) → TreesLess (callee_trees (carried_callee fs f)) (callee_trees f)
  callee_less (callee.Direct f) = less_refl _
  callee_less (callee.Through t) = one_less t
  callee_less (callee.Switched g) = less_refl _
  callee_less callee.Expanded = less_refl _

  call_less : (f : Callee) (ts : List Tree) → TreesLess (callee_trees (carried_callee fs f) ++ map (carried_tree fs) ts) (callee_trees f ++ ts)
  call_less f ts =
      let f' = callee_trees (carried_callee fs f) in
      let ts' = map (carried_tree fs) ts in
      subst (λ a. Less a (of_trees (callee_trees f ++ ts))) (sym (of_trees_append f' ts')) (subst (Less (with (of_trees f') (of_trees ts'))) (sym (of_trees_append (callee_trees f) ts))
      (less_with (of_trees f') (of_trees (callee_trees f)) (of_trees ts') (of_trees ts) (callee_less f) (many_less ts)))

  callee_among : (f : Callee) → Among (callee_read (carried_callee fs f)) (callee_read f)
  callee_among (callee.Direct f) = none_among []
  callee_among (callee.Through t) = none_among []
  callee_among (callee.Switched g) = λ k c. c
  callee_among callee.Expanded = none_among []

  -- ---- what it reads

  abbrev ReadsTree : Tree → Type 0
  ReadsTree t = NoMoreRead t (known_tree fs t)

  to_reads : (x : Tree-F Tree) (y : Tree) → known_tree fs (roll-Tree x) ≡ y → NoMoreRead (roll-Tree x) y → ReadsTree (roll-Tree x)
  to_reads x y e h = subst (NoMoreRead (roll-Tree x)) (sym e) h

  read_reads : (o : Option ℕ) (t : ℕ) → NoMoreRead (roll-Tree (tree.Temp t)) (number_or o t)
  read_reads None t = λ u e. (e, refl)
  read_reads (Some n) t = number_reads n (roll-Tree (tree.Temp t))

  reads_layer : (x : Tree-F Tree) → TreeChildren ReadsTree x → ReadsTree (roll-Tree x)
  reads_layer (tree.Number n) h = to_reads (tree.Number n) _ (known_tree_roll fs (tree.Number n)) (λ t e. (e, refl))
  reads_layer (tree.Temp t) h = to_reads (tree.Temp t) _ (known_tree_roll fs (tree.Temp t)) (read_reads (number_of fs t) t)
  reads_layer (tree.Global g) h = to_reads (tree.Global g) _ (known_tree_roll fs (tree.Global g)) (λ t e. (e, refl))
  reads_layer (tree.Function f) h = to_reads (tree.Function f) _ (known_tree_roll fs (tree.Function f)) (λ t e. (e, refl))
  reads_layer (tree.Unary o a) h = to_reads (tree.Unary o a) _ (known_tree_roll fs (tree.Unary o a)) (node_reads (tree.Unary o a) (tree.Unary o (known_tree fs a)) (λ t e. (h t e).0))
  reads_layer (tree.Binary o a b) (h, k) =
      to_reads (tree.Binary o a b) _ (known_tree_roll fs (tree.Binary o a b))
      (node_reads (tree.Binary o a b) (tree.Binary o (known_tree fs a) (known_tree fs b))
      (λ t e. or_both (reads_temp t a) (reads_temp t b) (reads_temp t (known_tree fs a)) (reads_temp t (known_tree fs b)) (λ v. (h t v).0)
      (λ v. (k t v).0) e))
  reads_layer (tree.Narrow n a) h = to_reads (tree.Narrow n a) _ (known_tree_roll fs (tree.Narrow n a)) (node_reads (tree.Narrow n a) (tree.Narrow n (known_tree fs a)) (λ t e. (h t e).0))

  carried_reads : (x : Tree) → NoMoreRead x (carried_tree fs x)
  carried_reads x t e = let mid = tree_reads_less (known_tree fs x) t e in tree_ind ReadsTree reads_layer x t mid.0

  many_reads : (ts : List Tree) → ReadsLess every ts (map (carried_tree fs) ts)
  many_reads [] t e = (e, refl)
  many_reads (x ∷ ts) t e = (or_both (reads_temp t x) (any_reads t ts) (reads_temp t (carried_tree fs x)) (any_reads t (map (carried_tree fs) ts)) (λ v. (carried_reads x t v).0) (λ v. (many_reads ts t v).0) e, refl)

  one_reads : (x : Tree) → ReadsLess every (x ∷ []) (carried_tree fs x ∷ [])
  one_reads x = many_reads (x ∷ [])

  two_reads : (x y : Tree) → ReadsLess every (x ∷ y ∷ []) (carried_tree fs x ∷ carried_tree fs y ∷ [])
  two_reads x y = many_reads (x ∷ y ∷ [])

  callee_reads : (f : Callee) → ReadsLess every (callee_trees f) (callee_trees (carried_callee fs f))
  callee_reads (callee.Direct f) t e = (e, refl)
  callee_reads (callee.Through x) t e = one_reads x t e
  callee_reads (callee.Switched g) t e = (e, refl)
  callee_reads callee.Expanded t e = (e, refl)

  call_reads : (f : Callee) (ts : List Tree) → ReadsLess every (callee_trees f ++ ts) (callee_trees (carried_callee fs f) ++ map (carried_tree fs) ts)
  call_reads f ts t e = (
    any_reads_append t (callee_trees f) ts ∙
        or_both (any_reads t (callee_trees f)) (any_reads t ts) (any_reads t (callee_trees (carried_callee fs f))) (any_reads t (map (carried_tree fs) ts)) (λ v. (callee_reads f t v).0) (λ v. (many_reads ts t v).0)
        (sym (any_reads_append t (callee_trees (carried_callee fs f)) (map (carried_tree fs) ts)) ∙ e),
    refl,
  )

  -- ---- what a call names

  callee_same : (f : Callee) → callee_named (carried_callee fs f) ≡ callee_named f
  callee_same (callee.Direct f) = refl
  callee_same (callee.Through t) = refl
  callee_same (callee.Switched g) = refl
  callee_same callee.Expanded = refl

  same_length : (args : List Tree) → length args ≡ length (map (carried_tree fs) args)
  same_length args = sym (length_map (carried_tree fs) args)

-- ---- of code

within_closed : IsClosed Within
within_closed = record {
  none = less_refl _;
  both = within_append;
  set = λ fs t v. leaf (stm.Set t v) (stm.Set t (carried_tree fs v)) (one_less fs v) (omega arith) (omega arith) (none_among []);
  store = λ fs g v. leaf (stm.SetGlobal g v) (stm.SetGlobal g (carried_tree fs v)) (one_less fs v) (omega arith) (omega arith) (none_among []);
  divide = λ fs t o a b. leaf (stm.Divide t o a b) (stm.Divide t o (carried_tree fs a) (carried_tree fs b)) (two_less fs a b) (omega arith) (omega arith) (none_among []);
  check = λ fs r i. leaf (stm.Check r i) (stm.Check r (carried_tree fs i)) (one_less fs i) (omega arith) (omega arith) (none_among []);
  read = λ fs t r i. leaf (stm.Read t r i) (stm.Read t r (carried_tree fs i)) (one_less fs i) (omega arith) (omega arith) (λ g c. c);
  write = λ fs r i v. leaf (stm.Write r i v) (stm.Write r (carried_tree fs i) (carried_tree fs v)) (two_less fs i v) (omega arith) (omega arith) (none_among []);
  zeroed = λ l. less_refl _;
  branch = λ fs t a a' b b' h k. if_within t (carried_tree fs t) a a' b b' (carried_less fs t) h k;
  loop = λ b b' h. inside (stm.Loop b) (stm.Loop b') b b' (loop_amount b) (loop_amount b') h;
  block = λ b b' h. inside (stm.Block b) (stm.Block b') b b' (block_amount b) (block_amount b') h;
  break = λ n. less_refl _;
  back = λ n. less_refl _;
  call = λ fs t f args. leaf (stm.Call t f args) (stm.Call t (carried_callee fs f) (map (carried_tree fs) args)) (call_less fs f args) (omega arith) (omega arith) (callee_among fs f);
  known = λ fs t k args. leaf (stm.Known t k args) (stm.Known t k (map (carried_tree fs) args)) (many_less fs args) (omega arith) (omega arith) (none_among []);
  return = λ fs v. leaf (stm.Return v) (stm.Return (carried_tree fs v)) (one_less fs v) (omega arith) (omega arith) (none_among []);
}

thinner_closed : IsClosed (IsThinner every)
thinner_closed = record {
  none = thinner_none every;
  both = thinner_append every;
  set = λ fs t v. thin_one (stm.Set t v) (stm.Set t (carried_tree fs v)) (next_thins (v ∷ []) (carried_tree fs v ∷ []) (Some t) (one_reads fs v));
  store = λ fs g v. thin_one (stm.SetGlobal g v) (stm.SetGlobal g (carried_tree fs v)) (next_thins (v ∷ []) (carried_tree fs v ∷ []) None (one_reads fs v));
  divide = λ fs t o a b. thin_one (stm.Divide t o a b) (stm.Divide t o (carried_tree fs a) (carried_tree fs b)) (next_thins (a ∷ b ∷ []) (carried_tree fs a ∷ carried_tree fs b ∷ []) (Some t) (two_reads fs a b));
  check = λ fs r i. thin_one (stm.Check r i) (stm.Check r (carried_tree fs i)) (next_thins (i ∷ []) (carried_tree fs i ∷ []) None (one_reads fs i));
  read = λ fs t r i. thin_one (stm.Read t r i) (stm.Read t r (carried_tree fs i)) (next_thins (i ∷ []) (carried_tree fs i ∷ []) (Some t) (one_reads fs i));
  write = λ fs r i v. thin_one (stm.Write r i v) (stm.Write r (carried_tree fs i) (carried_tree fs v)) (next_thins (i ∷ v ∷ []) (carried_tree fs i ∷ carried_tree fs v ∷ []) None (two_reads fs i v));
  zeroed = λ l. same (roll-Stm (stm.Zero l));
  branch = λ fs t a a' b b' h k. if_thins every t (carried_tree fs t) a a' b b' (carried_reads fs t) h k;
  loop = loop_thins every;
  block = block_thins every;
  break = λ n. same (roll-Stm (stm.Break n));
  back = λ n. same (roll-Stm (stm.Back n));
  call =
      λ fs t f args. thin_one (stm.Call t f args) (stm.Call t (carried_callee fs f) (map (carried_tree fs) args))
      (next_thins (callee_trees f ++ args) (callee_trees (carried_callee fs f) ++ map (carried_tree fs) args) t (call_reads fs f args));
  known = λ fs t k args. thin_one (stm.Known t k args) (stm.Known t k (map (carried_tree fs) args)) (next_thins args (map (carried_tree fs) args) t (many_reads fs args));
  return = λ fs v. thin_one (stm.Return v) (stm.Return (carried_tree fs v)) (plain_thins every (v ∷ []) (carried_tree fs v ∷ []) None (λ r. false) (one_reads fs v) (on_nothing every));
}

formed_closed : IsClosed Kept
formed_closed = record {
  none = keep_refl _;
  both = kept_append;
  set = λ fs t v. alike (stm.Set t v) (stm.Set t (carried_tree fs v)) refl;
  store = λ fs g v. alike (stm.SetGlobal g v) (stm.SetGlobal g (carried_tree fs v)) refl;
  divide = λ fs t o a b. alike (stm.Divide t o a b) (stm.Divide t o (carried_tree fs a) (carried_tree fs b)) refl;
  check = λ fs r i. alike (stm.Check r i) (stm.Check r (carried_tree fs i)) refl;
  read = λ fs t r i. alike (stm.Read t r i) (stm.Read t r (carried_tree fs i)) refl;
  write = λ fs r i v. alike (stm.Write r i v) (stm.Write r (carried_tree fs i) (carried_tree fs v)) refl;
  zeroed = λ l. keep_refl _;
  branch = λ fs t a a' b b' h k. if_kept t (carried_tree fs t) a a' b b' h k;
  loop = loop_kept;
  block = block_kept;
  break = λ n. keep_refl _;
  back = λ n. keep_refl _;
  call = λ fs t f args. with_arguments (stm.Call t f args) (stm.Call t (carried_callee fs f) (map (carried_tree fs) args)) (λ n. nat_lt n 9) (callee_named f) (length args) (length (map (carried_tree fs) args)) refl
      (ap (asked (λ n. nat_lt n 9) (length (map (carried_tree fs) args))) (callee_same fs f)) (same_length fs args);
  known = λ fs t k args. with_arguments (stm.Known t k args) (stm.Known t k (map (carried_tree fs) args)) (λ n. nat_eq n (known_arguments k)) [] (length args) (length (map (carried_tree fs) args)) refl refl (same_length fs args);
  return = λ fs v. alike (stm.Return v) (stm.Return (carried_tree fs v)) refl;
}

-- ---- of bodies

module _ (b : Body) where
  abbrev code : List Stm
  code = (carried_code b.temps outermost (Knowing []) b.code).code

  pub carried_no_greater : IsNoGreater b.code code
  carried_no_greater = no_greater b.code code (carried_is b.temps Within within_closed outermost (Knowing []) b.code)

  pub carried_intervals : KeepsIntervals every b (record b { code = code })
  carried_intervals = thinner_body every b code (carried_is b.temps (IsThinner every) thinner_closed outermost (Knowing []) b.code)

  pub carried_well_formed : IsWellFormed b → IsWellFormed (record b { code = code })
  carried_well_formed = code_well_formed b code (carried_is b.temps Kept formed_closed outermost (Knowing []) b.code) carried_intervals.has_temps carried_no_greater
