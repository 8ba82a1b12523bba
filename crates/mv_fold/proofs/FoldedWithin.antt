-- Folding makes no count greater, and reads no other globals.
use Rattle.std.proofs.Common.{◌∙◌, arith, ◌≡◌, ℕ, zero, suc, ◌+◌, ◌≤◌, max, Bool, true, false, cond, List, [], ◌∷◌, ◌++◌, map, Option, Some, None, sym, subst}
use Rattle.mv_num.specs.Words as word
use Rattle.mv_ir.specs.declared.tree.Tree.{Tree}
use Rattle.mv_ir.specs.declared.tree.Tree.TheOpen.{Tree-F}
use Rattle.mv_ir.specs.declared.tree.Tree.TheOpen as tree
use Rattle.mv_ir.specs.declared.tree.Tree.TheViews.{roll-Tree}
use Rattle.mv_ir.specs.declared.tree.Tree.TheFolds.{map-Tree}
use Rattle.mv_ir.specs.declared.stm.Callee.{Callee}
use Rattle.mv_ir.specs.declared.stm.Callee.TheVariants as callee
use Rattle.mv_ir.specs.declared.stm.Stm.{Stm}
use Rattle.mv_ir.specs.declared.stm.Stm.TheOpen.{Stm-F}
use Rattle.mv_ir.specs.declared.stm.Stm.TheOpen as stm
use Rattle.mv_ir.specs.declared.stm.Stm.TheViews.{roll-Stm}
use Rattle.mv_ir.specs.declared.stm.Stm.TheFolds.{map-Stm}
use Rattle.mv_ir.specs.Trees.{unary, binary, divide, node_count, nodes, node_depth, depth}
use Rattle.mv_ir.specs.Measures.{joined, callee_trees, layer_trees, stm_trees, trees, layer_reads, tree_reads, callee_read, layer_arrays, stm_arrays, layer_size, stm_size, layer_calls, stm_calls}
use Rattle.mv_ir.proofs.Induction.{Each, TreeChildren, tree_ind, StmChildren}
use Rattle.mv_ir.proofs.Rolls.{nodes_roll, depth_roll, reads_roll}
use Rattle.mv_ir.proofs.Joining.{depth_positive}
use Rattle.mv_ir.specs.Rolled.{number, temp, choose}
use Rattle.mv_fold.specs.Simple.{constant, one_or, two_or, simple_node, simple_tree, jumps, ended, simple_callee, alone, division, choice, simple_layer, simple_stm, simple_code}
use Rattle.mv_fold.specs.Needed.{needed_layer, needed_stm, needed_code}
use Rattle.mv_fold.specs.Shortened.{shortened}
use Rattle.mv_fold.specs.Folded.{simple_body, IsNoGreater}
use Rattle.mv_fold.specs.Opened.{leave, from_outside}
use Rattle.mv_fold.proofs.Opening.{Opens, blocked_is, looped_is}
use Rattle.mv_fold.proofs.SimpleKept.{nodes_some, simple_tree_roll, each_simple}
use Rattle.mv_fold.proofs.NeededEquations.{each_left}
use Rattle.mv_fold.proofs.Shortening.{shortened_is}
use Rattle.mv_fold.proofs.Within.{Among, among_append, none_among, Amount, Less, less_refl, less_trans, with, less_with, less_nothing, less_left, less_right, of_trees, of_trees_append, amount, amount_append, layer_amount, amount_one, bare, Within, within_append, within_one, within_many, no_greater}

-- ---- trees

abbrev pub of_tree : Tree → Amount
of_tree t = record { nodes = nodes t; depth = depth t; reads = tree_reads t; statements = 0; calls = 0; arrays = [] }

abbrev pub of_node : Tree-F Tree → Amount
of_node x = record {
  nodes = node_count (map-Tree Tree ℕ nodes x);
  depth = node_depth (map-Tree Tree ℕ depth x);
  reads = layer_reads (map-Tree Tree (List ℕ) tree_reads x);
  statements = 0;
  calls = 0;
  arrays = [];
}

pub of_tree_roll : (x : Tree-F Tree) → of_tree (roll-Tree x) ≡ of_node x
of_tree_roll x = λ i. record { nodes = nodes_roll x i; depth = depth_roll x i; reads = reads_roll x i; statements = 0; calls = 0; arrays = [] }

pub nodes_less : (x y : Tree-F Tree) → Less (of_node y) (of_node x) → Less (of_tree (roll-Tree y)) (of_tree (roll-Tree x))
nodes_less x y h = subst (λ a. Less a (of_tree (roll-Tree x))) (sym (of_tree_roll y)) (subst (Less (of_node y)) (sym (of_tree_roll x)) h)

pub number_less : (n : ℕ) (t : Tree) → Less (of_tree (number n)) (of_tree t)
number_less n t = subst (λ a. Less a (of_tree t)) (sym (of_tree_roll (tree.Number n))) (record {
  nodes = nodes_some t;
  depth = depth_positive t;
  reads = none_among (tree_reads t);
  statements = omega arith;
  calls = omega arith;
  arrays = none_among [];
})

abbrev pub TreeLess : Tree → Type 0
TreeLess t = Less (of_tree (simple_tree t)) (of_tree t)

unary_less : (o : ℕ) (a : Tree) (c : Option ℕ) → TreeLess a → Less (of_tree (one_or c (unary o) (roll-Tree (tree.Unary o (simple_tree a))))) (of_tree (roll-Tree (tree.Unary o a)))
unary_less o a None h =
    nodes_less (tree.Unary o a) (tree.Unary o (simple_tree a))
    (record { nodes = omega (arith, h.nodes); depth = omega (arith, h.depth); reads = h.reads; statements = omega arith; calls = omega arith; arrays = none_among [] })
unary_less o a (Some n) h = number_less (unary o n) (roll-Tree (tree.Unary o a))

narrow_less : (k : _) (a : Tree) (c : Option ℕ) → TreeLess a → Less (of_tree (one_or c (word.narrow k) (roll-Tree (tree.Narrow k (simple_tree a))))) (of_tree (roll-Tree (tree.Narrow k a)))
narrow_less k a None h =
    nodes_less (tree.Narrow k a) (tree.Narrow k (simple_tree a))
    (record { nodes = omega (arith, h.nodes); depth = omega (arith, h.depth); reads = h.reads; statements = omega arith; calls = omega arith; arrays = none_among [] })
narrow_less k a (Some n) h = number_less (word.narrow k n) (roll-Tree (tree.Narrow k a))

binary_kept : (o : ℕ) (a b : Tree) → TreeLess a → TreeLess b → Less (of_tree (roll-Tree (tree.Binary o (simple_tree a) (simple_tree b)))) (of_tree (roll-Tree (tree.Binary o a b)))
binary_kept o a b h k = nodes_less (tree.Binary o a b) (tree.Binary o (simple_tree a) (simple_tree b)) (record {
  nodes = omega (arith, h.nodes, k.nodes);
  depth = omega (arith, h.depth, k.depth);
  reads = among_append (tree_reads (simple_tree a)) (tree_reads a) (tree_reads (simple_tree b)) (tree_reads b) h.reads k.reads;
  statements = omega arith;
  calls = omega arith;
  arrays = none_among [];
})

binary_less : (o : ℕ) (a b : Tree) (c d : Option ℕ) → TreeLess a → TreeLess b → Less (of_tree (two_or c d (binary o) (roll-Tree (tree.Binary o (simple_tree a) (simple_tree b))))) (of_tree (roll-Tree (tree.Binary o a b)))
binary_less o a b (Some n) (Some m) h k = number_less (binary o n m) (roll-Tree (tree.Binary o a b))
binary_less o a b (Some n) None h k = binary_kept o a b h k
binary_less o a b None (Some m) h k = binary_kept o a b h k
binary_less o a b None None h k = binary_kept o a b h k

to_less : (x : Tree-F Tree) → Less (of_tree (simple_node (map-Tree Tree Tree simple_tree x))) (of_tree (roll-Tree x)) → TreeLess (roll-Tree x)
to_less x h = subst (λ t. Less (of_tree t) (of_tree (roll-Tree x))) (sym (simple_tree_roll x)) h

less_layer : (x : Tree-F Tree) → TreeChildren TreeLess x → TreeLess (roll-Tree x)
less_layer (tree.Number n) h = to_less (tree.Number n) (less_refl _)
less_layer (tree.Temp n) h = to_less (tree.Temp n) (less_refl _)
less_layer (tree.Global n) h = to_less (tree.Global n) (less_refl _)
less_layer (tree.Function n) h = to_less (tree.Function n) (less_refl _)
less_layer (tree.Unary o a) h = to_less (tree.Unary o a) (unary_less o a (constant (simple_tree a)) h)
less_layer (tree.Binary o a b) h = to_less (tree.Binary o a b) (binary_less o a b (constant (simple_tree a)) (constant (simple_tree b)) h.0 h.1)
less_layer (tree.Narrow k a) h = to_less (tree.Narrow k a) (narrow_less k a (constant (simple_tree a)) h)

pub tree_less : (t : Tree) → TreeLess t
tree_less = tree_ind TreeLess less_layer

-- ---- lists of trees

abbrev pub TreesLess : List Tree → List Tree → Type 0
TreesLess ts us = Less (of_trees ts) (of_trees us)

pub cons_less : (t u : Tree) (ts us : List Tree) → Less (of_tree t) (of_tree u) → TreesLess ts us → TreesLess (t ∷ ts) (u ∷ us)
cons_less t u ts us h k = less_with (of_tree t) (of_tree u) (of_trees ts) (of_trees us) h k

one_less : (t : Tree) → TreesLess (simple_tree t ∷ []) (t ∷ [])
one_less t = cons_less (simple_tree t) t [] [] (tree_less t) (less_refl _)

two_less : (t u : Tree) → TreesLess (simple_tree t ∷ simple_tree u ∷ []) (t ∷ u ∷ [])
two_less t u = cons_less (simple_tree t) t (simple_tree u ∷ []) (u ∷ []) (tree_less t) (one_less u)

many_less : (ts : List Tree) → TreesLess (map simple_tree ts) ts
many_less [] = less_refl _
many_less (t ∷ ts) = cons_less (simple_tree t) t (map simple_tree ts) ts (tree_less t) (many_less ts)

callee_less : (f : Callee) → TreesLess (callee_trees (simple_callee f)) (callee_trees f)
callee_less (callee.Direct f) = less_refl _
callee_less (callee.Through t) = one_less t
callee_less (callee.Switched g) = less_refl _
callee_less callee.Expanded = less_refl _

call_less : (f : Callee) (ts : List Tree) → TreesLess (callee_trees (simple_callee f) ++ map simple_tree ts) (callee_trees f ++ ts)
call_less f ts =
    let f' = callee_trees (simple_callee f) in
    let ts' = map simple_tree ts in
    subst (λ a. Less a (of_trees (callee_trees f ++ ts))) (sym (of_trees_append f' ts')) (subst (Less (with (of_trees f') (of_trees ts'))) (sym (of_trees_append (callee_trees f) ts))
    (less_with (of_trees f') (of_trees (callee_trees f)) (of_trees ts') (of_trees ts) (callee_less f) (many_less ts)))

-- ---- one statement for another

abbrev trees_of : Stm-F Stm → List Tree
trees_of x = layer_trees (map-Stm Stm (List Tree) stm_trees x)

abbrev arrays_of : Stm-F Stm → List ℕ
arrays_of x = layer_arrays (map-Stm Stm (List ℕ) stm_arrays x)

pub leaf : (x y : Stm-F Stm) → TreesLess (trees_of y) (trees_of x) → layer_size (map-Stm Stm ℕ stm_size y) ≤ layer_size (map-Stm Stm ℕ stm_size x) →
    layer_calls (map-Stm Stm ℕ stm_calls y) ≤ layer_calls (map-Stm Stm ℕ stm_calls x) → Among (arrays_of y) (arrays_of x) →
    Within (roll-Stm x ∷ []) (alone y)
leaf x y t s c a = within_one x y (record { nodes = t.nodes; depth = t.depth; reads = t.reads; statements = s; calls = c; arrays = a })

-- a loop or a block
pub inside : (x y : Stm-F Stm) (b b' : List Stm) → layer_amount x ≡ with bare (amount b) → layer_amount y ≡ with bare (amount b') → Within b b' → Within (roll-Stm x ∷ []) (alone y)
inside x y b b' e f h =
    within_one x y (subst (λ a. Less a (layer_amount x)) (sym f) (subst (Less (with bare (amount b'))) (sym e) (less_with bare bare (amount b') (amount b) (less_refl bare) h)))

none_plus : (n : ℕ) → n ≡ 0 + n
none_plus n = omega arith

none_max : (n : ℕ) → n ≡ max 0 n
none_max n = omega arith

one_plus : (n : ℕ) → suc n ≡ 1 + n
one_plus n = omega arith

pub loop_amount : (b : List Stm) → layer_amount (stm.Loop b) ≡ with bare (amount b)
loop_amount b =
    λ i. record {
      nodes = none_plus (amount b).nodes i;
      depth = none_max (amount b).depth i;
      reads = (amount b).reads;
      statements = one_plus (amount b).statements i;
      calls = none_plus (amount b).calls i;
      arrays = (amount b).arrays;
    }

pub block_amount : (b : List Stm) → layer_amount (stm.Block b) ≡ with bare (amount b)
block_amount b =
    λ i. record {
      nodes = none_plus (amount b).nodes i;
      depth = none_max (amount b).depth i;
      reads = (amount b).reads;
      statements = one_plus (amount b).statements i;
      calls = none_plus (amount b).calls i;
      arrays = (amount b).arrays;
    }

abbrev pub chooser : Tree → Amount
chooser t = record { nodes = nodes t; depth = depth t; reads = tree_reads t; statements = 1; calls = 0; arrays = [] }

pub if_amount : (t : Tree) (a b : List Stm) → layer_amount (stm.If t a b) ≡ with (chooser t) (with (amount a) (amount b))
if_amount t a b = λ i. record {
  nodes = nodes t + (both i).nodes;
  depth = max (depth t) (both i).depth;
  reads = tree_reads t ++ (both i).reads;
  statements = one_plus ((amount a).statements + (amount b).statements) i;
  calls = none_plus ((amount a).calls + (amount b).calls) i;
  arrays = (amount a).arrays ++ (amount b).arrays;
}
  where
    both : of_trees (trees a ++ trees b) ≡ with (of_trees (trees a)) (of_trees (trees b))
    both = of_trees_append (trees a) (trees b)

pub amount_choice : (t : Tree) (a b : List Stm) → amount (choose t a b ∷ []) ≡ with (chooser t) (with (amount a) (amount b))
amount_choice t a b = amount_one (stm.If t a b) ∙ if_amount t a b

pub if_within : (t t' : Tree) (a a' b b' : List Stm) → Less (of_tree t') (of_tree t) → Within a a' → Within b b' → Within (roll-Stm (stm.If t a b) ∷ []) (alone (stm.If t' a' b'))
if_within t t' a a' b b' h ha hb =
    let head : Less (chooser t') (chooser t) = record { nodes = h.nodes; depth = h.depth; reads = h.reads; statements = omega arith; calls = omega arith; arrays = none_among [] } in
    within_one (stm.If t a b) (stm.If t' a' b') (subst (λ x. Less x (layer_amount (stm.If t a b))) (sym (if_amount t' a' b')) (subst (Less (with (chooser t') (with (amount a') (amount b')))) (sym (if_amount t a b))
    (less_with (chooser t') (chooser t) (with (amount a') (amount b')) (with (amount a) (amount b)) head (less_with (amount a') (amount a) (amount b') (amount b) ha hb))))

side_within : (t : Tree) (a b c : List Stm) → Less (amount c) (with (amount a) (amount b)) → Within (roll-Stm (stm.If t a b) ∷ []) c
side_within t a b c h =
    within_many (stm.If t a b) c (subst (Less (amount c)) (sym (if_amount t a b))
    (less_trans (amount c) (with (amount a) (amount b)) (with (chooser t) (with (amount a) (amount b))) h
    (less_right (chooser t) (with (amount a) (amount b)))))

-- ---- constants computed

abbrev IsWithin : Stm → Type 0
IsWithin s = Within (s ∷ []) (simple_stm s)

kids_within : (b : List Stm) → Each IsWithin b → Within b (joined (map simple_stm b))
kids_within [] h = less_refl _
kids_within (s ∷ b) h = within_append (s ∷ []) (simple_stm s) b (joined (map simple_stm b)) h.0 (kids_within b h.1)

cut_within : (s : Stm) (xs ys : List Stm) (c : Bool) → Within xs ys → Within (s ∷ xs) (s ∷ cond c [] ys)
cut_within s xs ys true h = within_append (s ∷ []) (s ∷ []) xs [] (less_refl _) (less_nothing _)
cut_within s xs ys false h = within_append (s ∷ []) (s ∷ []) xs ys (less_refl _) h

ended_within : (xs : List Stm) → Within xs (ended xs)
ended_within [] = less_refl _
ended_within (s ∷ xs) = cut_within s xs (ended xs) (jumps s) (ended_within xs)

code_within : (b : List Stm) → Each IsWithin b → Within b (simple_code b)
code_within b h = less_trans _ _ _ (ended_within (joined (map simple_stm b))) (kids_within b h)

division_within : (c d : Option ℕ) (t o : ℕ) (a b : Tree) → Within (roll-Stm (stm.Divide t o a b) ∷ []) (division c d t o (simple_tree a) (simple_tree b))
division_within (Some n) (Some (suc d)) t o a b =
    leaf (stm.Divide t o a b) (stm.Set t (number (divide o n (suc d)))) (cons_less (number (divide o n (suc d))) a [] (b ∷ []) (number_less (divide o n (suc d)) a) (less_nothing _)) (omega arith) (omega arith) (none_among [])
division_within (Some n) (Some zero) t o a b = leaf (stm.Divide t o a b) (stm.Divide t o (simple_tree a) (simple_tree b)) (two_less a b) (omega arith) (omega arith) (none_among [])
division_within (Some n) None t o a b = leaf (stm.Divide t o a b) (stm.Divide t o (simple_tree a) (simple_tree b)) (two_less a b) (omega arith) (omega arith) (none_among [])
division_within None None t o a b = leaf (stm.Divide t o a b) (stm.Divide t o (simple_tree a) (simple_tree b)) (two_less a b) (omega arith) (omega arith) (none_among [])
division_within None (Some d) t o a b = leaf (stm.Divide t o a b) (stm.Divide t o (simple_tree a) (simple_tree b)) (two_less a b) (omega arith) (omega arith) (none_among [])

choice_within : (c : Option ℕ) (t : Tree) (a b : List Stm) → Within a (simple_code a) → Within b (simple_code b) → Within (roll-Stm (stm.If t a b) ∷ []) (choice c (simple_tree t) (simple_code a) (simple_code b))
choice_within None t a b ha hb = if_within t (simple_tree t) a (simple_code a) b (simple_code b) (tree_less t) ha hb
choice_within (Some zero) t a b ha hb = side_within t a b (simple_code b) (less_trans (amount (simple_code b)) (amount b) (with (amount a) (amount b)) hb (less_right (amount a) (amount b)))
choice_within (Some (suc n)) t a b ha hb = side_within t a b (simple_code a) (less_trans (amount (simple_code a)) (amount a) (with (amount a) (amount b)) ha (less_left (amount a) (amount b)))

-- the same pointer switch is read
callee_among : (f : Callee) → Among (callee_read (simple_callee f)) (callee_read f)
callee_among (callee.Direct f) = none_among []
callee_among (callee.Through t) = none_among []
callee_among (callee.Switched g) = λ k c. c
callee_among callee.Expanded = none_among []

-- the statements of a loop or block alone, with a jump at their end or none
end_within : (front : List Stm) (end : Option ℕ) → Within (front ++ leave end) (front ++ leave (from_outside end))
end_within front None = less_refl _
end_within front (Some zero) = within_append front front (leave (Some 0)) [] (less_refl _) (less_nothing _)
end_within front (Some (suc n)) = within_append front front (leave (Some (suc n))) (leave (Some n)) (less_refl _) (leaf (stm.Break (suc n)) (stm.Break n) (less_refl _) (omega arith) (omega arith) (none_among []))

contents_within : (x : Stm-F Stm) (b c : List Stm) → layer_amount x ≡ with bare (amount b) → Within b c → Within (roll-Stm x ∷ []) c
contents_within x b c e h =
    let one : Amount = record { nodes = 0; depth = 0; reads = []; statements = 1; calls = 0; arrays = [] } in
    within_many x c (subst (Less (amount c)) (sym e) (less_trans (amount c) (amount b) (with one (amount b)) h (less_right one (amount b))))

open_within : Opens Within
open_within = record {
  same = λ xs. less_refl _;
  block = λ front end e. contents_within (stm.Block (front ++ leave end)) (front ++ leave end) (front ++ leave (from_outside end)) (block_amount (front ++ leave end)) (end_within front end);
  loop = λ front n e. contents_within (stm.Loop (front ++ leave (Some n))) (front ++ leave (Some n)) (front ++ leave (from_outside (Some n))) (loop_amount (front ++ leave (Some n))) (end_within front (Some n));
}

within_layer : (x : Stm-F Stm) → StmChildren IsWithin x → Within (roll-Stm x ∷ []) (simple_layer (map-Stm Stm (List Stm) simple_stm x))
within_layer (stm.Set t v) h = leaf (stm.Set t v) (stm.Set t (simple_tree v)) (one_less v) (omega arith) (omega arith) (none_among [])
within_layer (stm.SetGlobal g v) h = leaf (stm.SetGlobal g v) (stm.SetGlobal g (simple_tree v)) (one_less v) (omega arith) (omega arith) (none_among [])
within_layer (stm.Divide t o a b) h = division_within (constant (simple_tree a)) (constant (simple_tree b)) t o a b
within_layer (stm.Check r i) h = leaf (stm.Check r i) (stm.Check r (simple_tree i)) (one_less i) (omega arith) (omega arith) (none_among [])
within_layer (stm.Read t r i) h = leaf (stm.Read t r i) (stm.Read t r (simple_tree i)) (one_less i) (omega arith) (omega arith) (λ g c. c)
within_layer (stm.Write r i v) h = leaf (stm.Write r i v) (stm.Write r (simple_tree i) (simple_tree v)) (two_less i v) (omega arith) (omega arith) (none_among [])
within_layer (stm.Zero l) h = less_refl _
within_layer (stm.If t a b) h = choice_within (constant (simple_tree t)) t a b (code_within a h.0) (code_within b h.1)
within_layer (stm.Loop b) h = less_trans _ _ _ (looped_is Within open_within (simple_code b)) (inside (stm.Loop b) (stm.Loop (simple_code b)) b (simple_code b) (loop_amount b) (loop_amount (simple_code b)) (code_within b h))
within_layer (stm.Block b) h = less_trans _ _ _ (blocked_is Within open_within (simple_code b)) (inside (stm.Block b) (stm.Block (simple_code b)) b (simple_code b) (block_amount b) (block_amount (simple_code b)) (code_within b h))
within_layer (stm.Break n) h = less_refl _
within_layer (stm.Back n) h = less_refl _
within_layer (stm.Call r f args) h = leaf (stm.Call r f args) (stm.Call r (simple_callee f) (map simple_tree args)) (call_less f args) (omega arith) (omega arith) (callee_among f)
within_layer (stm.Known r k args) h = leaf (stm.Known r k args) (stm.Known r k (map simple_tree args)) (many_less args) (omega arith) (omega arith) (none_among [])
within_layer (stm.Return v) h = leaf (stm.Return v) (stm.Return (simple_tree v)) (one_less v) (omega arith) (omega arith) (none_among [])

simple_within : (code : List Stm) → Within code (simple_code code)
simple_within code = code_within code (each_simple (λ s. Within (s ∷ [])) within_layer code)

-- ---- without the sets that aren't needed

module _ (needed : ℕ → Bool) where
  abbrev IsLeft : Stm → Type 0
  IsLeft s = Within (s ∷ []) (needed_stm needed s)

  kids_left : (b : List Stm) → Each IsLeft b → Within b (needed_code needed b)
  kids_left [] h = less_refl _
  kids_left (s ∷ b) h = within_append (s ∷ []) (needed_stm needed s) b (needed_code needed b) h.0 (kids_left b h.1)

  set_left : (t : ℕ) (v : Tree) (c : Bool) → Within (roll-Stm (stm.Set t v) ∷ []) (cond c (alone (stm.Set t v)) [])
  set_left t v true = less_refl _
  set_left t v false = less_nothing _

  left_layer : (x : Stm-F Stm) → StmChildren IsLeft x → Within (roll-Stm x ∷ []) (needed_layer needed (map-Stm Stm (List Stm) (needed_stm needed) x))
  left_layer (stm.Set t v) h = set_left t v (needed t)
  left_layer (stm.SetGlobal g v) h = less_refl _
  left_layer (stm.Divide t o a b) h = less_refl _
  left_layer (stm.Check r i) h = less_refl _
  left_layer (stm.Read t r i) h = less_refl _
  left_layer (stm.Write r i v) h = less_refl _
  left_layer (stm.Zero l) h = less_refl _
  left_layer (stm.If t a b) h = if_within t t a (needed_code needed a) b (needed_code needed b) (less_refl _) (kids_left a h.0) (kids_left b h.1)
  left_layer (stm.Loop b) h = inside (stm.Loop b) (stm.Loop (needed_code needed b)) b (needed_code needed b) (loop_amount b) (loop_amount (needed_code needed b)) (kids_left b h)
  left_layer (stm.Block b) h = inside (stm.Block b) (stm.Block (needed_code needed b)) b (needed_code needed b) (block_amount b) (block_amount (needed_code needed b)) (kids_left b h)
  left_layer (stm.Break n) h = less_refl _
  left_layer (stm.Back n) h = less_refl _
  left_layer (stm.Call r f args) h = less_refl _
  left_layer (stm.Known r k args) h = less_refl _
  left_layer (stm.Return v) h = less_refl _

  needed_within : (code : List Stm) → Within code (needed_code needed code)
  needed_within code = kids_left code (each_left needed (λ s. Within (s ∷ [])) left_layer code)

-- ---- its end shortened

pub pair_within : (x y z : Stm-F Stm) → Less (layer_amount z) (layer_amount x) → Within (roll-Stm x ∷ roll-Stm y ∷ []) (roll-Stm z ∷ [])
pair_within x y z h =
    let a = amount (roll-Stm x ∷ []) in
    let b = amount (roll-Stm y ∷ []) in
    less_trans _ _ _ (within_one x z h) (subst (Less a) (sym (amount_append (roll-Stm x ∷ []) (roll-Stm y ∷ []))) (less_left a b))

short_within : (temps : ℕ) (code : List Stm) → Within code (shortened temps code)
short_within temps = shortened_is temps Within (record {
  same = λ xs. less_refl _;
  both = λ xs ys zs h k. less_trans _ _ _ k h;
  behind = λ s xs ys h. within_append (s ∷ []) (s ∷ []) xs ys (less_refl _) h;
  leave = λ n. less_nothing _;
  unread = λ t v. less_nothing _;
  stored = λ t g v lt. pair_within (stm.Set t v) (stm.SetGlobal g (temp t)) (stm.SetGlobal g v) (less_refl _);
  returned = λ t v lt. pair_within (stm.Set t v) (stm.Return (temp t)) (stm.Return v) (less_refl _);
})

pub folded_within : (temps : ℕ) (needed : ℕ → Bool) (code : List Stm) → IsNoGreater code (needed_code needed (simple_body temps code))
folded_within temps needed code =
    no_greater code (needed_code needed (simple_body temps code)) (less_trans _ _ _ (needed_within needed (simple_body temps code)) (less_trans _ _ _ (short_within temps (simple_code code)) (simple_within code)))
