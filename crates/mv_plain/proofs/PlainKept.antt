-- A plainer tree has the same value in every state, no more in it, and reads nothing else.
use Rattle.std.proofs.Common.{arith, ◌≡◌, ℕ, ◌^◌, ◌<◌, ◌≤◌, Bool, true, List, ◌++◌, refl, sym, ◌∙◌, ap, subst, ◌⊎◌, inl, inr, Contains, [], ◌||◌}
use Rattle.std.proofs.lemmas.Bool.{ltb-true, leb-true, eqb-true, or_left, or_right}
use Rattle.std.proofs.lemmas.List.Elements.{Contains-append_left, Contains-append_right, Contains-append_cases}
use Rattle.mv_num.specs.declared.kind.Kind.{Kind}
use Rattle.mv_num.specs.Words as word
use Rattle.mv_num.proofs.Booleans.{or_cases, from_falsity}
use Rattle.mv_ir.specs.declared.tree.Tree.{Tree, out-Tree}
use Rattle.mv_ir.specs.declared.tree.Tree.TheOpen.{Tree-F}
use Rattle.mv_ir.specs.declared.tree.Tree.TheOpen as tree
use Rattle.mv_ir.specs.declared.tree.Tree.TheViews.{roll-Tree, roll-out-Tree}
use Rattle.mv_ir.specs.declared.tree.Tree.TheFolds.{map-Tree}
use Rattle.mv_ir.specs.Operators as operator
use Rattle.mv_ir.specs.Trees.{Value, tree_value, value, unary, binary}
use Rattle.mv_ir.specs.Rolled as rolled
use Rattle.mv_ir.specs.Rolled.{number, narrow}
use Rattle.mv_ir.specs.Measures.{tree_reads}
use Rattle.mv_ir.specs.Live.{reads_temp, layer_reads_temp}
use Rattle.mv_ir.proofs.Induction.{TreeChildren, tree_ind}
use Rattle.mv_ir.proofs.Rolls.{value_roll, reads_temp_roll}
use Rattle.mv_ir.proofs.Alike.{SameTree}
use Rattle.mv_fold.proofs.Within.{Among, among_append, none_among, Less, less_refl, less_trans}
use Rattle.mv_fold.proofs.FoldedWithin.{of_tree, of_node, of_tree_roll, nodes_less, number_less}
use Rattle.mv_fold.proofs.Thinner.{or_both}
use Rattle.mv_fold.proofs.FoldedThinner.{NoMoreRead, number_reads, node_reads}
use Rattle.mv_plain.specs.Plain.{is_word, is_truth, truth_node, Plainer, itself, after, in_unary, in_binary, in_narrow, one_number, two_numbers, narrowed, word_stays, truth_stays, turned, neutral, shifted, unequal, equal, twice, asked, denied}
use Rattle.mv_plain.proofs.PlainTrees.{word_roll, truth_roll}
use Rattle.mv_plain.proofs.PlainNumbers.{unary_word, binary_word, comparison_truth, narrow_truth, narrow_word, whole_stays, small_stays, turned_same, neutral_same, shifted_same, unequal_same, equal_same, twice_same, asked_same, denied_same, not_small}

-- ---- values

module _ (numbers : List ℕ) (bound : List (ℕ × ℕ)) (temps : List ℕ) (globals : List (List ℕ)) where
  abbrev val : Tree → ℕ
  val t = value numbers bound t temps globals

  here : (x : Tree-F Tree) → val (roll-Tree x) ≡ tree_value numbers bound (map-Tree Tree Value (value numbers bound) x) temps globals
  here x = ap (λ f. f temps globals) (value_roll numbers bound x)

  num : (n : ℕ) → val (number n) ≡ n
  num n = here (tree.Number n)

  abbrev IsSmall : Tree → Type 0
  IsSmall t = is_word t ≡ true → val t < 2 ^ 32

  at_word : (x : Tree-F Tree) (v : ℕ) → val (roll-Tree x) ≡ v → v < 2 ^ 32 → val (roll-Tree x) < 2 ^ 32
  at_word x v e h = omega (arith, e, h)

  small_layer : (x : Tree-F Tree) → TreeChildren IsSmall x → IsSmall (roll-Tree x)
  small_layer (tree.Number n) h e = at_word (tree.Number n) n (num n) (ltb-true n (2 ^ 32) (sym (word_roll (tree.Number n)) ∙ e))
  small_layer (tree.Temp t) h e = from_falsity (sym (word_roll (tree.Temp t)) ∙ e)
  small_layer (tree.Global g) h e = from_falsity (sym (word_roll (tree.Global g)) ∙ e)
  small_layer (tree.Function f) h e = from_falsity (sym (word_roll (tree.Function f)) ∙ e)
  small_layer (tree.Unary o a) h e = at_word (tree.Unary o a) (unary o (val a)) (here (tree.Unary o a)) (unary_word o (val a))
  small_layer (tree.Binary o a b) h e =
      at_word (tree.Binary o a b) (binary o (val a) (val b)) (here (tree.Binary o a b))
      (binary_word o (val a) (val b) (is_word a) (is_word b) (sym (word_roll (tree.Binary o a b)) ∙ e) h.0 h.1)
  small_layer (tree.Narrow k a) h e =
      at_word (tree.Narrow k a) (word.narrow k (val a)) (here (tree.Narrow k a)) (narrow_word k (val a) (is_word a) (sym (word_roll (tree.Narrow k a)) ∙ e) h)

  -- what is sure to be a word is one
  pub word_small : (t : Tree) → is_word t ≡ true → val t < 2 ^ 32
  word_small = tree_ind IsSmall small_layer

  at_truth : (x : Tree-F Tree) (v : ℕ) → val (roll-Tree x) ≡ v → v ≤ 1 → val (roll-Tree x) ≤ 1
  at_truth x v e h = omega (arith, e, h)

  truth_layer : (x : Tree-F Tree) → truth_node x ≡ true → val (roll-Tree x) ≤ 1
  truth_layer (tree.Number n) e = at_truth (tree.Number n) n (num n) (leb-true n 1 e)
  truth_layer (tree.Temp t) e = from_falsity e
  truth_layer (tree.Global g) e = from_falsity e
  truth_layer (tree.Function f) e = from_falsity e
  truth_layer (tree.Unary o a) e =
      at_truth (tree.Unary o a) (unary o (val a)) (here (tree.Unary o a))
      (subst (λ p. unary p (val a) ≤ 1) (sym (eqb-true o operator.logical_not e)) (not_small (val a)))
  truth_layer (tree.Binary o a b) e = at_truth (tree.Binary o a b) (binary o (val a) (val b)) (here (tree.Binary o a b)) (comparison_truth o (val a) (val b) e)
  truth_layer (tree.Narrow k a) e = at_truth (tree.Narrow k a) (word.narrow k (val a)) (here (tree.Narrow k a)) (narrow_truth k (val a) e)

  -- what is sure to be a truth is one
  pub truth_small : (t : Tree) → is_truth t ≡ true → val t ≤ 1
  truth_small t = subst (λ u. is_truth u ≡ true → val u ≤ 1) (roll-out-Tree t) (λ e. truth_layer (out-Tree t) (sym (truth_roll (out-Tree t)) ∙ e))

  -- an operator with a number at its right
  right : (o n : ℕ) (a : Tree) → val (rolled.binary o a (number n)) ≡ binary o (val a) n
  right o n a = here (tree.Binary o a (number n)) ∙ ap (binary o (val a)) (num n)

  denies : (a : Tree) → val (rolled.unary operator.logical_not a) ≡ unary operator.logical_not (val a)
  denies a = here (tree.Unary operator.logical_not a)

  both : (o : ℕ) (a b : Tree) → val (rolled.binary o a b) ≡ binary o (val a) (val b)
  both o a b = here (tree.Binary o a b)

  pub value_same : (t u : Tree) → Plainer t u → val t ≡ val u
  value_same t u (itself x) = refl
  value_same t u (after x y z h k) = value_same x y h ∙ value_same y z k
  value_same t u (in_unary o a b h) = here (tree.Unary o a) ∙ ap (unary o) (value_same a b h) ∙ sym (here (tree.Unary o b))
  value_same t u (in_binary o a a' b b' h k) =
      both o a b ∙ ap (λ v. binary o v (val b)) (value_same a a' h) ∙ ap (binary o (val a')) (value_same b b' k) ∙ sym (both o a' b')
  value_same t u (in_narrow k a b h) = here (tree.Narrow k a) ∙ ap (word.narrow k) (value_same a b h) ∙ sym (here (tree.Narrow k b))
  value_same t u (one_number o n) = here (tree.Unary o (number n)) ∙ ap (unary o) (num n) ∙ sym (num (unary o n))
  value_same t u (two_numbers o n m) = right o m (number n) ∙ ap (λ v. binary o v m) (num n) ∙ sym (num (binary o n m))
  value_same t u (narrowed k n) = here (tree.Narrow k (number n)) ∙ ap (word.narrow k) (num n) ∙ sym (num (word.narrow k n))
  value_same t u (word_stays k a w) = here (tree.Narrow k a) ∙ whole_stays k (val a) w
  value_same t u (truth_stays k a h) = here (tree.Narrow k a) ∙ small_stays k (val a) (truth_small a h)
  value_same t u (turned o n a c) = both o (number n) a ∙ ap (λ v. binary o v (val a)) (num n) ∙ turned_same n (val a) o c ∙ sym (right o n a)
  value_same t u (neutral o n a e h) = right o n a ∙ neutral_same (val a) (word_small a h) o n e
  value_same t u (shifted k a lt) = right operator.mul (2 ^ k) a ∙ shifted_same (val a) k lt ∙ sym (right operator.shift_left k a)
  value_same t u (unequal a b) =
      denies (rolled.binary operator.equal a b) ∙ ap (unary operator.logical_not) (both operator.equal a b) ∙ unequal_same (val a) (val b) ∙
      sym (both operator.not_equal a b)
  value_same t u (equal a b) =
      denies (rolled.binary operator.not_equal a b) ∙ ap (unary operator.logical_not) (both operator.not_equal a b) ∙ equal_same (val a) (val b) ∙
      sym (both operator.equal a b)
  value_same t u (twice a h) = denies (rolled.unary operator.logical_not a) ∙ ap (unary operator.logical_not) (denies a) ∙ twice_same (val a) (truth_small a h)
  value_same t u (asked a h) = right operator.not_equal 0 a ∙ asked_same (val a) (truth_small a h)
  value_same t u (denied a) = right operator.equal 0 a ∙ denied_same (val a) ∙ sym (denies a)

-- ---- what there is in it

part_less : (x : Tree-F Tree) (a : Tree) → Less (of_tree a) (of_node x) → Less (of_tree a) (of_tree (roll-Tree x))
part_less x a h = subst (Less (of_tree a)) (sym (of_tree_roll x)) h

pub unary_part : (o : ℕ) (a : Tree) → Less (of_tree a) (of_tree (rolled.unary o a))
unary_part o a =
    part_less (tree.Unary o a) a
    (record { nodes = omega arith; depth = omega arith; reads = λ g c. c; statements = omega arith; calls = omega arith; arrays = none_among [] })

narrow_part : (k : Kind) (a : Tree) → Less (of_tree a) (of_tree (narrow k a))
narrow_part k a =
    part_less (tree.Narrow k a) a
    (record { nodes = omega arith; depth = omega arith; reads = λ g c. c; statements = omega arith; calls = omega arith; arrays = none_among [] })

pub left_part : (o : ℕ) (a b : Tree) → Less (of_tree a) (of_tree (rolled.binary o a b))
left_part o a b = part_less (tree.Binary o a b) a (record {
  nodes = omega arith;
  depth = omega arith;
  reads = λ g c. Contains-append_left _ _ g c;
  statements = omega arith;
  calls = omega arith;
  arrays = none_among [];
})

one_less : (x y : Tree-F Tree) (a b : Tree) → of_node x ≡ of_node (tree.Unary 0 a) → of_node y ≡ of_node (tree.Unary 0 b) → Less (of_tree b) (of_tree a) →
    Less (of_tree (roll-Tree y)) (of_tree (roll-Tree x))
one_less x y a b e f h = nodes_less x y (subst (λ m. Less m (of_node x)) (sym f) (subst (Less (of_node (tree.Unary 0 b))) (sym e) (record {
  nodes = omega (arith, h.nodes);
  depth = omega (arith, h.depth);
  reads = h.reads;
  statements = omega arith;
  calls = omega arith;
  arrays = none_among [];
})))

two_less : (o p : ℕ) (a a' b b' : Tree) → Less (of_tree a') (of_tree a) → Less (of_tree b') (of_tree b) →
    Less (of_tree (rolled.binary p a' b')) (of_tree (rolled.binary o a b))
two_less o p a a' b b' h k = nodes_less (tree.Binary o a b) (tree.Binary p a' b') (record {
  nodes = omega (arith, h.nodes, k.nodes);
  depth = omega (arith, h.depth, k.depth);
  reads = among_append _ _ _ _ h.reads k.reads;
  statements = omega arith;
  calls = omega arith;
  arrays = none_among [];
})

among_turned : (ms ns : List ℕ) → Among (ms ++ ns) (ns ++ ms)
among_turned ms ns g c = by (Contains-append_cases ms ns g c)
  where
    by : Contains ms g ⊎ Contains ns g → Contains (ns ++ ms) g
    by (inl e) = Contains-append_right ns ms g e
    by (inr e) = Contains-append_left ns ms g e

turned_less : (o : ℕ) (a b : Tree) → Less (of_tree (rolled.binary o b a)) (of_tree (rolled.binary o a b))
turned_less o a b = nodes_less (tree.Binary o a b) (tree.Binary o b a) (record {
  nodes = omega arith;
  depth = omega arith;
  reads = among_turned (tree_reads b) (tree_reads a);
  statements = omega arith;
  calls = omega arith;
  arrays = none_among [];
})

denied_less : (o p : ℕ) (a b : Tree) → Less (of_tree (rolled.unary p a)) (of_tree (rolled.binary o a b))
denied_less o p a b = nodes_less (tree.Binary o a b) (tree.Unary p a) (record {
  nodes = omega arith;
  depth = omega arith;
  reads = λ g c. Contains-append_left _ _ g c;
  statements = omega arith;
  calls = omega arith;
  arrays = none_among [];
})

-- a comparison in place of the denial of another
opposite_less : (o p q : ℕ) (a b : Tree) → Less (of_tree (rolled.binary p a b)) (of_tree (rolled.unary q (rolled.binary o a b)))
opposite_less o p q a b = less_trans _ _ _ (two_less o p a a b b (less_refl _) (less_refl _)) (unary_part q (rolled.binary o a b))

pub plainer_less : (t u : Tree) → Plainer t u → Less (of_tree u) (of_tree t)
plainer_less t u (itself x) = less_refl _
plainer_less t u (after x y z h k) = less_trans _ _ _ (plainer_less y z k) (plainer_less x y h)
plainer_less t u (in_unary o a b h) = one_less (tree.Unary o a) (tree.Unary o b) a b refl refl (plainer_less a b h)
plainer_less t u (in_binary o a a' b b' h k) = two_less o o a a' b b' (plainer_less a a' h) (plainer_less b b' k)
plainer_less t u (in_narrow k a b h) = one_less (tree.Narrow k a) (tree.Narrow k b) a b refl refl (plainer_less a b h)
plainer_less t u (one_number o n) = number_less (unary o n) (rolled.unary o (number n))
plainer_less t u (two_numbers o n m) = number_less (binary o n m) (rolled.binary o (number n) (number m))
plainer_less t u (narrowed k n) = number_less (word.narrow k n) (narrow k (number n))
plainer_less t u (word_stays k a w) = narrow_part k a
plainer_less t u (truth_stays k a h) = narrow_part k a
plainer_less t u (turned o n a c) = turned_less o (number n) a
plainer_less t u (neutral o n a e h) = left_part o a (number n)
plainer_less t u (shifted k a lt) = two_less operator.mul operator.shift_left a a (number (2 ^ k)) (number k) (less_refl _) (number_less k (number (2 ^ k)))
plainer_less t u (unequal a b) = opposite_less operator.equal operator.not_equal operator.logical_not a b
plainer_less t u (equal a b) = opposite_less operator.not_equal operator.equal operator.logical_not a b
plainer_less t u (twice a h) = less_trans _ _ _ (unary_part operator.logical_not a) (unary_part operator.logical_not (rolled.unary operator.logical_not a))
plainer_less t u (asked a h) = left_part operator.not_equal a (number 0)
plainer_less t u (denied a) = denied_less operator.equal operator.logical_not a (number 0)

-- ---- what it reads

reads_part : (x : Tree-F Tree) (a : Tree) → ((s : ℕ) → reads_temp s a ≡ true → layer_reads_temp s (map-Tree Tree Bool (reads_temp s) x) ≡ true) →
    NoMoreRead (roll-Tree x) a
reads_part x a h s e = (reads_temp_roll s x ∙ h s e, refl)

reads_trans : (x y z : Tree) → NoMoreRead x y → NoMoreRead y z → NoMoreRead x z
reads_trans x y z h k s e = h s (k s e).0

reads_two : (o p : ℕ) (a a' b b' : Tree) → NoMoreRead a a' → NoMoreRead b b' → NoMoreRead (rolled.binary o a b) (rolled.binary p a' b')
reads_two o p a a' b b' h k = node_reads (tree.Binary o a b) (tree.Binary p a' b') (λ s e. or_both _ _ _ _ (λ v. (h s v).0) (λ v. (k s v).0) e)

reads_itself : (a : Tree) → NoMoreRead a a
reads_itself a s e = (e, refl)

reads_left : (o : ℕ) (a b : Tree) → NoMoreRead (rolled.binary o a b) a
reads_left o a b = reads_part (tree.Binary o a b) a (λ s e. or_left _ _ e)

reads_unary : (o : ℕ) (a : Tree) → NoMoreRead (rolled.unary o a) a
reads_unary o a = reads_part (tree.Unary o a) a (λ s e. e)

reads_narrow : (k : Kind) (a : Tree) → NoMoreRead (narrow k a) a
reads_narrow k a = reads_part (tree.Narrow k a) a (λ s e. e)

or_turned : (a b : Bool) → (a || b) ≡ true → (b || a) ≡ true
or_turned a b e = by (or_cases a b e)
  where
    by : (a ≡ true) ⊎ (b ≡ true) → (b || a) ≡ true
    by (inl p) = or_right b a p
    by (inr q) = or_left b a q

reads_turned : (o : ℕ) (a b : Tree) → NoMoreRead (rolled.binary o a b) (rolled.binary o b a)
reads_turned o a b = node_reads (tree.Binary o a b) (tree.Binary o b a) (λ s e. or_turned (reads_temp s b) (reads_temp s a) e)

reads_denied : (o p : ℕ) (a b : Tree) → NoMoreRead (rolled.binary o a b) (rolled.unary p a)
reads_denied o p a b = node_reads (tree.Binary o a b) (tree.Unary p a) (λ s e. or_left _ _ e)

reads_opposite : (o p q : ℕ) (a b : Tree) → NoMoreRead (rolled.unary q (rolled.binary o a b)) (rolled.binary p a b)
reads_opposite o p q a b = reads_trans _ _ _ (reads_unary q (rolled.binary o a b)) (reads_two o p a a b b (reads_itself a) (reads_itself b))

pub plainer_reads : (t u : Tree) → Plainer t u → NoMoreRead t u
plainer_reads t u (itself x) = reads_itself x
plainer_reads t u (after x y z h k) = reads_trans x y z (plainer_reads x y h) (plainer_reads y z k)
plainer_reads t u (in_unary o a b h) = node_reads (tree.Unary o a) (tree.Unary o b) (λ s e. (plainer_reads a b h s e).0)
plainer_reads t u (in_binary o a a' b b' h k) = reads_two o o a a' b b' (plainer_reads a a' h) (plainer_reads b b' k)
plainer_reads t u (in_narrow k a b h) = node_reads (tree.Narrow k a) (tree.Narrow k b) (λ s e. (plainer_reads a b h s e).0)
plainer_reads t u (one_number o n) = number_reads (unary o n) (rolled.unary o (number n))
plainer_reads t u (two_numbers o n m) = number_reads (binary o n m) (rolled.binary o (number n) (number m))
plainer_reads t u (narrowed k n) = number_reads (word.narrow k n) (narrow k (number n))
plainer_reads t u (word_stays k a w) = reads_narrow k a
plainer_reads t u (truth_stays k a h) = reads_narrow k a
plainer_reads t u (turned o n a c) = reads_turned o (number n) a
plainer_reads t u (neutral o n a e h) = reads_left o a (number n)
plainer_reads t u (shifted k a lt) =
    reads_two operator.mul operator.shift_left a a (number (2 ^ k)) (number k) (reads_itself a) (number_reads k (number (2 ^ k)))
plainer_reads t u (unequal a b) = reads_opposite operator.equal operator.not_equal operator.logical_not a b
plainer_reads t u (equal a b) = reads_opposite operator.not_equal operator.equal operator.logical_not a b
plainer_reads t u (twice a h) = reads_trans _ _ _ (reads_unary operator.logical_not (rolled.unary operator.logical_not a)) (reads_unary operator.logical_not a)
plainer_reads t u (asked a h) = reads_left operator.not_equal a (number 0)
plainer_reads t u (denied a) = reads_denied operator.equal operator.logical_not a (number 0)

-- ---- both together

pub same_tree : (numbers : List ℕ) (bound : List (ℕ × ℕ)) (t u : Tree) → Plainer t u → SameTree numbers bound bound t u
same_tree numbers bound t u h = record { value = λ i temps globals. value_same numbers bound temps globals t u h i; smaller = (plainer_less t u h).nodes }
