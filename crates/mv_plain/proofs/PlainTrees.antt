-- What is sure of trees, and steps to plainer trees, at each variant.
use Rattle.std.proofs.Common.{arith, ◌≡◌, ℕ, ◌<◌, ◌^◌, ◌-◌, Bool, true, false, cond, leb, ltb, eqb, Some, None, sym, ◌∙◌, ap, subst}
use Rattle.mv_num.specs.declared.kind.Kind.{Kind}
use Rattle.mv_num.specs.Words as word
use Rattle.mv_ir.specs.declared.tree.Tree.{Tree, out-Tree}
use Rattle.mv_ir.specs.declared.tree.Tree as tr
use Rattle.mv_ir.specs.declared.tree.Tree.TheOpen.{Tree-F}
use Rattle.mv_ir.specs.declared.tree.Tree.TheOpen as tree
use Rattle.mv_ir.specs.declared.tree.Tree.TheVariants.{rolls-Number, rolls-Temp, rolls-Global, rolls-Function, rolls-Unary, rolls-Binary, rolls-Narrow}
use Rattle.mv_ir.specs.declared.tree.Tree.TheViews.{roll-Tree, out-roll-Tree, roll-out-Tree}
use Rattle.mv_ir.specs.declared.tree.Tree.TheFolds.{fold-roll-Tree, map-Tree}
use Rattle.mv_ir.specs.Operators as operator
use Rattle.mv_ir.specs.Operators.{is_comparison}
use Rattle.mv_ir.specs.Trees as value
use Rattle.mv_ir.specs.Trees.{keeps_words}
use Rattle.mv_ir.specs.Rolled.{number, unary, binary, narrow}
use Rattle.mv_fold.specs.Simple.{layer_constant, constant}
use Rattle.mv_plain.specs.Plain.{gives_word, word_node, is_word, is_bool, truth_node, is_truth, commutes, Plainer, itself, after, in_unary, in_binary, in_narrow, one_number, two_numbers, narrowed, turned, shifted, unequal, equal, twice, asked, denied}

-- ---- words

pub word_roll : (x : Tree-F Tree) → is_word (roll-Tree x) ≡ word_node (map-Tree Tree Bool is_word x)
unfolding is_word
word_roll x = fold-roll-Tree Bool word_node x

below : (n : ℕ) → ltb n (2 ^ 32) ≡ leb n (2 ^ 32 - 1)
below n = grind arith

pub word_number : (n : ℕ) → is_word (tr.Number n) ≡ leb n (2 ^ 32 - 1)
word_number n = ap is_word (sym (rolls-Number n)) ∙ word_roll (tree.Number n) ∙ below n

pub word_temp : (t : ℕ) → is_word (tr.Temp t) ≡ false
word_temp t = ap is_word (sym (rolls-Temp t)) ∙ word_roll (tree.Temp t)

pub word_global : (g : ℕ) → is_word (tr.Global g) ≡ false
word_global g = ap is_word (sym (rolls-Global g)) ∙ word_roll (tree.Global g)

pub word_function : (f : ℕ) → is_word (tr.Function f) ≡ false
word_function f = ap is_word (sym (rolls-Function f)) ∙ word_roll (tree.Function f)

pub word_unary : (o : ℕ) (a : Tree) → is_word (tr.Unary o a) ≡ true
word_unary o a = ap is_word (sym (rolls-Unary o a)) ∙ word_roll (tree.Unary o a)

pub word_binary : (o : ℕ) (a b : Tree) → is_word (tr.Binary o a b) ≡ gives_word o (is_word a) (is_word b)
word_binary o a b = ap is_word (sym (rolls-Binary o a b)) ∙ word_roll (tree.Binary o a b)

pub word_narrow : (k : Kind) (a : Tree) → is_word (tr.Narrow k a) ≡ cond (keeps_words k) (is_word a) true
word_narrow k a = ap is_word (sym (rolls-Narrow k a)) ∙ word_roll (tree.Narrow k a)

pub ruleset words = (word_number, word_temp, word_global, word_function, word_unary, word_binary, word_narrow)

-- ---- truths

pub truth_roll : (x : Tree-F Tree) → is_truth (roll-Tree x) ≡ truth_node x
unfolding is_truth
truth_roll x = ap truth_node (out-roll-Tree x)

pub truth_number : (n : ℕ) → is_truth (tr.Number n) ≡ leb n 1
truth_number n = ap is_truth (sym (rolls-Number n)) ∙ truth_roll (tree.Number n)

pub truth_temp : (t : ℕ) → is_truth (tr.Temp t) ≡ false
truth_temp t = ap is_truth (sym (rolls-Temp t)) ∙ truth_roll (tree.Temp t)

pub truth_global : (g : ℕ) → is_truth (tr.Global g) ≡ false
truth_global g = ap is_truth (sym (rolls-Global g)) ∙ truth_roll (tree.Global g)

pub truth_function : (f : ℕ) → is_truth (tr.Function f) ≡ false
truth_function f = ap is_truth (sym (rolls-Function f)) ∙ truth_roll (tree.Function f)

pub truth_unary : (o : ℕ) (a : Tree) → is_truth (tr.Unary o a) ≡ eqb o operator.logical_not
truth_unary o a = ap is_truth (sym (rolls-Unary o a)) ∙ truth_roll (tree.Unary o a)

pub truth_binary : (o : ℕ) (a b : Tree) → is_truth (tr.Binary o a b) ≡ is_comparison o
truth_binary o a b = ap is_truth (sym (rolls-Binary o a b)) ∙ truth_roll (tree.Binary o a b)

pub truth_narrow : (k : Kind) (a : Tree) → is_truth (tr.Narrow k a) ≡ is_bool k
truth_narrow k a = ap is_truth (sym (rolls-Narrow k a)) ∙ truth_roll (tree.Narrow k a)

pub ruleset truths = (truth_number, truth_temp, truth_global, truth_function, truth_unary, truth_binary, truth_narrow)

-- ---- constants

pub constant_is : (t : Tree) (n : ℕ) → constant t ≡ Some n → t ≡ number n
unfolding constant
constant_is t n e = subst (λ u. u ≡ number n) (roll-out-Tree t) (by (out-Tree t) e)
  where
    by : (x : Tree-F Tree) → layer_constant x ≡ Some n → roll-Tree x ≡ number n
    by (tree.Number m) e = let h : Some m ≡ Some n = e in let k : m ≡ n = cc in ap number k
    by (tree.Temp m) e = let h : None ≡ Some n = e in absurd (cc)
    by (tree.Global m) e = let h : None ≡ Some n = e in absurd (cc)
    by (tree.Function m) e = let h : None ≡ Some n = e in absurd (cc)
    by (tree.Unary o a) e = let h : None ≡ Some n = e in absurd (cc)
    by (tree.Binary o a b) e = let h : None ≡ Some n = e in absurd (cc)
    by (tree.Narrow k a) e = let h : None ≡ Some n = e in absurd (cc)

-- ---- steps, to a tree by its variant

abbrev to : (t u u' : Tree) → u ≡ u' → Plainer t u → Plainer t u'
to t u u' e h = subst (Plainer t) e h

abbrev from : (t t' u : Tree) → t ≡ t' → Plainer t u → Plainer t' u
from t t' u e h = subst (λ x. Plainer x u) e h

-- of a tree that stays
pub stays : (t u : Tree) → t ≡ u → Plainer t u
stays t u e = to t t u e (itself t)

pub stays_unary : (o : ℕ) (a b : Tree) → b ≡ a → Plainer (unary o a) (tr.Unary o b)
stays_unary o a b e = stays _ _ (ap (unary o) (sym e) ∙ rolls-Unary o b)

pub stays_binary : (o : ℕ) (a a' b b' : Tree) → a' ≡ a → b' ≡ b → Plainer (binary o a b) (tr.Binary o a' b')
stays_binary o a a' b b' e f = stays _ _ (ap (λ x. binary o x b) (sym e) ∙ ap (binary o a') (sym f) ∙ rolls-Binary o a' b')

pub stays_narrow : (k : Kind) (a b : Tree) → b ≡ a → Plainer (narrow k a) (tr.Narrow k b)
stays_narrow k a b e = stays _ _ (ap (narrow k) (sym e) ∙ rolls-Narrow k b)

-- of constants
pub narrow_number : (k : Kind) (a : Tree) (n m : ℕ) → constant a ≡ Some n → m ≡ word.narrow k n → Plainer (narrow k a) (tr.Number m)
narrow_number k a n m e f = from _ _ _ (ap (narrow k) (sym (constant_is a n e))) (to _ _ _ (ap number (sym f) ∙ rolls-Number m) (narrowed k n))

pub unary_number : (o : ℕ) (a : Tree) (n m : ℕ) → constant a ≡ Some n → m ≡ value.unary o n → Plainer (unary o a) (tr.Number m)
unary_number o a n m e f = from _ _ _ (ap (unary o) (sym (constant_is a n e))) (to _ _ _ (ap number (sym f) ∙ rolls-Number m) (one_number o n))

pub binary_number : (o : ℕ) (a b : Tree) (n m k : ℕ) → constant a ≡ Some n → constant b ≡ Some m → k ≡ value.binary o n m → Plainer (binary o a b) (tr.Number k)
binary_number o a b n m k e f g =
    from _ _ _ (ap (λ x. binary o x b) (sym (constant_is a n e))) (from _ _ _ (ap (binary o (number n)) (sym (constant_is b m f)))
    (to _ _ _ (ap number (sym g) ∙ rolls-Number k) (two_numbers o n m)))

pub right_number : (o : ℕ) (a b t : Tree) (m : ℕ) → constant b ≡ Some m → Plainer (binary o a (number m)) t → Plainer (binary o a b) t
right_number o a b t m e h = from _ _ _ (ap (binary o a) (sym (constant_is b m e))) h

pub left_number : (o : ℕ) (a b t : Tree) (n : ℕ) → constant a ≡ Some n → Plainer (binary o (number n) b) t → Plainer (binary o a b) t
left_number o a b t n e h = from _ _ _ (ap (λ x. binary o x b) (sym (constant_is a n e))) h

-- of a number at the right
pub keeps_right : (o n : ℕ) (a a' b : Tree) → a' ≡ a → b ≡ tr.Number n → Plainer (binary o a (number n)) (tr.Binary o a' b)
keeps_right o n a a' b e f = stays_binary o a a' (number n) b e (f ∙ sym (rolls-Number n))

pub keeps_left : (o n : ℕ) (b a b' : Tree) → a ≡ tr.Number n → b' ≡ b → Plainer (binary o (number n) b) (tr.Binary o a b')
keeps_left o n b a b' e f = stays_binary o (number n) a b b' (e ∙ sym (rolls-Number n)) f

pub as_shift : (a a' b : Tree) (n k : ℕ) → k < 32 → n ≡ 2 ^ k → a' ≡ a → b ≡ tr.Number k →
    Plainer (binary operator.mul a (number n)) (tr.Binary operator.shift_left a' b)
as_shift a a' b n k lt e f g =
    from _ _ _ (ap (λ m. binary operator.mul a (number m)) (sym e)) (after _ _ _ (shifted k a lt) (keeps_right operator.shift_left k a a' b f g))

pub by_turning : (o n : ℕ) (a t : Tree) → commutes o ≡ true → Plainer (binary o a (number n)) t → Plainer (binary o (number n) a) t
by_turning o n a t e h = after _ _ _ (turned o n a e) h

pub asked_zero : (o n : ℕ) (a : Tree) → o ≡ operator.not_equal → n ≡ 0 → is_truth a ≡ true → Plainer (binary o a (number n)) a
asked_zero o n a e f h = from _ _ _ (ap (λ p. binary p a (number 0)) (sym e) ∙ ap (λ m. binary o a (number m)) (sym f)) (asked a h)

pub denied_zero : (o n : ℕ) (a t : Tree) → o ≡ operator.equal → n ≡ 0 → Plainer (unary operator.logical_not a) t → Plainer (binary o a (number n)) t
denied_zero o n a t e f h = from _ _ _ (ap (λ p. binary p a (number 0)) (sym e) ∙ ap (λ m. binary o a (number m)) (sym f)) (after _ _ _ (denied a) h)

-- of a logical not
pub not_twice : (t : Tree) (o : ℕ) (a b : Tree) → t ≡ tr.Unary o a → o ≡ operator.logical_not → is_truth a ≡ true → b ≡ a →
    Plainer (unary operator.logical_not t) b
not_twice t o a b s e h f =
    let is = ap (λ p. unary operator.logical_not (unary p a)) (sym e) ∙ ap (unary operator.logical_not) (rolls-Unary o a ∙ sym s) in
    from _ _ _ is (to _ _ _ (sym f) (twice a h))

pub not_compared : (t : Tree) (o p : ℕ) (a b : Tree) → t ≡ tr.Binary o a b → Plainer (unary operator.logical_not (binary o a b)) (binary p a b) →
    Plainer (unary operator.logical_not t) (tr.Binary p a b)
not_compared t o p a b s h = from _ _ _ (ap (unary operator.logical_not) (rolls-Binary o a b ∙ sym s)) (to _ _ _ (rolls-Binary p a b) h)

pub not_equal_is : (o : ℕ) (a b : Tree) → o ≡ operator.equal → Plainer (unary operator.logical_not (binary o a b)) (binary operator.not_equal a b)
not_equal_is o a b e = from _ _ _ (ap (λ p. unary operator.logical_not (binary p a b)) (sym e)) (unequal a b)

pub equal_is : (o : ℕ) (a b : Tree) → o ≡ operator.not_equal → Plainer (unary operator.logical_not (binary o a b)) (binary operator.equal a b)
equal_is o a b e = from _ _ _ (ap (λ p. unary operator.logical_not (binary p a b)) (sym e)) (equal a b)

-- ---- parts

pub through_unary : (s : Tree) (o : ℕ) (a b t : Tree) → s ≡ tr.Unary o a → Plainer a b → Plainer (unary o b) t → Plainer s t
through_unary s o a b t e h k = from _ _ _ (rolls-Unary o a ∙ sym e) (after _ _ _ (in_unary o a b h) k)

pub through_binary : (s : Tree) (o : ℕ) (a a' b b' t : Tree) → s ≡ tr.Binary o a b → Plainer a a' → Plainer b b' → Plainer (binary o a' b') t → Plainer s t
through_binary s o a a' b b' t e h k l = from _ _ _ (rolls-Binary o a b ∙ sym e) (after _ _ _ (in_binary o a a' b b' h k) l)

pub through_narrow : (s : Tree) (k : Kind) (a b t : Tree) → s ≡ tr.Narrow k a → Plainer a b → Plainer (narrow k b) t → Plainer s t
through_narrow s k a b t e h l = from _ _ _ (rolls-Narrow k a ∙ sym e) (after _ _ _ (in_narrow k a b h) l)
