-- What trees and operators give.
use Rattle.std.proofs.Common.{◌≡◌, ℕ, zero, suc, ◌-◌, ◌^◌, ◌<◌, ◌≤◌, Bool, true, false, not, eqb, bit_and, List, sym, refl, ap, ◌∙◌, arith}
use Rattle.std.specs.Prelude.{slice_index, Result, Ok, Err, IfOk}
use Rattle.std.proofs.lemmas.Bool.Decides.{nat_tests}
use Rattle.mv_num.specs.Words as word
use Rattle.mv_num.specs.Words.{as_word}
use Rattle.mv_num.specs.declared.kind.Kind.{Kind}
use Rattle.mv_ir.specs.declared.tree.Tree.{Tree}
use Rattle.mv_ir.specs.declared.tree.Tree as tr
use Rattle.mv_ir.specs.declared.tree.Tree.TheOpen.{Tree-F}
use Rattle.mv_ir.specs.declared.tree.Tree.TheOpen as tree
use Rattle.mv_ir.specs.declared.tree.Tree.TheVariants.{rolls-Number, rolls-Temp, rolls-Unary, rolls-Binary, rolls-Narrow}
use Rattle.mv_ir.specs.declared.tree.Tree.TheViews.{roll-Tree}
use Rattle.mv_ir.specs.declared.tree.Tree.TheFolds.{map-Tree}
use Rattle.mv_ir.specs.Trees.{unary, binary, Value, tree_value, value}
use Rattle.mv_ir.specs.Outcome.{State}
use Rattle.mv_ir.proofs.Rolls.{value_roll}
use Rattle.mv_ir.proofs.Common.{truth_small, signed_low}
use Rattle.mv_ranges.specs.declared.facts.Fact.{Fact}
use Rattle.mv_ranges.specs.Facts.{AllHold}

-- ---- operators

pub not_le : (x : ℕ) → unary 2 x ≤ 1
unfolding unary
not_le x = truth_small (eqb x 0)

true_word : (b : Bool) → not (eqb (as_word b) 0) ≡ b
true_word true = refl
true_word false = refl

pub true_not : (x : ℕ) → not (eqb (unary 2 x) 0) ≡ eqb x 0
unfolding unary
true_not x = true_word (eqb x 0)

pub and_is : (x y : ℕ) → binary 3 x y ≡ bit_and x y
unfolding binary
and_is x y = refl

-- the operators from number 9 on are tests
test_le : (k x y : ℕ) → binary (suc (suc (suc (suc (suc (suc (suc (suc (suc k))))))))) x y ≤ 1
unfolding binary
test_le zero x y = truth_small (word.lt_s x y)
test_le (suc zero) x y = truth_small (word.lt_u x y)
test_le (suc (suc zero)) x y = truth_small (eqb x y)
test_le (suc (suc (suc zero))) x y = truth_small (not (eqb x y))
test_le (suc (suc (suc (suc k)))) x y = omega arith

pub tested_le : (o x y : ℕ) → 9 ≤ o → binary o x y ≤ 1
tested_le o x y h =
    let k = o - 9 in
    let e : o ≡ suc (suc (suc (suc (suc (suc (suc (suc (suc k)))))))) = omega arith in
    rw e (test_le k x y)

pub ruleset operators = (and_is, tested_le)

-- ---- trees

module _ (numbers : List ℕ) (bound : List (ℕ × ℕ)) (temps : List ℕ) (globals : List (List ℕ)) where
  abbrev of : Tree → ℕ
  of t = value numbers bound t temps globals

  rolled : (x : Tree-F Tree) (t : Tree) → roll-Tree x ≡ t → of t ≡ tree_value numbers bound (map-Tree Tree Value (value numbers bound) x) temps globals
  rolled x t e = ap of (sym e) ∙ ap (λ v. v temps globals) (value_roll numbers bound x)

  pub value_number : (n : ℕ) → value numbers bound (tr.Number n) temps globals ≡ n
  value_number n = rolled (tree.Number n) (tr.Number n) (rolls-Number n)

  pub value_temp : (t : ℕ) → value numbers bound (tr.Temp t) temps globals ≡ slice_index temps t
  value_temp t = rolled (tree.Temp t) (tr.Temp t) (rolls-Temp t)

  pub value_unary : (o : ℕ) (a : Tree) → value numbers bound (tr.Unary o a) temps globals ≡ unary o (of a)
  value_unary o a = rolled (tree.Unary o a) (tr.Unary o a) (rolls-Unary o a)

  pub value_binary : (o : ℕ) (a b : Tree) → value numbers bound (tr.Binary o a b) temps globals ≡ binary o (of a) (of b)
  value_binary o a b = rolled (tree.Binary o a b) (tr.Binary o a b) (rolls-Binary o a b)

  pub value_narrow : (k : Kind) (a : Tree) → value numbers bound (tr.Narrow k a) temps globals ≡ word.narrow k (of a)
  value_narrow k a = rolled (tree.Narrow k a) (tr.Narrow k a) (rolls-Narrow k a)

pub ruleset values = (value_number, value_temp, value_unary, value_binary, value_narrow, not_le, true_not)

-- ---- comparisons

pub less_unsigned : (x y : ℕ) → not (eqb (binary 10 x y) 0) ≡ true → x < y
unfolding binary word.lt_u
less_unsigned x y e = let f = sym (true_word (word.lt_u x y)) ∙ e in grind (arith, nat_tests)

pub less_unsigned_not : (x y : ℕ) → not (eqb (binary 10 x y) 0) ≡ false → y ≤ x
unfolding binary word.lt_u
less_unsigned_not x y e = let f = sym (true_word (word.lt_u x y)) ∙ e in grind (arith, nat_tests)

-- signed numbers below 2 ^ 31 have the order of numbers without signs
less_plain : (x y : ℕ) → x < 2 ^ 31 → y < 2 ^ 31 → word.lt_s x y ≡ word.lt_u x y
unfolding word.lt_s word.lt_u
less_plain x y p q = rw (signed_low x p, signed_low y q) refl

signed_as_unsigned : (x y : ℕ) → x < 2 ^ 31 → y < 2 ^ 31 → binary 9 x y ≡ binary 10 x y
unfolding binary
signed_as_unsigned x y p q = ap as_word (less_plain x y p q)

pub less_signed : (x y : ℕ) → x < 2 ^ 31 → y < 2 ^ 31 → not (eqb (binary 9 x y) 0) ≡ true → x < y
less_signed x y p q e = less_unsigned x y (sym (ap (λ v. not (eqb v 0)) (signed_as_unsigned x y p q)) ∙ e)

pub less_signed_not : (x y : ℕ) → x < 2 ^ 31 → y < 2 ^ 31 → not (eqb (binary 9 x y) 0) ≡ false → y ≤ x
less_signed_not x y p q e = less_unsigned_not x y (sym (ap (λ v. not (eqb v 0)) (signed_as_unsigned x y p q)) ∙ e)

pub equal_true : (x y : ℕ) → not (eqb (binary 11 x y) 0) ≡ true → x ≡ y
unfolding binary
equal_true x y e = let f = sym (true_word (eqb x y)) ∙ e in grind (arith, nat_tests)

pub not_equal_false : (x y : ℕ) → not (eqb (binary 12 x y) 0) ≡ false → x ≡ y
unfolding binary
not_equal_false x y e = let f = sym (true_word (not (eqb x y))) ∙ e in grind (arith, nat_tests)

pub ruleset comparisons = (less_unsigned, less_unsigned_not, less_signed, less_signed_not, equal_true, not_equal_false)

-- ---- what is known where what one step gave is the ground of another

pub then_known : {E : Type 0} (r : Result (List Fact) E) (facts facts' : List Fact) (P Q : List ℕ → List (ℕ × ℕ) → State → Type 0) →
    IfOk r (λ more. (numbers : List ℕ) (bound : List (ℕ × ℕ)) (s : State) → AllHold s facts' → Q numbers bound s → AllHold s more) →
    ((numbers : List ℕ) (bound : List (ℕ × ℕ)) (s : State) → AllHold s facts → P numbers bound s → AllHold s facts' × Q numbers bound s) →
    IfOk r (λ more. (numbers : List ℕ) (bound : List (ℕ × ℕ)) (s : State) → AllHold s facts → P numbers bound s → AllHold s more)
then_known (Ok more) facts facts' P Q h k = λ numbers bound s a p. let b = k numbers bound s a p in h numbers bound s b.0 b.1
then_known (Err e) facts facts' P Q h k = tt
