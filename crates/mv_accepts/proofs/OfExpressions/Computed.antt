-- What is computed of a constant is what it comes to.
use Rattle.std.proofs.Common.{◌≡◌, ℕ, ◌⊎◌, inl, inr, Bool, true, false, not, refl, sym, ◌∙◌, ap, subst, Option, Some, None, if◌then◌else◌, nat_eq}
use Rattle.mv_ast.specs.declared.program.CType.{CType}
use Rattle.mv_ast.specs.declared.program.Program.{Program}
use Rattle.mv_ast.specs.declared.program.Expr.{Expr, Expr-F, roll-Expr, map-Expr, ind-Expr, fold_out-Expr}
use Rattle.mv_ast.specs.declared.program.Form.{Form, Form-F, roll-Form, out-Form, out-roll-Form, map-Form, fold-Form, fold_out-Form}
use Rattle.mv_ast.specs.declared.program.Form.TheOpen as form
use Rattle.mv_ast.specs.declared.program.Target.{Target, Target-F, roll-Target, map-Target, fold-Target}
use Rattle.mv_ast.specs.Operators.{unary_value, binary_value, converted}
use Rattle.mv_num.specs.Words.{as_word}
use Rattle.mv_check_scope.specs.Constants.{Evaluated, of_one, of_two, by_test, truth, value_form, value_target, value_expr, evaluated, computed}
use Rattle.mv_check_scope.proofs.Types.{type_of}
use Rattle.mv_meaning.specs.Meaning.{truth_of}
use Rattle.mv_source_forms.specs.Typing.{ComesTo}
use Rattle.mv_meaning_numbering.proofs.Constants.{comes_number, comes_unary, comes_convert, comes_binary, comes_no, comes_yes, comes_both, comes_either, comes_first, comes_second}

-- ---- what a computed value comes from

pub from_one : (r : Option ℕ) (f : ℕ → ℕ) (v : ℕ) → of_one r f ≡ Some v → (u : ℕ) × (r ≡ Some u) × (f u ≡ v)
from_one None f v h = absurd (cc)
from_one (Some u) f v h = (u, refl, cc)

from_two : (r s : Option ℕ) (f : ℕ → ℕ → Option ℕ) (v : ℕ) → of_two r s f ≡ Some v → (x : ℕ) × (y : ℕ) × (r ≡ Some x) × (s ≡ Some y) × (f x y ≡ Some v)
from_two None s f v h = absurd (cc)
from_two (Some x) None f v h = absurd (cc)
from_two (Some x) (Some y) f v h = (x, y, refl, refl, h)

-- which of two a test took
abbrev Took : Option ℕ → Option ℕ → ℕ → ℕ → Type 0
Took s t v x = ((nat_eq x 0 ≡ false) × (s ≡ Some v)) ⊎ ((nat_eq x 0 ≡ true) × (t ≡ Some v))

from_test : (r s t : Option ℕ) (v : ℕ) → by_test r s t ≡ Some v → (x : ℕ) × (r ≡ Some x) × Took s t v x
from_test None s t v h = absurd (cc)
from_test (Some x) s t v h = (x, refl, by (nat_eq x 0) refl h)
  where
    by : (b : Bool) → nat_eq x 0 ≡ b → (if b then t else s) ≡ Some v → Took s t v x
    by true q g = inr (q, g)
    by false q g = inl (q, g)

truth_is : (n : ℕ) → as_word (not (nat_eq n 0)) ≡ truth_of n
truth_is n = by (nat_eq n 0)
  where
    by : (b : Bool) → as_word (not b) ≡ (if b then 0 else 1)
    by true = refl
    by false = refl

-- ---- the equations of computing

abbrev pub layer_of : Form-F Form Target Expr → Form-F (CType → Option ℕ) (Unit {0}) Evaluated
layer_of = map-Form Form Target Expr (CType → Option ℕ) (Unit {0}) Evaluated
    (fold-Form (CType → Option ℕ) (Unit {0}) Evaluated value_form value_target value_expr)
    (fold-Target (CType → Option ℕ) (Unit {0}) Evaluated value_form value_target value_expr) evaluated

pub computed_is : (e : Expr) (z : Form-F Form Target Expr) → out-Form e.what ≡ z → computed e ≡ value_form (layer_of z) e.ctype
computed_is e z h =
    ap (λ s. s.value) (fold_out-Expr (CType → Option ℕ) (Unit {0}) Evaluated value_form value_target value_expr e) ∙
    (ap (λ g. g e.ctype) (fold_out-Form (CType → Option ℕ) (Unit {0}) Evaluated value_form value_target value_expr e.what) ∙
    ap (λ y. value_form (layer_of y) e.ctype) h)

-- ---- by induction over the expression

module _ (p : Program) where
  abbrev ExprComes : Expr → Type 0
  ExprComes e = (v : ℕ) → computed e ≡ Some v → ComesTo p e v

  abbrev FormComes : Form → Type 0
  FormComes x = (e : Expr) → e.what ≡ x → ExprComes e

  abbrev TargetComes : Target → Type 0
  TargetComes t = Unit {0}

  abbrev F : Type 0
  F = (x : Form) × FormComes x

  abbrev T : Type 0
  T = (x : Target) × TargetComes x

  abbrev E : Type 0
  E = (x : Expr) × ExprComes x

  abbrev below : Form-F F T E → Form-F Form Target Expr
  below = map-Form F T E Form Target Expr (λ a. a.0) (λ a. a.0) (λ a. a.0)

  module _ (e : Expr) (v : ℕ) where
    no_value : (z : Form-F Form Target Expr) → out-Form e.what ≡ z → value_form (layer_of z) e.ctype ≡ None → computed e ≡ Some v → ComesTo p e v
    no_value z o n h = absurd (let q : None ≡ Some v = sym (computed_is e z o ∙ n) ∙ h in cc)

    unary : (op : ℕ) (a : Expr) → out-Form e.what ≡ form.Unary op a → ExprComes a → computed e ≡ Some v → ComesTo p e v
    unary op a o k h =
        let s = from_one (computed a) (unary_value op) v (sym (computed_is e (form.Unary op a) o) ∙ h) in
        subst (λ x. ComesTo p e x) s.2 (comes_unary p e op a s.0 o (k s.0 s.1))

    convert : (a : Expr) → out-Form e.what ≡ form.Convert a → ExprComes a → computed e ≡ Some v → ComesTo p e v
    convert a o k h =
        let s = from_one (computed a) (converted e.ctype) v (sym (computed_is e (form.Convert a) o) ∙ h) in
        subst (λ x. ComesTo p e x) s.2 (comes_convert p e a s.0 o (k s.0 s.1))

    binary : (op : ℕ) (a b : Expr) → out-Form e.what ≡ form.Binary op a b → ExprComes a → ExprComes b → computed e ≡ Some v → ComesTo p e v
    binary op a b o k l h =
        let s = from_two (computed a) (computed b) (binary_value op (evaluated a).ctype) v (sym (computed_is e (form.Binary op a b) o) ∙ h) in
        comes_binary p e op a b s.0 s.1 v o (k s.0 s.2) (l s.1 s.3) (ap (λ t. binary_value op t s.0 s.1) (sym (type_of a)) ∙ s.4)

    both : (a b : Expr) → out-Form e.what ≡ form.Both a b → ExprComes a → ExprComes b → computed e ≡ Some v → ComesTo p e v
    both a b o k l h =
        let s = from_test (computed a) (truth (computed b)) (Some 0) v (sym (computed_is e (form.Both a b) o) ∙ h) in
        elim s.2 [
          | inl t ↦
              let u = from_one (computed b) (λ n. as_word (not (nat_eq n 0))) v t.1 in
              subst (λ x. ComesTo p e x) (sym (truth_is u.0) ∙ u.2) (comes_both p e a b s.0 u.0 o (k s.0 s.1) (l u.0 u.1) t.0)
          | inr t ↦ let q : 0 ≡ v = cc (t.1) in subst (λ x. ComesTo p e x) q (comes_no p e a b s.0 o (k s.0 s.1) t.0)
        ]

    either : (a b : Expr) → out-Form e.what ≡ form.Either a b → ExprComes a → ExprComes b → computed e ≡ Some v → ComesTo p e v
    either a b o k l h =
        let s = from_test (computed a) (Some 1) (truth (computed b)) v (sym (computed_is e (form.Either a b) o) ∙ h) in
        elim s.2 [
          | inl t ↦ let q : 1 ≡ v = cc (t.1) in subst (λ x. ComesTo p e x) q (comes_yes p e a b s.0 o (k s.0 s.1) t.0)
          | inr t ↦
              let u = from_one (computed b) (λ n. as_word (not (nat_eq n 0))) v t.1 in
              subst (λ x. ComesTo p e x) (sym (truth_is u.0) ∙ u.2) (comes_either p e a b s.0 u.0 o (k s.0 s.1) (l u.0 u.1) t.0)
        ]

    choose : (c a b : Expr) → out-Form e.what ≡ form.Choose c a b → ExprComes c → ExprComes a → ExprComes b → computed e ≡ Some v → ComesTo p e v
    choose c a b o j k l h =
        let s = from_test (computed c) (computed a) (computed b) v (sym (computed_is e (form.Choose c a b) o) ∙ h) in
        elim s.2 [
          | inl t ↦ comes_first p e c a b s.0 v o (j s.0 s.1) (k v t.1) t.0
          | inr t ↦ comes_second p e c a b s.0 v o (j s.0 s.1) (l v t.1) t.0
        ]

  by_form : (y : Form-F F T E) (e : Expr) → out-Form e.what ≡ below y → ExprComes e
  by_form (form.Number n) e o v h =
      let q : n ≡ v = let q : Some n ≡ Some v = sym (computed_is e (form.Number n) o) ∙ h in cc in
      subst (λ x. ComesTo p e x) q (comes_number p e n o)
  by_form (form.Unary op a) e o v h = unary e v op a.0 o a.1 h
  by_form (form.Binary op a b) e o v h = binary e v op a.0 b.0 o a.1 b.1 h
  by_form (form.Both a b) e o v h = both e v a.0 b.0 o a.1 b.1 h
  by_form (form.Either a b) e o v h = either e v a.0 b.0 o a.1 b.1 h
  by_form (form.Choose c a b) e o v h = choose e v c.0 a.0 b.0 o c.1 a.1 b.1 h
  by_form (form.Convert a) e o v h = convert e v a.0 o a.1 h
  by_form x e o v h = no_value e v _ o refl h

  form_case : (x : Form-F Form Target Expr) (y : Form-F F T E) → below y ≡ x → FormComes (roll-Form x)
  form_case x y q e w = by_form y e (ap out-Form w ∙ (out-roll-Form x ∙ sym q))

  target_case : (x : Target-F Form Target Expr) (y : Target-F F T E) → map-Target F T E Form Target Expr (λ a. a.0) (λ a. a.0) (λ a. a.0) y ≡ x → TargetComes (roll-Target x)
  target_case x y q = tt

  expr_case : (x : Expr-F Form Target Expr) (y : Expr-F F T E) → map-Expr F T E Form Target Expr (λ a. a.0) (λ a. a.0) (λ a. a.0) y ≡ x → ExprComes (roll-Expr x)
  expr_case x y q = y.what.1 (roll-Expr x) (ap (λ (z : Expr-F Form Target Expr). z.what) (sym q))

  pub comes : (e : Expr) (v : ℕ) → computed e ≡ Some v → ComesTo p e v
  comes e = ind-Expr FormComes TargetComes ExprComes form_case target_case expr_case e
