-- A test of expressions that asks of a form no more than its parts, but of the call of a known function.
use Rattle.std.proofs.Common.{◌≡◌, ℕ, Bool, true, false, refl, ◌∙◌, ap, if◌then◌else◌, map, Some, List, length}
use Rattle.std.specs.List.{AllByRecursion}
use Rattle.mv_ast.specs.declared.program.CType.{CType}
use Rattle.mv_ast.specs.declared.program.Expr.{Expr, fold-Expr, fold_out-Expr}
use Rattle.mv_ast.specs.declared.program.Form.{Form, Form-F, map-Form, out-Form, fold-Form, fold_out-Form}
use Rattle.mv_ast.specs.declared.program.Form.TheVariants as form
use Rattle.mv_ast.specs.declared.program.Form.TheVariants.{outs-Number, outs-Read, outs-Function, outs-Unary, outs-Binary, outs-Both, outs-Either, outs-Choose, outs-Convert, outs-Set, outs-Change, outs-After, outs-Direct, outs-Through, outs-Known}
use Rattle.mv_ast.specs.declared.program.Form.TheOpen as open_form
use Rattle.mv_ast.specs.declared.program.Known.{Known}
use Rattle.mv_ast.specs.declared.program.Target.{Target, Target-F, map-Target, out-Target, fold-Target, fold_out-Target}
use Rattle.mv_check_scope.specs.declared.meaning.Elements.{Elements}
use Rattle.mv_check_scope.specs.declared.meaning.Meaning.TheVariants as meaning
use Rattle.mv_check_scope.specs.declared.meaning.Variable.{Variable}
use Rattle.mv_check_scope.specs.declared.scope.Scope.{Scope}
use Rattle.mv_check_scope.specs.Conversions.{same_type, int, typed, converted_to}
use Rattle.mv_check_scope.specs.Scoped.{meaning_of}
use Rattle.mv_check_expressions.specs.Seen.{object_at, element_at}
use Rattle.mv_check_expressions.specs.Calls.{known_params, with_index}
use Rattle.mv_source_forms.specs.Scopes.{form_in, layer_in}
use Rattle.mv_accepts.proofs.OfBodies.Tests.{all_tested, all_last_tested, one_tested, two_tested, three_tested}
use Rattle.mv_accepts.proofs.OfBodies.ExprProperty.{NamesKnown, IsOrder, ExprProperty}

abbrev pub is_known_call : {A B C : Type 0} → Form-F A B C → Bool
is_known_call (open_form.Known k args) = true
is_known_call _ = false

module _ (form_of : Form-F Bool Bool Bool → Bool) (target_of : Target-F Bool Bool Bool → Bool) where
  abbrev pub holds : Expr → Bool
  holds = fold-Expr Bool Bool Bool form_of target_of layer_in

  abbrev pub target_holds : Target → Bool
  target_holds = fold-Target Bool Bool Bool form_of target_of layer_in

  abbrev form_below : Form-F Form Target Expr → Form-F Bool Bool Bool
  form_below = map-Form Form Target Expr Bool Bool Bool (fold-Form Bool Bool Bool form_of target_of layer_in) target_holds holds

  abbrev target_below : Target-F Form Target Expr → Target-F Bool Bool Bool
  target_below = map-Target Form Target Expr Bool Bool Bool (fold-Form Bool Bool Bool form_of target_of layer_in) target_holds holds

  pub by_form : (t : CType) (w : Form) (z : Form-F Form Target Expr) → out-Form w ≡ z → form_of (form_below z) ≡ true → holds (typed t w) ≡ true
  by_form t w z o h =
      fold_out-Expr Bool Bool Bool form_of target_of layer_in (typed t w) ∙
      (fold_out-Form Bool Bool Bool form_of target_of layer_in w ∙ (ap (λ y. form_of (form_below y)) o ∙ h))

  pub by_target : (l : Target) (z : Target-F Form Target Expr) → out-Target l ≡ z → target_of (target_below z) ≡ true → target_holds l ≡ true
  by_target l z o h = fold_out-Target Bool Bool Bool form_of target_of layer_in l ∙ (ap (λ y. target_of (target_below y)) o ∙ h)

  module _ (asks_parts : (z : Form-F Bool Bool Bool) → is_known_call z ≡ false → form_in z ≡ true → form_of z ≡ true) where
    pub by_parts : (t : CType) (w : Form) (z : Form-F Form Target Expr) → out-Form w ≡ z → is_known_call (form_below z) ≡ false → form_in (form_below z) ≡ true →
        holds (typed t w) ≡ true
    by_parts t w z o q h = by_form t w z o (asks_parts (form_below z) q h)

    pub convert_tested : (t : CType) (a : Expr) → holds a ≡ true → holds (typed t (form.Convert a)) ≡ true
    convert_tested t a h = by_parts t (form.Convert a) (open_form.Convert a) (outs-Convert a) refl (one_tested (holds a) h)

    pub converted_tested : (t : CType) (e : Expr) → holds e ≡ true → holds (converted_to t e) ≡ true
    unfolding converted_to
    converted_tested t e h = by (same_type t e.ctype)
      where
        by : (b : Bool) → holds (if b then e else typed t (form.Convert e)) ≡ true
        by true = h
        by false = convert_tested t e h

    module _ (s : Scope)
        (variable : (name : List ℕ) (v : Variable) → meaning_of s name ≡ Some (meaning.Object v) → target_holds (object_at v.storage) ≡ true)
        (element : (name : List ℕ) (a : Elements) (i : Expr) → meaning_of s name ≡ Some (meaning.Array a) → holds i ≡ true → target_holds (element_at a.storage i) ≡ true)
        (call : (k : Known) (n : ℕ) (args : List Expr) → NamesKnown s k → IsOrder s k n → length args ≡ length (known_params k) → AllByRecursion (λ e. holds e ≡ true) args →
        form_of (open_form.Known (with_index k n) (map holds args)) ≡ true) where
      abbrev pub tested : ExprProperty
      tested = record {
        scope = s;
        of_expr = λ e. holds e ≡ true;
        of_target = λ l. target_holds l ≡ true;
        variable = variable;
        element = element;
        number = λ t n. by_parts t (form.Number n) (open_form.Number n) (outs-Number n) refl refl;
        function = λ t g. by_parts t (form.Function g) (open_form.Function g) (outs-Function g) refl refl;
        read = λ t l h. by_parts t (form.Read l) (open_form.Read l) (outs-Read l) refl (one_tested (target_holds l) h);
        unary = λ t op a h. by_parts t (form.Unary op a) (open_form.Unary op a) (outs-Unary op a) refl (one_tested (holds a) h);
        binary = λ t op a b h k. by_parts t (form.Binary op a b) (open_form.Binary op a b) (outs-Binary op a b) refl (two_tested (holds a) (holds b) h k);
        both = λ t a b h k. by_parts t (form.Both a b) (open_form.Both a b) (outs-Both a b) refl (two_tested (holds a) (holds b) h k);
        either = λ t a b h k. by_parts t (form.Either a b) (open_form.Either a b) (outs-Either a b) refl (two_tested (holds a) (holds b) h k);
        choose = λ t c a b g h k. by_parts t (form.Choose c a b) (open_form.Choose c a b) (outs-Choose c a b) refl (three_tested (holds c) (holds a) (holds b) g h k);
        convert = convert_tested;
        assign = λ t l a h k. by_parts t (form.Set l a) (open_form.Set l a) (outs-Set l a) refl (two_tested (target_holds l) (holds a) h k);
        change = λ t op kind l a h k. by_parts t (form.Change op kind l a) (open_form.Change op kind l a) (outs-Change op kind l a) refl (two_tested (target_holds l) (holds a) h k);
        after = λ t up l h. by_parts t (form.After up l) (open_form.After up l) (outs-After up l) refl (one_tested (target_holds l) h);
        direct = λ t g args h. by_parts t (form.Direct g args) (open_form.Direct g args) (outs-Direct g args) refl (all_tested holds args h);
        through = λ t args e h k. by_parts t (form.Through args e) (open_form.Through args e) (outs-Through args e) refl
            (all_last_tested (map holds args) (holds e) (all_tested holds args h) k);
        call = λ k n args names order count h. by_form int (form.Known (with_index k n) args) (open_form.Known (with_index k n) args) (outs-Known (with_index k n) args)
            (call k n args names order count h);
      }
