-- That known functions are called with their arguments comes from the parts of an expression.
use Rattle.std.proofs.Common.{◌≡◌, ℕ, ◌+◌, inl, inr, Bool, true, false, refl, ◌∙◌, List, map, length, nat_eq, nat_lt}
use Rattle.std.proofs.lemmas.Bool.{and_from, eq-eqb}
use Rattle.std.proofs.lemmas.List.{length-map}
use Rattle.mv_ast.specs.declared.program.CType.{CType}
use Rattle.mv_ast.specs.declared.program.Program.{Program}
use Rattle.mv_ast.specs.declared.program.Function.{Function}
use Rattle.mv_ast.specs.declared.program.Known.{Known}
use Rattle.mv_ast.specs.declared.program.Known.TheVariants.{Getchar, Putchar, Poll, Plan}
use Rattle.mv_ast.specs.declared.program.Expr.{Expr}
use Rattle.mv_ast.specs.declared.program.Form.{Form-F}
use Rattle.mv_ast.specs.declared.program.Form.TheOpen as open_form
use Rattle.mv_ast.specs.declared.program.Target.TheVariants.{outs-Global, outs-Local, outs-GlobalAt, outs-LocalAt}
use Rattle.mv_ast.specs.Switches.{attributed_functions}
use Rattle.mv_check_scope.specs.declared.meaning.Meaning.TheVariants as meaning
use Rattle.mv_check_scope.specs.declared.meaning.Storage.{Storage}
use Rattle.mv_check_scope.specs.declared.meaning.Storage.TheVariants as storage
use Rattle.mv_check_scope.specs.declared.scope.Scope.{Scope}
use Rattle.mv_syntax.specs.declared.unit.Node.{Node}
use Rattle.mv_check_scope.specs.Conversions.{converted_to}
use Rattle.mv_check_expressions.specs.Judgements.{value_judgement, effect_judgement}
use Rattle.mv_accepts.proofs.OfStatements.Judging.{IfGood}
use Rattle.mv_accepts.proofs.OfBodies.ExprJudged.{value_kept, effect_kept}
use Rattle.mv_check_expressions.specs.Seen.{object_at, element_at}
use Rattle.mv_check_expressions.specs.Calls.{known_params, with_index}
use Rattle.mv_source_forms.specs.Scopes.{form_in}
use Rattle.mv_source_forms.specs.Uses.{known_parameters, order_is_there, known_is_there, form_calls_known, target_in_parts, calls_known, target_calls_known}
use Rattle.mv_accepts.specs.Bodies.Formed.{AreShaped}
use Rattle.mv_accepts.proofs.OfBodies.Tests.{all_tested, one_tested}
use Rattle.mv_accepts.proofs.OfBodies.TestedForms.{is_known_call, by_target, converted_tested, tested}
use Rattle.mv_accepts.proofs.OfBodies.ExprProperty.{NamesKnown, IsPlanned, IsOrder, ExprProperty}

module _ (p : Program) where
  -- a form asks its parts alone, but for the call of a known function
  asks_parts : (z : Form-F Bool Bool Bool) → is_known_call z ≡ false → form_in z ≡ true → form_calls_known p z ≡ true
  asks_parts (open_form.Known k args) q h = absurd (cc)
  asks_parts z q h = h

  object_known : (s : Storage) → target_calls_known p (object_at s) ≡ true
  object_known (storage.Global g) = by_target (form_calls_known p) target_in_parts _ (open_form.Global g) (outs-Global g) refl
  object_known (storage.Local l) = by_target (form_calls_known p) target_in_parts _ (open_form.Local l) (outs-Local l) refl

  element_known : (s : Storage) (i : Expr) → calls_known p i ≡ true → target_calls_known p (element_at s i) ≡ true
  element_known (storage.Global g) i h = by_target (form_calls_known p) target_in_parts _ (open_form.GlobalAt g i) (outs-GlobalAt g i) (one_tested (calls_known p i) h)
  element_known (storage.Local l) i h = by_target (form_calls_known p) target_in_parts _ (open_form.LocalAt l i) (outs-LocalAt l i) (one_tested (calls_known p i) h)

  -- ---- orders

  module _ (own : ℕ) (f : Function) (s : Scope) (shaped : AreShaped p own f s) where
    planned_there : (code n : ℕ) → nat_lt code 6 ≡ true → IsPlanned s code n → order_is_there p code n ≡ true
    planned_there code n six (inl q) = rw q refl
    planned_there code n six (inr (inl h)) =
        let there : nat_lt n (length (attributed_functions p)) ≡ true = shaped h.2.0 (meaning.Function h.2.1) h.2.3 h.2.2 n h.2.4 h.2.5 in
        rw (h.0, h.1) there
    planned_there code n six (inr (inr h)) =
        let among : nat_lt n (length p.switches + length p.pointers) ≡ true = (shaped h.2.0 (meaning.Object h.2.1) h.2.2).1 n h.2.3 in
        rw (h.0, h.1) (and_from (nat_lt code 6) (nat_lt n (length p.switches + length p.pointers)) six among)

    call_there : (k : Known) (n : ℕ) → NamesKnown s k → IsOrder s k n → known_is_there p (with_index k n) ≡ true
    call_there (Plan code unknown) n h o = planned_there code n (shaped h.0 (meaning.Known (Plan code unknown)) h.1) o
    call_there Getchar n h o = refl
    call_there Putchar n h o = refl
    call_there Poll n h o = refl

    count_there : (k : Known) (n : ℕ) (es : List Expr) → length es ≡ length (known_params k) → nat_eq (length (map (calls_known p) es)) (known_parameters (with_index k n)) ≡ true
    count_there (Plan code unknown) n es h = eq-eqb _ _ (length-map es (calls_known p) ∙ h)
    count_there Getchar n es h = eq-eqb _ _ (length-map es (calls_known p) ∙ h)
    count_there Putchar n es h = eq-eqb _ _ (length-map es (calls_known p) ∙ h)
    count_there Poll n es h = eq-eqb _ _ (length-map es (calls_known p) ∙ h)

    abbrev calling : ExprProperty
    calling =
        tested (form_calls_known p) target_in_parts asks_parts s
        (λ name v q. object_known v.storage) (λ name a i q h. element_known a.storage i h)
        (λ k n args names order count h. and_from _ _ (call_there k n names order) (and_from _ _ (count_there k n args count) (all_tested (calls_known p) args h)))

  pub converted_known : (t : CType) (e : Expr) → calls_known p e ≡ true → calls_known p (converted_to t e) ≡ true
  converted_known = converted_tested (form_calls_known p) target_in_parts asks_parts

  pub value_known : (own : ℕ) (f : Function) (s : Scope) → AreShaped p own f s → (n : Node) → IfGood (value_judgement s n) (λ e. calls_known p e ≡ true)
  value_known own f s shaped n = value_kept (calling own f s shaped) n

  pub effect_known : (own : ℕ) (f : Function) (s : Scope) → AreShaped p own f s → (n : Node) → IfGood (effect_judgement s n) (λ e. calls_known p e ≡ true)
  effect_known own f s shaped n = effect_kept (calling own f s shaped) n
