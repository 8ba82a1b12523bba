-- That the locals that an expression names are declared comes from its parts.
use Rattle.std.proofs.Common.{◌≡◌, ℕ, Bool, true, refl}
use Rattle.std.proofs.lemmas.Bool.{and_from}
use Rattle.mv_ast.specs.declared.program.CType.{CType}
use Rattle.mv_ast.specs.declared.program.Expr.{Expr}
use Rattle.mv_ast.specs.declared.program.Form.TheOpen as open_form
use Rattle.mv_ast.specs.declared.program.Target.TheVariants.{outs-Global, outs-Local, outs-GlobalAt, outs-LocalAt}
use Rattle.mv_check_scope.specs.declared.meaning.Meaning.TheVariants as meaning
use Rattle.mv_check_scope.specs.declared.meaning.Storage.{Storage}
use Rattle.mv_check_scope.specs.declared.meaning.Storage.TheVariants as storage
use Rattle.mv_check_scope.specs.declared.scope.Scope.{Scope}
use Rattle.mv_syntax.specs.declared.unit.Node.{Node}
use Rattle.mv_check_scope.specs.Conversions.{converted_to}
use Rattle.mv_check_expressions.specs.Judgements.{value_judgement, effect_judgement}
use Rattle.mv_accepts.proofs.OfStatements.Judging.{IfGood}
use Rattle.mv_accepts.proofs.OfBodies.ExprJudged.{value_kept, effect_kept}
use Rattle.mv_check_expressions.specs.Seen.{object_at, element_at}
use Rattle.mv_source_forms.specs.Scopes.{form_in, target_in, names_declared, target_names_declared}
use Rattle.mv_accepts.specs.Bodies.Declared.{IsIn, Covers}
use Rattle.mv_accepts.proofs.OfBodies.Tests.{all_tested}
use Rattle.mv_accepts.proofs.OfBodies.TestedForms.{by_target, converted_tested, tested}
use Rattle.mv_accepts.proofs.OfBodies.ExprProperty.{ExprProperty}

module _ (scope : ℕ → Bool) where
  object_declared : (s : Storage) → IsIn scope s → target_names_declared scope (object_at s) ≡ true
  object_declared (storage.Global g) h = by_target form_in (target_in scope) _ (open_form.Global g) (outs-Global g) refl
  object_declared (storage.Local l) h = by_target form_in (target_in scope) _ (open_form.Local l) (outs-Local l) h

  element_declared : (s : Storage) (i : Expr) → IsIn scope s → names_declared scope i ≡ true → target_names_declared scope (element_at s i) ≡ true
  element_declared (storage.Global g) i h k = by_target form_in (target_in scope) _ (open_form.GlobalAt g i) (outs-GlobalAt g i) k
  element_declared (storage.Local l) i h k =
      by_target form_in (target_in scope) _ (open_form.LocalAt l i) (outs-LocalAt l i) (and_from (scope l) (names_declared scope i) h k)

  abbrev declaring : (s : Scope) → Covers scope s → ExprProperty
  declaring s covers =
      tested form_in (target_in scope) (λ z q h. h) s
      (λ name v q. object_declared v.storage (covers name (meaning.Object v) q))
      (λ name a i q h. element_declared a.storage i (covers name (meaning.Array a) q) h)
      (λ k n args names order count h. all_tested (names_declared scope) args h)

  pub converted_declared : (t : CType) (e : Expr) → names_declared scope e ≡ true → names_declared scope (converted_to t e) ≡ true
  converted_declared = converted_tested form_in (target_in scope) (λ z q h. h)

  pub value_declared : (s : Scope) → Covers scope s → (n : Node) → IfGood (value_judgement s n) (λ e. names_declared scope e ≡ true)
  value_declared s covers n = value_kept (declaring s covers) n

  pub effect_declared : (s : Scope) → Covers scope s → (n : Node) → IfGood (effect_judgement s n) (λ e. names_declared scope e ≡ true)
  effect_declared s covers n = effect_kept (declaring s covers) n
