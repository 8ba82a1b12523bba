-- To be well typed is a property of statements that comes from their parts: so the bodies of functions that keep the rules are well typed.
use Rattle.std.proofs.Common.{◌≡◌, false, refl, List, [], length, Option, Some, None}
use Rattle.std.specs.List.{AllByRecursion}
use Rattle.std.proofs.lemmas.List.Elements.{All-from_recursion}
use Rattle.mv_ast.specs.declared.program.CType.{CType}
use Rattle.mv_ast.specs.declared.program.Program.{Program}
use Rattle.mv_ast.specs.declared.program.Function.{Function}
use Rattle.mv_ast.specs.declared.program.Local.{Local}
use Rattle.mv_ast.specs.declared.program.Expr.{Expr}
use Rattle.mv_ast.specs.declared.program.Stmt.{Stmt}
use Rattle.mv_syntax.specs.declared.unit.Line.{Line}
use Rattle.mv_syntax.specs.declared.unit.Param.{Param}
use Rattle.mv_ast.specs.declared.program.CType.TheVariants.{Void}
use Rattle.mv_check_declarations.specs.Parameters.{parameters_judgement}
use Rattle.mv_accepts.proofs.OfStatements.Parameters.{Adds, parameters_lead, parameters_add}
use Rattle.mv_check_scope.specs.declared.scope.Scope.{Scope}
use Rattle.mv_check_expressions.specs.Judged.{Good}
use Rattle.mv_check_expressions.specs.Judgements.{value_judgement, effect_judgement}
use Rattle.mv_source_forms.specs.Typing.{IsTypedExpr, IsTypedAt, IsTypedOption, IsTypedStmt}
use Rattle.mv_accepts.specs.Expressions.Soundness.{Fits, GoodIsTyped, EffectIsTyped}
use Rattle.mv_accepts.proofs.OfExpressions.Types.{integer_is}
use Rattle.mv_check_statements.specs.SwitchBodies.{arms_of}
use Rattle.mv_accepts.proofs.OfStatements.SwitchBodies.{BodiesHave, arms_have, label_leaves, statement_has}
use Rattle.mv_check_statements.specs.Statements.{body_judgement}
use Rattle.mv_accepts.specs.Statements.Bodies.{Keeps, Grows, IsTypedBehind, AddsScalars, AreParameters}
use Rattle.mv_accepts.proofs.OfStatements.Judging.{of_good, by_good}
use Rattle.mv_accepts.proofs.OfStatements.Property.{OfOption, Property, passage}
use Rattle.mv_accepts.proofs.OfStatements.Conversions.{converted_at, promoted_at}
use Rattle.mv_accepts.proofs.OfStatements.Values.{initials_have}
use Rattle.mv_accepts.proofs.OfStatements.Made.{block_made, clear_made, express_made, if_made, while_made, do_made, for_made, break_made, continue_made, return_made, switch_made}
use Rattle.mv_accepts.proofs.OfStatements.Bodies.{body_leads, body_has}
use Rattle.mv_accepts.proofs.OfStatements.Leading.{Leads}
use Rattle.mv_accepts.proofs.OfStatements.Lists.{mapped_there}

module _ (p : Program) (f : Function) where
  -- ---- the property

  option_typed : (o : Option Expr) → OfOption (IsTypedExpr p f) o → IsTypedOption p f o
  option_typed None h = tt
  option_typed (Some e) h = h

  module _ (values : GoodIsTyped) (effects : EffectIsTyped) where
    abbrev typed : Property
    typed = record {
      program = p;
      function = f;
      of_name = λ m. Unit {0};
      of_value = IsTypedExpr p f;
      of_values = λ l es. AllByRecursion (IsTypedAt p f l.ctype) es;
      of_stmt = λ b c s. IsTypedStmt p f s;
      of_arms = λ c y. BodiesHave (IsTypedStmt p f) y;
      enumerator = λ v. tt;
      scalar_local = λ n t fixed h. tt;
      array_local = λ n t size fixed h. tt;
      value = λ s k e. by_good (IsTypedExpr p f) (value_judgement s e) (λ y q. values p f s e y k.fits q);
      effect = λ s k e. by_good (IsTypedExpr p f) (effect_judgement s e) (λ y q. effects p f s e y k.fits q);
      initials = λ s k d taken l.
          initials_have s (IsTypedExpr p f) (λ e. by_good (IsTypedExpr p f) (value_judgement s e) (λ y q. values p f s e y k.fits q)) (IsTypedAt p f) (converted_at p f) d taken l;
      block_form = λ b c ss h. block_made p f ss h;
      clear_form = λ b c n l es there h. clear_made p f n l.ctype es (mapped_there (λ (k : Local). k.ctype) f.locals n l there) h;
      express_form = λ b c e h. express_made p f e h;
      if_form = λ b c e ss ts h i j. if_made p f e ss ts h i j;
      while_form = λ b c e ss h i. while_made p f e ss h i;
      do_form = λ b c ss e h i. do_made p f ss e h i;
      for_form = λ b c first test step ss h i j k. for_made p f first test step ss h (option_typed test i) (option_typed step j) k;
      break_form = λ c. break_made p f;
      continue_form = λ b. continue_made p f;
      nothing_form = λ b c q. return_made p f None tt;
      return_form = λ b c e q k h. return_made p f (Some _) (converted_at p f f.result e h k);
      switch_form = λ b c e y q h k. let i = promoted_at p f e h (integer_is e.ctype q) in switch_made p f _ (arms_of y) i.0 i.1 (arms_have (IsTypedStmt p f) y k);
      no_arm_form = λ c. (tt, tt);
      case_form = λ c v y h. label_leaves (IsTypedStmt p f) y h;
      default_form = λ c y q h. label_leaves (IsTypedStmt p f) y h;
      statement_form = λ c s y h k. statement_has (IsTypedStmt p f) s y h k;
    }

    pub body_typed : (body : Line) (s u : Scope) (ss : List Stmt) → body_judgement f.result body s ≡ Good (u, ss) →
        Keeps u.signatures p.signatures → Keeps u.locals f.locals → Fits p f s → IsTypedBehind p f u ss
    body_typed body s u ss q signatures locals fits =
        let y = body_has typed body s u ss q signatures locals (record { fits = fits; names = λ name m h. tt }) in
        record { fits = y.0.fits; statements = All-from_recursion (IsTypedStmt p f) ss y.1 }

    body_grows : (t : CType) → t ≡ f.result → (body : Line) (s u : Scope) (ss : List Stmt) → body_judgement t body s ≡ Good (u, ss) → Grows s u
    body_grows t r body s u ss q = (body_leads (passage typed) t r body s u ss q).grows

-- whatever the program is
module _ (values : GoodIsTyped) (effects : EffectIsTyped) where
  abbrev no_program : Program
  no_program = record { signatures = []; globals = []; functions = []; switches = []; pointers = []; main = 0 }

  abbrev no_function : CType → Function
  no_function t = record { name = []; attributed = false; result = t; params = 0; locals = []; switches = []; body = [] }

  pub any_grows : (t : CType) (body : Line) (s u : Scope) (ss : List Stmt) → body_judgement t body s ≡ Good (u, ss) → Grows s u
  any_grows t body s u ss q = body_grows no_program (no_function t) values effects t refl body s u ss q

  params_lead : (p : Program) (f : Function) (params : List Param) (s u : Scope) → parameters_judgement s params ≡ Good u → Leads (passage (typed p f values effects)) s u (Unit {0})
  params_lead p f params s u q =
      of_good (λ t. Leads (passage (typed p f values effects)) s t (Unit {0})) (parameters_judgement s params) (parameters_lead (passage (typed p f values effects)) params s) u q

  params_add : (params : List Param) (s u : Scope) → parameters_judgement s params ≡ Good u → AddsScalars (length params) s u
  params_add params s u q =
      let h = of_good (Adds (length params) s) (parameters_judgement s params) (parameters_add params s) u q in
      (h.0, h.1, h.2, All-from_recursion (λ (l : Local). l.size ≡ None) h.0 h.3)

  pub parameters_fit : (params : List Param) (s u : Scope) → parameters_judgement s params ≡ Good u → AreParameters s u (length params)
  parameters_fit params s u q = record {
    grows = (params_lead no_program (no_function Void) params s u q).grows;
    scalars = params_add params s u q;
    fits = λ p f signatures locals fits.
        ((params_lead p f params s u q).holds (record { signatures = signatures; locals = locals }) (record { fits = fits; names = λ name m h. tt })).0.fits;
  }
