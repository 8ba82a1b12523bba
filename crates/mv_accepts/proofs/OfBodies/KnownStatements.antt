-- That known functions are called with their arguments comes from the parts of a statement.
use Rattle.std.proofs.Common.{◌≡◌, ℕ, Bool, true, refl, ◌∙◌, ap, List, [], ◌∷◌, ◌++◌, map, Option, Some, None, option_to_list}
use Rattle.std.specs.List.{AllByRecursion}
use Rattle.std.proofs.lemmas.Bool.{and_from}
use Rattle.mv_ast.specs.declared.program.Arm.{Arm, fold-Arm, fold_out-Arm}
use Rattle.mv_ast.specs.declared.program.Program.{Program}
use Rattle.mv_ast.specs.declared.program.Function.{Function}
use Rattle.mv_ast.specs.declared.program.Expr.{Expr}
use Rattle.mv_ast.specs.declared.program.Stmt.{Stmt, Stmt-F, map-Stmt, out-Stmt, fold_out-Stmt}
use Rattle.mv_ast.specs.declared.program.Stmt.TheVariants as stmt
use Rattle.mv_ast.specs.declared.program.Stmt.TheVariants.{outs-Block, outs-Clear, outs-Express, outs-If, outs-While, outs-Do, outs-For, outs-Switch, outs-Break, outs-Continue, outs-Return}
use Rattle.mv_ast.specs.declared.program.Stmt.TheOpen as open_stmt
use Rattle.mv_syntax.specs.declared.unit.Line.{Line}
use Rattle.mv_check_scope.specs.declared.scope.Scope.{Scope}
use Rattle.mv_check_scope.specs.Conversions.{promotion, promoted, converted_to}
use Rattle.mv_check_statements.specs.SwitchBodies.{arms_of}
use Rattle.mv_check_statements.specs.Statements.{body_judgement}
use Rattle.mv_check_expressions.specs.Judged.{Good}
use Rattle.mv_source_forms.specs.Lists.{all_of}
use Rattle.mv_source_forms.specs.Uses.{all_layer, all_arm_layer, all_expressions, calls_known}
use Rattle.mv_accepts.specs.Expressions.Soundness.{Fits}
use Rattle.mv_accepts.specs.Statements.Bodies.{Keeps}
use Rattle.mv_syntax.specs.declared.unit.Param.{Param}
use Rattle.mv_check_declarations.specs.Parameters.{parameters_judgement}
use Rattle.mv_accepts.proofs.OfStatements.Judging.{of_good}
use Rattle.mv_accepts.proofs.OfStatements.Leading.{Leads}
use Rattle.mv_accepts.proofs.OfStatements.Parameters.{parameters_lead}
use Rattle.mv_accepts.proofs.OfStatements.Bodies.{body_has}
use Rattle.mv_accepts.proofs.OfStatements.Property.{OfOption, Property, passage}
use Rattle.mv_accepts.proofs.OfStatements.SwitchBodies.{BodyHas, BodiesHave, arms_have, label_leaves, statement_has}
use Rattle.mv_accepts.proofs.OfStatements.Values.{initials_have}
use Rattle.mv_accepts.specs.Bodies.Formed.{IsShaped, AreShaped}
use Rattle.mv_accepts.proofs.OfBodies.Tests.{all_tested, all_both_tested, one_tested, two_tested}
use Rattle.mv_accepts.proofs.OfBodies.KnownExpressions.{converted_known, value_known, effect_known}
use Rattle.mv_accepts.proofs.OfBodies.Shapes.{scalar_shaped, array_shaped}

module _ (p : Program) where
  abbrev K : Expr → Type 0
  K e = calls_known p e ≡ true

  abbrev holds : Stmt → Bool
  holds = all_expressions (calls_known p)

  abbrev H : Stmt → Type 0
  H s = all_expressions (calls_known p) s ≡ true

  abbrev layer_of : Stmt-F Stmt Arm → Bool
  layer_of z = all_layer (calls_known p) (map-Stmt Stmt Arm Bool Bool (all_expressions (calls_known p)) (fold-Arm Bool Bool (all_layer (calls_known p)) all_arm_layer) z)

  holds_by : (w : Stmt) (z : Stmt-F Stmt Arm) → out-Stmt w ≡ z → layer_of z ≡ true → H w
  holds_by w z o h = fold_out-Stmt Bool Bool (all_layer (calls_known p)) all_arm_layer w ∙ (ap layer_of o ∙ h)

  arms_hold : (arms : List Arm) → AllByRecursion (BodyHas H) arms → all_of (map (fold-Arm Bool Bool (all_layer (calls_known p)) all_arm_layer) arms) ≡ true
  arms_hold [] h = refl
  arms_hold (a ∷ arms) h = and_from _ _ (fold_out-Arm Bool Bool (all_layer (calls_known p)) all_arm_layer a ∙ all_tested (all_expressions (calls_known p)) a.body h.0) (arms_hold arms h.1)

  one_of : (e : Expr) → K e → all_of (map (calls_known p) (e ∷ [])) ≡ true
  one_of e h = one_tested (calls_known p e) h

  for_holds : (first : List Stmt) (test step : Option Expr) (ss : List Stmt) → AllByRecursion H first → OfOption K test → OfOption K step → AllByRecursion H ss →
      layer_of (open_stmt.For first test step ss) ≡ true
  for_holds first test step ss h i j k = and_from _ _ (by test step i j) (all_both_tested (map (all_expressions (calls_known p)) first) (map (all_expressions (calls_known p)) ss) (all_tested _ first h) (all_tested _ ss k))
    where
      by : (a b : Option Expr) → OfOption K a → OfOption K b → all_of (map (calls_known p) (option_to_list a ++ option_to_list b)) ≡ true
      by None None l m = refl
      by None (Some b) l m = one_of b m
      by (Some a) None l m = one_of a l
      by (Some a) (Some b) l m = two_tested (calls_known p a) (calls_known p b) l m

  module _ (own : ℕ) (f : Function) where
    abbrev calling : Property
    calling = record {
      program = p;
      function = f;
      of_name = IsShaped p own f;
      of_value = K;
      of_values = λ l es. AllByRecursion K es;
      of_stmt = λ b c s. H s;
      of_arms = λ c y. BodiesHave H y;
      enumerator = λ v. tt;
      scalar_local = λ n t fixed h. scalar_shaped p own f n t fixed h;
      array_local = λ n t size fixed h. array_shaped p own f n t size fixed h;
      value = λ s k e. value_known p own f s k.names e;
      effect = λ s k e. effect_known p own f s k.names e;
      initials = λ s k d taken l. initials_have s K (λ e. value_known p own f s k.names e) (λ t e. K e) (λ t e h q. converted_known p t e h) d taken l;
      block_form = λ b c ss h. holds_by (stmt.Block ss) (open_stmt.Block ss) (outs-Block ss) (all_tested holds ss h);
      clear_form = λ b c n l es there h. holds_by (stmt.Clear n es) (open_stmt.Clear n es) (outs-Clear n es) (and_from _ true (all_tested (calls_known p) es h) refl);
      express_form = λ b c e h. holds_by (stmt.Express e) (open_stmt.Express e) (outs-Express e) (and_from _ true (one_of e h) refl);
      if_form = λ b c e ss ts h i j. holds_by (stmt.If e ss ts) (open_stmt.If e ss ts) (outs-If e ss ts)
          (and_from _ _ (one_of e h) (all_both_tested (map holds ss) (map holds ts) (all_tested holds ss i) (all_tested holds ts j)));
      while_form = λ b c e ss h i. holds_by (stmt.While e ss) (open_stmt.While e ss) (outs-While e ss) (and_from _ _ (one_of e h) (all_tested holds ss i));
      do_form = λ b c ss e i h. holds_by (stmt.Do ss e) (open_stmt.Do ss e) (outs-Do ss e) (and_from _ _ (one_of e h) (all_tested holds ss i));
      for_form = λ b c first test step ss h i j k. holds_by (stmt.For first test step ss) (open_stmt.For first test step ss) (outs-For first test step ss) (for_holds first test step ss h i j k);
      break_form = λ c. holds_by stmt.Break open_stmt.Break outs-Break refl;
      continue_form = λ b. holds_by stmt.Continue open_stmt.Continue outs-Continue refl;
      nothing_form = λ b c q. holds_by (stmt.Return None) (open_stmt.Return None) (outs-Return None) refl;
      return_form = λ b c e q k h. holds_by (stmt.Return (Some (converted_to f.result e))) (open_stmt.Return (Some (converted_to f.result e))) (outs-Return (Some (converted_to f.result e)))
          (and_from _ true (one_of (converted_to f.result e) (converted_known p f.result e h)) refl);
      switch_form = λ b c e y q h k. holds_by (stmt.Switch (promoted e) (arms_of y)) (open_stmt.Switch (promoted e) (arms_of y)) (outs-Switch (promoted e) (arms_of y))
          (and_from _ _ (one_of (promoted e) (converted_known p (promotion e.ctype) e h)) (arms_hold (arms_of y) (arms_have H y k)));
      no_arm_form = λ c. (tt, tt);
      case_form = λ c v y h. label_leaves H y h;
      default_form = λ c y q h. label_leaves H y h;
      statement_form = λ c s y h k. statement_has H s y h k;
    }

    pub calls_hold : (body : Line) (s u : Scope) (ss : List Stmt) → body_judgement f.result body s ≡ Good (u, ss) → Keeps u.signatures p.signatures → Keeps u.locals f.locals →
        Fits p f s → AreShaped p own f s → all_of (map (all_expressions (calls_known p)) ss) ≡ true
    calls_hold body s u ss q signatures locals fits shaped =
        all_tested (all_expressions (calls_known p)) ss (body_has calling body s u ss q signatures locals (record { fits = fits; names = shaped })).1

    pub params_shaped : (params : List Param) (s u : Scope) → parameters_judgement s params ≡ Good u → Keeps u.signatures p.signatures → Keeps u.locals f.locals →
        Fits p f s → AreShaped p own f s → AreShaped p own f u
    params_shaped params s u q signatures locals fits shaped =
        let y = of_good (λ t. Leads (passage calling) s t (Unit {0})) (parameters_judgement s params) (parameters_lead (passage calling) params s) u q in
        (y.holds (record { signatures = signatures; locals = locals }) (record { fits = fits; names = shaped })).0.names
