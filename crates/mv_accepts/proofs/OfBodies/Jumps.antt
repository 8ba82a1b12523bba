-- That each jump has its target comes from the parts of a statement.
use Rattle.std.proofs.Common.{◌≡◌, Bool, true, false, refl, ◌∙◌, ap, List, [], ◌∷◌, map, Some, None}
use Rattle.std.specs.List.{AllByRecursion}
use Rattle.std.proofs.lemmas.Bool.{and_from}
use Rattle.mv_ast.specs.declared.program.Arm.{Arm, fold_out-Arm}
use Rattle.mv_ast.specs.declared.program.Program.{Program}
use Rattle.mv_ast.specs.declared.program.Function.{Function}
use Rattle.mv_ast.specs.declared.program.Stmt.{Stmt, Stmt-F, map-Stmt, out-Stmt, fold_out-Stmt}
use Rattle.mv_ast.specs.declared.program.Stmt.TheVariants as stmt
use Rattle.mv_ast.specs.declared.program.Stmt.TheVariants.{outs-Block, outs-Clear, outs-Express, outs-If, outs-While, outs-Do, outs-For, outs-Switch, outs-Break, outs-Continue, outs-Return}
use Rattle.mv_ast.specs.declared.program.Stmt.TheOpen as open_stmt
use Rattle.mv_check_scope.specs.Conversions.{promoted, converted_to}
use Rattle.mv_check_statements.specs.SwitchBodies.{arms_of}
use Rattle.mv_check_expressions.specs.Judgements.{value_judgement, effect_judgement}
use Rattle.mv_check_declarations.specs.Locals.{local_values}
use Rattle.mv_source_forms.specs.Jumps.{Jumping, all_jump, jumps_layer, arm_jumps_layer, stmt_jumps, arm_jumps}
use Rattle.mv_syntax.specs.declared.unit.Line.{Line}
use Rattle.mv_check_scope.specs.declared.scope.Scope.{Scope}
use Rattle.mv_check_expressions.specs.Judged.{Good}
use Rattle.mv_check_statements.specs.Statements.{body_judgement}
use Rattle.mv_accepts.specs.Expressions.Soundness.{Fits}
use Rattle.mv_accepts.specs.Statements.Bodies.{Keeps}
use Rattle.mv_accepts.proofs.OfStatements.Bodies.{body_has}
use Rattle.mv_accepts.proofs.OfStatements.Judging.{if_any}
use Rattle.mv_accepts.proofs.OfStatements.Property.{Property}
use Rattle.mv_accepts.proofs.OfStatements.SwitchBodies.{BodyHas, BodiesHave, arms_have, label_leaves, statement_has}

abbrev Jump : Bool → Bool → Stmt → Type 0
Jump b c s = stmt_jumps s b c ≡ true

all_have_jump : (b c : Bool) (ss : List Stmt) → AllByRecursion (Jump b c) ss → all_jump (map stmt_jumps ss) b c ≡ true
all_have_jump b c [] h = refl
all_have_jump b c (s ∷ ss) h = and_from (stmt_jumps s b c) (all_jump (map stmt_jumps ss) b c) h.0 (all_have_jump b c ss h.1)

abbrev layer_of : Stmt-F Stmt Arm → Jumping
layer_of z = jumps_layer (map-Stmt Stmt Arm Jumping Jumping stmt_jumps arm_jumps z)

jumps_by : (w : Stmt) (z : Stmt-F Stmt Arm) (b c : Bool) → out-Stmt w ≡ z → layer_of z b c ≡ true → Jump b c w
jumps_by w z b c o h = ap (λ (j : Jumping). j b c) (fold_out-Stmt Jumping Jumping jumps_layer arm_jumps_layer w ∙ ap layer_of o) ∙ h

arms_jump : (c : Bool) (arms : List Arm) → AllByRecursion (BodyHas (Jump true c)) arms → all_jump (map arm_jumps arms) true c ≡ true
arms_jump c [] h = refl
arms_jump c (a ∷ arms) h =
    and_from (arm_jumps a true c) (all_jump (map arm_jumps arms) true c)
    (ap (λ (j : Jumping). j true c) (fold_out-Arm Jumping Jumping jumps_layer arm_jumps_layer a) ∙ all_have_jump true c a.body h.0) (arms_jump c arms h.1)

abbrev jumping : Program → Function → Property
jumping p f = record {
  program = p;
  function = f;
  of_name = λ m. Unit {0};
  of_value = λ e. Unit {0};
  of_values = λ l es. Unit {0};
  of_stmt = Jump;
  of_arms = λ c y. BodiesHave (Jump true c) y;
  enumerator = λ v. tt;
  scalar_local = λ n t fixed h. tt;
  array_local = λ n t size fixed h. tt;
  value = λ s k e. if_any (value_judgement s e);
  effect = λ s k e. if_any (effect_judgement s e);
  initials = λ s k d taken l. if_any (local_values d taken l s);
  block_form = λ b c ss h. jumps_by (stmt.Block ss) (open_stmt.Block ss) b c (outs-Block ss) (all_have_jump b c ss h);
  clear_form = λ b c n l es there h. jumps_by (stmt.Clear n es) (open_stmt.Clear n es) b c (outs-Clear n es) refl;
  express_form = λ b c e h. jumps_by (stmt.Express e) (open_stmt.Express e) b c (outs-Express e) refl;
  if_form = λ b c e ss ts h i j. jumps_by (stmt.If e ss ts) (open_stmt.If e ss ts) b c (outs-If e ss ts)
      (and_from (all_jump (map stmt_jumps ss) b c) (all_jump (map stmt_jumps ts) b c) (all_have_jump b c ss i) (all_have_jump b c ts j));
  while_form = λ b c e ss h i. jumps_by (stmt.While e ss) (open_stmt.While e ss) b c (outs-While e ss) (all_have_jump true true ss i);
  do_form = λ b c ss e i h. jumps_by (stmt.Do ss e) (open_stmt.Do ss e) b c (outs-Do ss e) (all_have_jump true true ss i);
  for_form = λ b c first test step ss h i j k. jumps_by (stmt.For first test step ss) (open_stmt.For first test step ss) b c (outs-For first test step ss)
      (and_from (all_jump (map stmt_jumps first) b c) (all_jump (map stmt_jumps ss) true true) (all_have_jump b c first h) (all_have_jump true true ss k));
  break_form = λ c. jumps_by stmt.Break open_stmt.Break true c outs-Break refl;
  continue_form = λ b. jumps_by stmt.Continue open_stmt.Continue b true outs-Continue refl;
  nothing_form = λ b c q. jumps_by (stmt.Return None) (open_stmt.Return None) b c (outs-Return None) refl;
  return_form = λ b c e q k h. jumps_by (stmt.Return (Some (converted_to f.result e))) (open_stmt.Return (Some (converted_to f.result e))) b c (outs-Return (Some (converted_to f.result e))) refl;
  switch_form = λ b c e y q h k. jumps_by (stmt.Switch (promoted e) (arms_of y)) (open_stmt.Switch (promoted e) (arms_of y)) b c (outs-Switch (promoted e) (arms_of y))
      (arms_jump c (arms_of y) (arms_have (Jump true c) y k));
  no_arm_form = λ c. (tt, tt);
  case_form = λ c v y h. label_leaves (Jump true c) y h;
  default_form = λ c y q h. label_leaves (Jump true c) y h;
  statement_form = λ c s y h k. statement_has (Jump true c) s y h k;
}

pub jumps_hold : (p : Program) (f : Function) (body : Line) (s u : Scope) (ss : List Stmt) → body_judgement f.result body s ≡ Good (u, ss) →
    Keeps u.signatures p.signatures → Keeps u.locals f.locals → Fits p f s → all_jump (map stmt_jumps ss) false false ≡ true
jumps_hold p f body s u ss q signatures locals fits =
    all_have_jump false false ss (body_has (jumping p f) body s u ss q signatures locals (record { fits = fits; names = λ name m h. tt })).1
