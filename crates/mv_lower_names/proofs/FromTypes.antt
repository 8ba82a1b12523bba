-- Well-typed functions name functions that there are, and so does their code.
use Rattle.std.proofs.Common.{ℕ, suc, ◌<◌, List, [], ◌∷◌, length, Option, Some, None, All, subst, arith}
use Rattle.std.proofs.lemmas.Option.{slice_get_within}
use Rattle.mv_ast.specs.declared.program.CType.{CType}
use Rattle.mv_ast.specs.declared.program.Known.{Known}
use Rattle.mv_ast.specs.declared.program.Program.{Program}
use Rattle.mv_ast.specs.declared.program.Function.{Function}
use Rattle.mv_ast.specs.declared.program.Expr.{Expr, Expr-F, roll-Expr, out-roll-Expr}
use Rattle.mv_ast.specs.declared.program.Form.{Form, Form-F, roll-Form, out-Form, out-roll-Form}
use Rattle.mv_ast.specs.declared.program.Form.TheOpen as form
use Rattle.mv_ast.specs.declared.program.Target.{Target, Target-F, roll-Target, out-roll-Target}
use Rattle.mv_ast.specs.declared.program.Stmt.{Stmt, Stmt-F, roll-Stmt, out-roll-Stmt}
use Rattle.mv_ast.specs.declared.program.Stmt.TheOpen as stmt
use Rattle.mv_ast.specs.declared.program.Arm.{Arm, Arm-F, roll-Arm, out-roll-Arm}
use Rattle.mv_ir.proofs.Induction.{Each}
use Rattle.mv_source_forms.specs.Typing.{HasType, HasTypedParts, IsTypedAt, IsTypedOption, IsTypedStmt, ReturnsTyped}
use Rattle.mv_source_forms.proofs.TypedParts.{TypedForm, TypedTarget, TypedExpr, AllTyped, FormParts, TargetParts, form_parts, target_parts, expr_form, expr_node, TypedStmt, TypedArm, AllStmts, AllArms, StmtParts, stmt_parts, stmt_node, arm_parts}
use Rattle.mv_source_forms.proofs.ExpressionInduction.{FormChildren, TargetChildren}
use Rattle.mv_select_code.proofs.OfControl.TreeNames.{AnyNumber, each_any}
use Rattle.mv_lower_names.proofs.Premises.{OwnNames, KnownOf, Optional, StmtKnown, StmtsKnown}

module _ (p : Program) (g : Function) (sizes : ℕ → Option ℕ) where
  -- a function of the program
  abbrev pub IsThere : ℕ → Type 0
  IsThere k = k < length p.functions

  abbrev pub AnyKnown : Known → Type 0
  AnyKnown k = Unit {0}

  pub record PF (f : Form) : Type 0 where
    pub type : CType
    pub typed : HasType p g type (out-Form f)
    pub parts : TypedForm p g f

  abbrev pub PT : Target → Type 0
  PT = TypedTarget p g

  abbrev pub PE : Expr → Type 0
  PE = TypedExpr p g

  each_expr : (es : List Expr) → AllTyped p g es → Each PE es
  each_expr [] h = tt
  each_expr (e ∷ es) h = (h.0, each_expr es h.1)

  own_names : (x : Form-F Form Target Expr) (t : CType) → HasType p g t x → OwnNames IsThere AnyKnown AnyNumber x
  own_names (form.Number n) t h = tt
  own_names (form.Read target) t h = tt
  own_names (form.Function f) t h = slice_get_within p.functions f h.2.function h.2.defined
  own_names (form.Unary op a) t h = tt
  own_names (form.Binary op a b) t h = tt
  own_names (form.Both a b) t h = tt
  own_names (form.Either a b) t h = tt
  own_names (form.Choose c a b) t h = tt
  own_names (form.Convert a) t h = tt
  own_names (form.Set target a) t h = tt
  own_names (form.Change op kind target a) t h = tt
  own_names (form.After up target) t h = tt
  own_names (form.Direct f args) t h = slice_get_within p.functions f h.0 h.1
  own_names (form.Through args callee) t h = tt
  own_names (form.Known k args) t h = tt

  form_children : (x : Form-F Form Target Expr) → FormParts p g x → FormChildren PF PT PE x
  form_children (form.Number n) h = tt
  form_children (form.Read target) h = h
  form_children (form.Function f) h = tt
  form_children (form.Unary op a) h = h
  form_children (form.Binary op a b) h = h
  form_children (form.Both a b) h = h
  form_children (form.Either a b) h = h
  form_children (form.Choose c a b) h = h
  form_children (form.Convert a) h = h
  form_children (form.Set target a) h = h
  form_children (form.Change op kind target a) h = h
  form_children (form.After up target) h = h
  form_children (form.Direct f args) h = each_expr args h
  form_children (form.Through args callee) h = (each_expr args h.0, h.1)
  form_children (form.Known k args) h = each_expr args h

  target_children : (x : Target-F Form Target Expr) → TargetParts p g x → TargetChildren PF PT PE x
  target_children (form.Global k) h = tt
  target_children (form.Local l) h = tt
  target_children (form.GlobalAt k e) h = h
  target_children (form.LocalAt l e) h = h

  pub typed_known : KnownOf IsThere AnyKnown AnyNumber PF PT PE
  typed_known = record {
    own = λ x h. own_names x h.type (subst (HasType p g h.type) (out-roll-Form x) h.typed);
    form_parts = λ x h. form_children x (subst (FormParts p g) (out-roll-Form x) (form_parts p g (roll-Form x) h.parts));
    target_parts = λ x h. target_children x (subst (TargetParts p g) (out-roll-Target x) (target_parts p g (roll-Target x) h));
    what = λ x h. record {
      type = x.ctype;
      typed = subst (λ (z : Expr-F Form Target Expr). HasType p g z.ctype (out-Form z.what)) (out-roll-Expr x) (expr_node p g (roll-Expr x) h);
      parts = subst (λ (z : Expr-F Form Target Expr). TypedForm p g z.what) (out-roll-Expr x) (expr_form p g (roll-Expr x) h);
    };
  }

  -- ---- statements

  abbrev pub PS : Stmt → Type 0
  PS = TypedStmt p g

  abbrev pub PA : Arm → Type 0
  PA = TypedArm p g

  abbrev Parts : Stmt-F Stmt Arm → Type 0
  Parts = StmtKnown IsThere AnyKnown AnyNumber sizes PE PS PA

  each_stmt : (body : List Stmt) → AllStmts p g body → Each PS body
  each_stmt [] h = tt
  each_stmt (s ∷ body) h = (h.0, each_stmt body h.1)

  each_arm : (arms : List Arm) → AllArms p g arms → Each PA arms
  each_arm [] h = tt
  each_arm (a ∷ arms) h = (h.0, each_arm arms h.1)

  each_value : (t : CType) (es : List Expr) → All (IsTypedAt p g t) es → Each PE es
  each_value t [] h = tt
  each_value t (e ∷ es) h = ((h 0 e (omega arith)).0, each_value t es (λ i x lt. h (suc i) x (omega (arith, lt))))

  optional : (o : Option Expr) → IsTypedOption p g o → Optional IsThere AnyKnown AnyNumber sizes PE PS PA o
  optional None h = tt
  optional (Some e) h = h

  returned : (o : Option Expr) → ReturnsTyped p g o → Optional IsThere AnyKnown AnyNumber sizes PE PS PA o
  returned None h = tt
  returned (Some e) h = h.0

  stmt_children : (x : Stmt-F Stmt Arm) → HasTypedParts p g x → StmtParts p g x → Parts x
  stmt_children (stmt.Block body) h k = each_stmt body k
  stmt_children (stmt.Clear l values) h k = ((λ i lt. tt), each_value h.0 values h.2)
  stmt_children (stmt.Express e) h k = h
  stmt_children (stmt.If e a b) h k = (h, each_stmt a k.0, each_stmt b k.1)
  stmt_children (stmt.While e body) h k = (h, each_stmt body k)
  stmt_children (stmt.Do body e) h k = (h, each_stmt body k)
  stmt_children (stmt.For first test step body) h k = ((each_stmt first k.0, each_stmt body k.1), optional test h.0, optional step h.1)
  stmt_children (stmt.Switch e arms) h k = (h.0, (λ i lt. tt), each_arm arms k)
  stmt_children stmt.Break h k = tt
  stmt_children stmt.Continue h k = tt
  stmt_children (stmt.Return e) h k = returned e h

  pub typed_stmts_known : StmtsKnown IsThere AnyKnown AnyNumber sizes PE PS PA
  typed_stmts_known = record {
    parts = λ x h. stmt_children x (subst (HasTypedParts p g) (out-roll-Stmt x) (stmt_node p g (roll-Stmt x) h)) (subst (StmtParts p g) (out-roll-Stmt x) (stmt_parts p g (roll-Stmt x) h));
    labels = λ x h. each_any x.labels;
    body = λ x h. each_stmt x.body (subst (λ (z : Arm-F Stmt Arm). AllStmts p g z.body) (out-roll-Arm x) (arm_parts p g (roll-Arm x) h));
  }

  pub body_known : (body : List Stmt) → All (IsTypedStmt p g) body → Each PS body
  body_known [] h = tt
  body_known (s ∷ body) h = (h 0 s (omega arith), body_known body (λ i x lt. h (suc i) x (omega (arith, lt))))
