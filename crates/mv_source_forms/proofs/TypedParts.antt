-- The parts of well-typed expressions and statements are well typed.
use Rattle.std.proofs.Common.{◌≡◌, List, [], ◌∷◌, map, refl, sym, subst}
use Rattle.mv_ast.specs.declared.program.CType.{CType}
use Rattle.mv_ast.specs.declared.program.Program.{Program}
use Rattle.mv_ast.specs.declared.program.Function.{Function}
use Rattle.mv_ast.specs.declared.program.Expr.{Expr, Expr-F, out-Expr, roll-Expr, every-Expr, every_made-Expr, every_held-Expr, every_here-Expr}
use Rattle.mv_ast.specs.declared.program.Form.{Form, Form-F, out-Form, roll-Form, out-roll-Form, map-Form, every-Form, every_made-Form, every_held-Form}
use Rattle.mv_ast.specs.declared.program.Form.TheOpen as form
use Rattle.mv_ast.specs.declared.program.Target.{Target, Target-F, out-Target, roll-Target, map-Target, every-Target, every_made-Target, every_held-Target}
use Rattle.mv_ast.specs.declared.program.Stmt.{Stmt, Stmt-F, out-Stmt, map-Stmt, every-Stmt, every_held-Stmt, every_here-Stmt}
use Rattle.mv_ast.specs.declared.program.Stmt.TheOpen as stmt
use Rattle.mv_ast.specs.declared.program.Arm.{Arm, Arm-F, out-Arm, every-Arm, every_held-Arm}
use Rattle.mv_source_forms.specs.Typing.{HasType, HasTypedParts}

abbrev pub rolled : CType → Form-F Form Target Expr → Expr
rolled t what = roll-Expr (record { ctype = t; what = roll-Form what })

module _ (p : Program) (f : Function) where
  abbrev any_form : Form-F Form Target Expr → Type 0
  any_form what = Unit {0}

  abbrev any_target : Target-F Form Target Expr → Type 0
  any_target target = Unit {0}

  abbrev node : Expr-F Form Target Expr → Type 0
  node e = HasType p f e.ctype (out-Form e.what)

  abbrev pub TypedForm : Form → Type 0
  TypedForm = every-Form any_form any_target node

  abbrev pub TypedTarget : Target → Type 0
  TypedTarget = every-Target any_form any_target node

  abbrev pub TypedExpr : Expr → Type 0
  TypedExpr = every-Expr any_form any_target node

  abbrev pub AllTyped : List Expr → Type 0
  AllTyped [] = Unit {0}
  AllTyped (e ∷ es) = TypedExpr e × AllTyped es

  abbrev pub FormParts : Form-F Form Target Expr → Type 0
  FormParts (form.Number n) = Unit {0}
  FormParts (form.Read t) = TypedTarget t
  FormParts (form.Function g) = Unit {0}
  FormParts (form.Unary op a) = TypedExpr a
  FormParts (form.Binary op a b) = TypedExpr a × TypedExpr b
  FormParts (form.Both a b) = TypedExpr a × TypedExpr b
  FormParts (form.Either a b) = TypedExpr a × TypedExpr b
  FormParts (form.Choose c a b) = TypedExpr c × TypedExpr a × TypedExpr b
  FormParts (form.Convert a) = TypedExpr a
  FormParts (form.Set t a) = TypedTarget t × TypedExpr a
  FormParts (form.Change op kind t a) = TypedTarget t × TypedExpr a
  FormParts (form.After up t) = TypedTarget t
  FormParts (form.Direct g args) = AllTyped args
  FormParts (form.Through args callee) = AllTyped args × TypedExpr callee
  FormParts (form.Known k args) = AllTyped args

  abbrev pub TargetParts : Target-F Form Target Expr → Type 0
  TargetParts (form.Global g) = Unit {0}
  TargetParts (form.Local l) = Unit {0}
  TargetParts (form.GlobalAt g e) = TypedExpr e
  TargetParts (form.LocalAt l e) = TypedExpr e

  abbrev pub FormTyped : Type 0
  FormTyped = (x : Form) × TypedForm x

  abbrev pub TargetTyped : Type 0
  TargetTyped = (x : Target) × TypedTarget x

  abbrev pub ExprTyped : Type 0
  ExprTyped = (x : Expr) × TypedExpr x

  abbrev pub whole_form : Form-F FormTyped TargetTyped ExprTyped → Form-F Form Target Expr
  whole_form = map-Form FormTyped TargetTyped ExprTyped Form Target Expr (λ a. a.0) (λ a. a.0) (λ a. a.0)

  abbrev pub whole_target : Target-F FormTyped TargetTyped ExprTyped → Target-F Form Target Expr
  whole_target = map-Target FormTyped TargetTyped ExprTyped Form Target Expr (λ a. a.0) (λ a. a.0) (λ a. a.0)

  -- ---- of well-typed parts

  pub expr_made : (t : CType) (z : Form-F Form Target Expr) (y : Form-F FormTyped TargetTyped ExprTyped) → whole_form y ≡ z → HasType p f t z → TypedExpr (rolled t z)
  expr_made t z y e h =
      every_made-Expr any_form any_target node (record { ctype = t; what = roll-Form z })
      (record { ctype = t; what = (roll-Form z, every_made-Form any_form any_target node z y e tt) }) refl (subst (HasType p f t) (sym (out-roll-Form z)) h)

  pub target_made : (z : Target-F Form Target Expr) (y : Target-F FormTyped TargetTyped ExprTyped) → whole_target y ≡ z → TypedTarget (roll-Target z)
  target_made z y e = every_made-Target any_form any_target node z y e tt

  -- ---- the parts

  all_typed : (es : List ExprTyped) → AllTyped (map (λ (e : ExprTyped). e.0) es)
  all_typed [] = tt
  all_typed (e ∷ es) = (e.1, all_typed es)

  form_held : (x : Form-F FormTyped TargetTyped ExprTyped) → FormParts (whole_form x)
  form_held (form.Number n) = tt
  form_held (form.Read t) = t.1
  form_held (form.Function g) = tt
  form_held (form.Unary op a) = a.1
  form_held (form.Binary op a b) = (a.1, b.1)
  form_held (form.Both a b) = (a.1, b.1)
  form_held (form.Either a b) = (a.1, b.1)
  form_held (form.Choose c a b) = (c.1, a.1, b.1)
  form_held (form.Convert a) = a.1
  form_held (form.Set t a) = (t.1, a.1)
  form_held (form.Change op kind t a) = (t.1, a.1)
  form_held (form.After up t) = t.1
  form_held (form.Direct g args) = all_typed args
  form_held (form.Through args callee) = (all_typed args, callee.1)
  form_held (form.Known k args) = all_typed args

  target_held : (x : Target-F FormTyped TargetTyped ExprTyped) → TargetParts (whole_target x)
  target_held (form.Global g) = tt
  target_held (form.Local l) = tt
  target_held (form.GlobalAt g e) = e.1
  target_held (form.LocalAt l e) = e.1

  pub form_parts : (x : Form) → TypedForm x → FormParts (out-Form x)
  form_parts x h = let held = every_held-Form any_form any_target node x h in subst FormParts held.1 (form_held held.0)

  pub target_parts : (x : Target) → TypedTarget x → TargetParts (out-Target x)
  target_parts x h = let held = every_held-Target any_form any_target node x h in subst TargetParts held.1 (target_held held.0)

  pub expr_form : (e : Expr) → TypedExpr e → TypedForm (out-Expr e).what
  expr_form e h = let held = every_held-Expr any_form any_target node e h in subst (λ (z : Expr-F Form Target Expr). TypedForm z.what) held.1 held.0.what.1

  pub expr_node : (e : Expr) → TypedExpr e → node (out-Expr e)
  expr_node e h = every_here-Expr any_form any_target node e h

  -- ---- statements

  abbrev any_arm : Arm-F Stmt Arm → Type 0
  any_arm a = Unit {0}

  abbrev pub TypedStmt : Stmt → Type 0
  TypedStmt = every-Stmt (HasTypedParts p f) any_arm

  abbrev pub TypedArm : Arm → Type 0
  TypedArm = every-Arm (HasTypedParts p f) any_arm

  abbrev pub AllStmts : List Stmt → Type 0
  AllStmts [] = Unit {0}
  AllStmts (s ∷ ss) = TypedStmt s × AllStmts ss

  abbrev pub AllArms : List Arm → Type 0
  AllArms [] = Unit {0}
  AllArms (a ∷ arms) = TypedArm a × AllArms arms

  abbrev pub StmtParts : Stmt-F Stmt Arm → Type 0
  StmtParts (stmt.Block body) = AllStmts body
  StmtParts (stmt.Clear l values) = Unit {0}
  StmtParts (stmt.Express e) = Unit {0}
  StmtParts (stmt.If e yes_part no_part) = AllStmts yes_part × AllStmts no_part
  StmtParts (stmt.While e body) = AllStmts body
  StmtParts (stmt.Do body e) = AllStmts body
  StmtParts (stmt.For first test step body) = AllStmts first × AllStmts body
  StmtParts (stmt.Switch e arms) = AllArms arms
  StmtParts stmt.Break = Unit {0}
  StmtParts stmt.Continue = Unit {0}
  StmtParts (stmt.Return e) = Unit {0}

  abbrev pub StmtTyped : Type 0
  StmtTyped = (x : Stmt) × TypedStmt x

  abbrev pub ArmTyped : Type 0
  ArmTyped = (x : Arm) × TypedArm x

  all_stmts : (ss : List StmtTyped) → AllStmts (map (λ (s : StmtTyped). s.0) ss)
  all_stmts [] = tt
  all_stmts (s ∷ ss) = (s.1, all_stmts ss)

  all_arms : (arms : List ArmTyped) → AllArms (map (λ (a : ArmTyped). a.0) arms)
  all_arms [] = tt
  all_arms (a ∷ arms) = (a.1, all_arms arms)

  stmt_held : (x : Stmt-F StmtTyped ArmTyped) → StmtParts (map-Stmt StmtTyped ArmTyped Stmt Arm (λ a. a.0) (λ a. a.0) x)
  stmt_held (stmt.Block body) = all_stmts body
  stmt_held (stmt.Clear l values) = tt
  stmt_held (stmt.Express e) = tt
  stmt_held (stmt.If e yes_part no_part) = (all_stmts yes_part, all_stmts no_part)
  stmt_held (stmt.While e body) = all_stmts body
  stmt_held (stmt.Do body e) = all_stmts body
  stmt_held (stmt.For first test step body) = (all_stmts first, all_stmts body)
  stmt_held (stmt.Switch e arms) = all_arms arms
  stmt_held stmt.Break = tt
  stmt_held stmt.Continue = tt
  stmt_held (stmt.Return e) = tt

  pub stmt_parts : (x : Stmt) → TypedStmt x → StmtParts (out-Stmt x)
  stmt_parts x h = let held = every_held-Stmt (HasTypedParts p f) any_arm x h in subst StmtParts held.1 (stmt_held held.0)

  pub stmt_node : (x : Stmt) → TypedStmt x → HasTypedParts p f (out-Stmt x)
  stmt_node x h = every_here-Stmt (HasTypedParts p f) any_arm x h

  pub arm_parts : (x : Arm) → TypedArm x → AllStmts (out-Arm x).body
  arm_parts x h =
      let held = every_held-Arm (HasTypedParts p f) any_arm x h in
      subst (λ (z : Arm-F Stmt Arm). AllStmts z.body) held.1 (all_stmts held.0.body)
