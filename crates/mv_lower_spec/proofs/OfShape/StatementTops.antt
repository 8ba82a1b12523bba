-- Statements take at most eight free temporaries for each level of depth of their expressions.
use Rattle.std.proofs.Common.{◌≡◌, ℕ, ◌+◌, ◌*◌, ◌≤◌, Bool, true, cond, List, [], ◌∷◌, map, Option, Some, None, ◌∙◌, ap, arith}
use Rattle.std.specs.Prelude.{◌&&◌, nat_lt, option_to_list}
use Rattle.mv_ir.proofs.Induction.{Each}
use Rattle.mv_ir.proofs.Keeping.{map_append}
use Rattle.mv_ast.specs.declared.program.Expr.{Expr}
use Rattle.mv_ast.specs.declared.program.Stmt.{Stmt, Stmt-F}
use Rattle.mv_ast.specs.declared.program.Stmt.TheOpen as stmt
use Rattle.mv_ast.specs.declared.program.Arm.{Arm, fold-Arm}
use Rattle.mv_ast.specs.Counts.{greatest, expr_depth, stmt_depth, depth_layer, arm_depth_layer}
use Rattle.mv_ast.specs.Names.{any_of, names_local}
use Rattle.mv_lower_spec.specs.Lower.{lower_expr}
use Rattle.mv_lower_spec.specs.Statements.{Jumps, Placed, LoweredArm, in_body, in_arm, values_top, arms_top}
use Rattle.mv_lower_spec.specs.LowerStatements.{lower_optional}
use Rattle.mv_source_forms.specs.Scopes.{with_local}
use Rattle.mv_lower_spec.proofs.OfShape.Asked.{Globals, Scope, ArmScope, all_within, all_behind, arms_within, all_exprs_within, optional_within, stmt_scope, arm_scope}
use Rattle.mv_lower_spec.proofs.OfShape.ExpressionTops.{expr_top, greatest_append}
use Rattle.mv_lower_spec.proofs.OfShape.Folds.{limited_stmts, sequences, limits_of}
use Rattle.mv_source_forms.proofs.StatementFolds.{StmtFolds, stmt_fold, stmt_folds, along_stmts}
use Rattle.mv_source_forms.proofs.StatementInduction.{StmtChildren}
use Rattle.mv_num.proofs.Booleans.{and_cases}

abbrev arm_depth : Arm → ℕ
arm_depth = fold-Arm ℕ ℕ depth_layer arm_depth_layer

module _ (globals : Globals) (locals : ℕ) (sizes : ℕ → Option ℕ) (void : Bool) where
  open sequences globals.pointers locals sizes void use {lowered, arms_lowered}
  open limits_of globals locals sizes use {scopes, within}

  value_top : (declared : ℕ → Bool) (e : Expr) → within declared e ≡ true → (lower_expr globals.pointers e locals).top ≤ locals + 8 * expr_depth e
  value_top declared e b = (expr_top globals locals sizes declared e).top b locals

  deep : (e : Expr) → 1 ≤ expr_depth e
  deep e = (expr_top globals locals sizes (λ l. true) e).deep

  abbrev Top : (Placed × Scope) × ℕ → Type 0
  Top v = (declared : ℕ → Bool) → v.0.1.within declared ≡ true → (j : Jumps) → (v.0.0 j).top ≤ locals + 8 * v.1

  abbrev ArmTop : (LoweredArm × ArmScope) × ℕ → Type 0
  ArmTop v = (declared : ℕ → Bool) → v.0.1 declared ≡ true → (j : Jumps) → (v.0.0.body j).top ≤ locals + 8 * v.1

  abbrev measured : StmtFolds ((Placed × Scope) × ℕ) ((LoweredArm × ArmScope) × ℕ)
  measured = stmt_folds (limited_stmts globals locals sizes void) (stmt_fold depth_layer arm_depth_layer)

  abbrev S : Stmt → Type 0
  S s = Top (measured.stmt s)

  abbrev A : Arm → Type 0
  A arm = ArmTop (measured.arm arm)

  all_top : (body : List Stmt) → Each S body → (declared : ℕ → Bool) → all_within (scopes body) declared ≡ true → (j : Jumps) → (lowered body j).top ≤ locals + 8 * greatest (map stmt_depth body)
  all_top [] h declared b j = omega arith
  all_top (s ∷ body) h declared b j =
      let scope = stmt_scope globals locals sizes s in
      let bs = and_cases (scope.within declared) (all_within (scopes body) (scope.behind declared)) b in
      let k = h.0 declared bs.0 j in
      let l = all_top body h.1 (scope.behind declared) bs.1 j in
      omega (arith, k, l)

  all_values_top : (declared : ℕ → Bool) (es : List Expr) → all_exprs_within globals locals sizes es declared ≡ true → values_top locals (map (lower_expr globals.pointers) es) ≤ locals + 8 * greatest (map expr_depth es)
  all_values_top declared [] b = omega arith
  all_values_top declared (e ∷ es) b =
      let bs = and_cases (within declared e) (all_exprs_within globals locals sizes es declared) b in
      let k = value_top declared e bs.0 in
      let l = all_values_top declared es bs.1 in
      omega (arith, k, l)

  all_arms_top : (arms : List Arm) → Each A arms → (declared : ℕ → Bool) → arms_within (map (arm_scope globals locals sizes) arms) declared ≡ true → (j : Jumps) →
      arms_top locals (arms_lowered arms) j ≤ locals + 8 * greatest (map arm_depth arms)
  all_arms_top [] h declared b j = omega arith
  all_arms_top (arm ∷ arms) h declared b j =
      let bs = and_cases (arm_scope globals locals sizes arm declared) (arms_within (map (arm_scope globals locals sizes) arms) declared) b in
      let k = h.0 declared bs.0 (in_arm j) in
      let l = all_arms_top arms h.1 declared bs.1 j in
      omega (arith, k, l)

  optional_top : (v : ℕ) (e : Option Expr) (declared : ℕ → Bool) → optional_within globals locals sizes e declared ≡ true → (lower_optional globals.pointers v e locals).top ≤ locals + 8 * greatest (map expr_depth (option_to_list e))
  optional_top v None declared b = omega arith
  optional_top v (Some e) declared b = let k = value_top declared e b in omega (arith, k)

  layer : (x : Stmt-F Stmt Arm) → StmtChildren S A x → Top (measured.stmt_layer x)
  layer (stmt.Block body) h declared b j = let k = all_top body h declared b j in omega (arith, k)
  layer (stmt.Clear l values) h declared b j =
      let known = cond (any_of (map (names_local l) values)) (with_local l declared) declared in
      let k = all_values_top known values (and_cases (nat_lt l locals) (all_exprs_within globals locals sizes values known) b).1 in
      omega (arith, k)
  layer (stmt.Express e) h declared b j = let k = value_top declared e b in omega (arith, k)
  layer (stmt.If e yes_part no_part) h declared b j =
      let bs = and_cases (within declared e) (all_within (scopes yes_part) declared && all_within (scopes no_part) declared) b in
      let cs = and_cases (all_within (scopes yes_part) declared) (all_within (scopes no_part) declared) bs.1 in
      let k = value_top declared e bs.0 in
      let l = all_top yes_part h.0 declared cs.0 j in
      let m = all_top no_part h.1 declared cs.1 j in
      omega (arith, k, l, m, greatest_append (map stmt_depth yes_part) (map stmt_depth no_part))
  layer (stmt.While e body) h declared b j =
      let bs = and_cases (within declared e) (all_within (scopes body) declared) b in
      let k = value_top declared e bs.0 in
      let l = all_top body h declared bs.1 (in_body j) in
      omega (arith, k, l)
  layer (stmt.Do body e) h declared b j =
      let bs = and_cases (within declared e) (all_within (scopes body) declared) b in
      let k = value_top declared e bs.0 in
      let l = all_top body h declared bs.1 (in_body j) in
      omega (arith, k, l)
  layer (stmt.For first test step body) h declared b j =
      let inside = all_behind (scopes first) declared in
      let may_test = optional_within globals locals sizes test inside in
      let may_step = optional_within globals locals sizes step inside in
      let b0 = and_cases (all_within (scopes first) declared) (may_test && (may_step && all_within (scopes body) inside)) b in
      let b1 = and_cases may_test (may_step && all_within (scopes body) inside) b0.1 in
      let b2 = and_cases may_step (all_within (scopes body) inside) b1.1 in
      let k = all_top first h.0 declared b0.0 j in
      let l = optional_top 1 test inside b1.0 in
      let m = optional_top 0 step inside b2.0 in
      let n = all_top body h.1 inside b2.1 (in_body j) in
      let d = greatest_append (map stmt_depth first) (map stmt_depth body) in
      let e = ap greatest (map_append expr_depth (option_to_list test) (option_to_list step)) ∙ greatest_append (map expr_depth (option_to_list test)) (map expr_depth (option_to_list step)) in
      omega (arith, k, l, m, n, d, e)
  layer (stmt.Switch e arms) h declared b j =
      let scoped = map (arm_scope globals locals sizes) arms in
      let bs = and_cases (within declared e) (arms_within scoped declared) b in
      let k = value_top declared e bs.0 in
      let l = all_arms_top arms h declared bs.1 j in
      omega (arith, k, l, deep e)
  layer stmt.Break h declared b j = omega arith
  layer stmt.Continue h declared b j = omega arith
  layer (stmt.Return None) h declared b j = omega arith
  layer (stmt.Return (Some e)) h declared b j = let k = value_top declared e b in omega (arith, k)

  pub body_top : (body : List Stmt) (declared : ℕ → Bool) → all_within (scopes body) declared ≡ true → (j : Jumps) → (lowered body j).top ≤ locals + 8 * greatest (map stmt_depth body)
  body_top body = all_top body (along_stmts measured (λ s. Top) (λ a. ArmTop) layer (λ x h. all_top x.body h) body)
