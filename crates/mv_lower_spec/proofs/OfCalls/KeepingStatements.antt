-- The same for statements.
use Rattle.std.proofs.Common.{◌≡◌, ℕ, zero, suc, ◌-◌, Bool, if◌then◌else◌, List, [], ◌∷◌, map, drop, length, replicate, sym, subst, Option, Some, None}
use Rattle.std.specs.Prelude.{slice_set}
use Rattle.mv_ir.proofs.Induction.{Each, each_append}
use Rattle.mv_ast.specs.declared.program.Program.{Program}
use Rattle.mv_ast.specs.declared.program.Expr.{Expr}
use Rattle.mv_ast.specs.declared.program.Stmt.{Stmt, Stmt-F, roll-Stmt, out-roll-Stmt}
use Rattle.mv_ast.specs.declared.program.Stmt.TheOpen as stmt
use Rattle.mv_ast.specs.declared.program.Arm.{Arm, Arm-F, roll-Arm}
use Rattle.mv_ast.specs.Names.{any_of, names_local}
use Rattle.mv_ast.specs.Worlds.{counted}
use Rattle.mv_meaning.specs.declared.state.Lvalue.TheVariants as lvalue
use Rattle.mv_meaning.specs.declared.state.Flow.{Flow}
use Rattle.mv_meaning.specs.declared.state.Flow.TheVariants.{Goes, Breaks, Continues, Returns}
use Rattle.mv_meaning.specs.Arms.{first_arm, all_labels}
use Rattle.mv_meaning.specs.Loops.{arms_from}
use Rattle.mv_meaning.specs.Meaning.{Evaluation, Context, ArmDenotation, then_on, after_body, after_switch, in_order, bodies_of, tried_labels, switch_flow, put_values, size_of, clear_local, optional_value, value_of, flow_of, flow_of_all, arm_of}
use Rattle.mv_meaning.proofs.Equations.{flow_of-Block, flow_of-Clear, flow_of-Express, flow_of-If, flow_of-While, flow_of-Do, flow_of-For, flow_of-Switch, flow_of-Break, flow_of-Continue, flow_of-Return, arm_of_lem}
use Rattle.mv_meaning.proofs.SwitchArms.{leads_to}
use Rattle.mv_source_forms.proofs.StatementInduction.{StmtChildren, stmt_ind, stmts_ind}
use Rattle.mv_lower_spec.proofs.OfCalls.Keeping.{Keeps, keeps_give, keeps_counted, keeps_unless, keeps_pointwise, keeps_bind, keeps_store}
use Rattle.mv_lower_spec.proofs.OfCalls.KeepingExpressions.{ContextKeeps, keeps_value}

-- ---- what follows control

keeps_then : (flow : Flow) (d : Evaluation Flow) → Keeps d → Keeps (then_on flow d)
keeps_then Goes d h = h
keeps_then Breaks d h = keeps_give Breaks
keeps_then Continues d h = keeps_give Continues
keeps_then (Returns v) d h = keeps_give (Returns v)

keeps_after : (flow : Flow) (d : Evaluation Flow) → Keeps d → Keeps (after_body flow d)
keeps_after Goes d h = h
keeps_after Breaks d h = keeps_give Goes
keeps_after Continues d h = h
keeps_after (Returns v) d h = keeps_give (Returns v)

keeps_behind : (flow : Flow) → Keeps (after_switch flow)
keeps_behind Goes = keeps_give Goes
keeps_behind Breaks = keeps_give Goes
keeps_behind Continues = keeps_give Continues
keeps_behind (Returns v) = keeps_give (Returns v)

abbrev KeepsEach : List (Evaluation Flow) → Type 0
KeepsEach ds = Each (λ (d : Evaluation Flow). Keeps d) ds

keeps_in_order : (ds : List (Evaluation Flow)) → KeepsEach ds → Keeps (in_order ds)
keeps_in_order [] h = keeps_give Goes
keeps_in_order (d ∷ ds) h = keeps_bind d (λ flow. then_on flow (in_order ds)) h.0 (λ flow. keeps_then flow (in_order ds) (keeps_in_order ds h.1))

module _ (p : Program) (context : Context) (keeps : ContextKeeps context) where
  value : (e : Expr) → Keeps (value_of p context e)
  value = keeps_value p context keeps

  optional : (v : ℕ) (e : Option Expr) → Keeps (optional_value p context v e)
  optional v None = keeps_give v
  optional v (Some e) = value e

  keeps_put : (l i : ℕ) (es : List Expr) → Keeps (put_values l i (map (value_of p context) es))
  keeps_put l i [] = keeps_give Goes
  keeps_put l i (e ∷ es) = keeps_bind _ _ (value e) (λ v. keeps_bind _ _ (keeps_store (lvalue.Local l i) v) (λ x. keeps_put l (suc i) es))

  keeps_clear : (l : ℕ) (own : Bool) (es : List Expr) → Keeps (clear_local l own (map (value_of p context) es))
  keeps_clear l own es = record {
    kept = λ f w lives.
        let size = size_of f.locals l in
        (keeps_counted (if own then size else size - length (map (value_of p context) es)) (put_values l 0 (map (value_of p context) es)) (keeps_put l 0 es)).kept
        (record f { locals = slice_set f.locals l (replicate size 0) }) w lives;
  }

  -- ---- by induction

  abbrev P : Stmt → Type 0
  P s = Keeps (flow_of p context s)

  abbrev Q : Arm → Type 0
  Q a = KeepsEach (arm_of p context a).body

  each_keeps : (body : List Stmt) → Each P body → KeepsEach (map (flow_of p context) body)
  each_keeps [] h = tt
  each_keeps (s ∷ body) h = (h.0, each_keeps body h.1)

  within : (body : List Stmt) → Each P body → Keeps (flow_of_all p context body)
  within body h = keeps_in_order (map (flow_of p context) body) (each_keeps body h)

  -- the arms from the n-th on
  arms_keep : (n : ℕ) (arms : List Arm) → Each Q arms → KeepsEach (bodies_of (map (arm_of p context) (drop n arms)))
  arms_keep zero [] h = tt
  arms_keep zero (a ∷ arms) h =
      each_append (λ (d : Evaluation Flow). Keeps d) (arm_of p context a).body (bodies_of (map (arm_of p context) arms)) h.0 (arms_keep zero arms h.1)
  arms_keep (suc n) [] h = tt
  arms_keep (suc n) (a ∷ arms) h = arms_keep n arms h.1

  keeps_switch : (v : ℕ) (arms : List Arm) → Each Q arms → Keeps (switch_flow v (map (arm_of p context) arms))
  keeps_switch v arms h =
      let left = drop (first_arm v arms) arms in
      keeps_pointwise (switch_flow v (map (arm_of p context) arms)) (counted (tried_labels v (all_labels arms)).labels (arms_from p context left)) (leads_to p context v arms)
      (keeps_counted (tried_labels v (all_labels arms)).labels (arms_from p context left)
      (keeps_bind (in_order (bodies_of (map (arm_of p context) left))) after_switch
      (keeps_in_order (bodies_of (map (arm_of p context) left)) (arms_keep (first_arm v arms) arms h)) keeps_behind))

  -- a statement by its equation
  counts : (s : Stmt) (d : Evaluation Flow) → flow_of p context s ≡ counted 1 d → Keeps d → Keeps (flow_of p context s)
  counts s d e h = subst (λ (x : Evaluation Flow). Keeps x) (sym e) (keeps_counted 1 d h)

  stmt_step : (x : Stmt-F Stmt Arm) → StmtChildren P Q x → P (roll-Stmt x)
  stmt_step (stmt.Block body) h =
      let x : Stmt-F Stmt Arm = stmt.Block body in
      counts (roll-Stmt x) _ (flow_of-Block p context (roll-Stmt x) body (out-roll-Stmt x)) (within body h)
  stmt_step (stmt.Clear l values) h =
      let x : Stmt-F Stmt Arm = stmt.Clear l values in
      counts (roll-Stmt x) _ (flow_of-Clear p context (roll-Stmt x) l values (out-roll-Stmt x)) (keeps_clear l (any_of (map (names_local l) values)) values)
  stmt_step (stmt.Express e) h =
      let x : Stmt-F Stmt Arm = stmt.Express e in
      counts (roll-Stmt x) _ (flow_of-Express p context (roll-Stmt x) e (out-roll-Stmt x)) (keeps_bind _ _ (value e) (λ v. keeps_give Goes))
  stmt_step (stmt.If e yes_part no_part) h =
      let x : Stmt-F Stmt Arm = stmt.If e yes_part no_part in
      counts (roll-Stmt x) _ (flow_of-If p context (roll-Stmt x) e yes_part no_part (out-roll-Stmt x))
      (keeps_bind _ _ (value e) (λ v. keeps_unless v _ _ (within no_part h.1) (within yes_part h.0)))
  stmt_step (stmt.While e body) h =
      let x : Stmt-F Stmt Arm = stmt.While e body in
      counts (roll-Stmt x) _ (flow_of-While p context (roll-Stmt x) e body (out-roll-Stmt x))
      (keeps_bind _ _ (value e) (λ v. keeps_unless v _ _ (keeps_give Goes)
      (keeps_bind _ _ (within body h) (λ flow. keeps_after flow _ (keeps.loops (roll-Stmt x))))))
  stmt_step (stmt.Do body e) h =
      let x : Stmt-F Stmt Arm = stmt.Do body e in
      counts (roll-Stmt x) _ (flow_of-Do p context (roll-Stmt x) body e (out-roll-Stmt x))
      (keeps_bind _ _ (within body h) (λ flow. keeps_after flow _
      (keeps_bind _ _ (value e) (λ v. keeps_unless v _ _ (keeps_give Goes) (keeps.loops (roll-Stmt x))))))
  stmt_step (stmt.For first condition step body) h =
      let x : Stmt-F Stmt Arm = stmt.For first condition step body in
      let rest : Stmt-F Stmt Arm = stmt.For [] condition step body in
      counts (roll-Stmt x) _ (flow_of-For p context (roll-Stmt x) first condition step body (out-roll-Stmt x))
      (keeps_bind _ _ (within first h.0) (λ begun. keeps_then begun _
      (keeps_bind _ _ (optional 1 condition) (λ v. keeps_unless v _ _ (keeps_give Goes)
      (keeps_bind _ _ (within body h.1) (λ flow. keeps_after flow _
      (keeps_bind _ _ (optional 0 step) (λ u. keeps.loops (roll-Stmt rest)))))))))
  stmt_step (stmt.Switch e arms) h =
      let x : Stmt-F Stmt Arm = stmt.Switch e arms in
      counts (roll-Stmt x) _ (flow_of-Switch p context (roll-Stmt x) e arms (out-roll-Stmt x)) (keeps_bind _ _ (value e) (λ v. keeps_switch v arms h))
  stmt_step stmt.Break h =
      let x : Stmt-F Stmt Arm = stmt.Break in
      counts (roll-Stmt x) _ (flow_of-Break p context (roll-Stmt x) (out-roll-Stmt x)) (keeps_give Breaks)
  stmt_step stmt.Continue h =
      let x : Stmt-F Stmt Arm = stmt.Continue in
      counts (roll-Stmt x) _ (flow_of-Continue p context (roll-Stmt x) (out-roll-Stmt x)) (keeps_give Continues)
  stmt_step (stmt.Return e) h =
      let x : Stmt-F Stmt Arm = stmt.Return e in
      counts (roll-Stmt x) _ (flow_of-Return p context (roll-Stmt x) e (out-roll-Stmt x)) (keeps_bind _ _ (optional 0 e) (λ v. keeps_give (Returns v)))

  arm_step : (x : Arm-F Stmt Arm) → Each P x.body → Q (roll-Arm x)
  arm_step x h = subst (λ (d : ArmDenotation). KeepsEach d.body) (sym (arm_of_lem p context (roll-Arm x))) (each_keeps x.body h)

  pub keeps_flow : (s : Stmt) → Keeps (flow_of p context s)
  keeps_flow s = stmt_ind P Q stmt_step arm_step s

  pub keeps_body : (body : List Stmt) → Keeps (flow_of_all p context body)
  keeps_body body = within body (stmts_ind P Q stmt_step arm_step body)
