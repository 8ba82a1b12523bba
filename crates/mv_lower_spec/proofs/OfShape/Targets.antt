-- The jumps of lowered code have targets.
use mathlib.Core.Bool.{and-true}
use Rattle.std.proofs.Common.{◌≡◌, ℕ, suc, ◌<◌, Bool, true, false, cond, List, [], ◌∷◌, ◌++◌, map, length, Option, Some, None, refl, ◌∙◌, ap, arith}
use Rattle.std.specs.Prelude.{◌&&◌, nat_lt}
use Rattle.std.proofs.lemmas.Bool.{lt-ltb, and_from}
use Rattle.mv_ir.specs.declared.tree.Tree.{Tree}
use Rattle.mv_ir.specs.declared.stm.Stm.{Stm}
use Rattle.mv_ir.specs.declared.stm.Stm.TheOpen.{Stm-F}
use Rattle.mv_ir.specs.declared.stm.Stm.TheOpen as stm
use Rattle.mv_ir.specs.declared.stm.Stm.TheViews.{roll-Stm}
use Rattle.mv_ir.specs.declared.stm.Stm.TheFolds.{map-Stm}
use Rattle.mv_ir.specs.WellFormed.{all_around, layer_targets, stm_targets}
use Rattle.mv_ir.proofs.Induction.{Each}
use Rattle.mv_ir.proofs.Keeping.{map_append}
use Rattle.mv_ir.proofs.Rolls.{targets_roll}
use Rattle.mv_ast.specs.declared.program.Expr.{Expr}
use Rattle.mv_ast.specs.declared.program.Stmt.{Stmt, Stmt-F}
use Rattle.mv_ast.specs.declared.program.Stmt.TheOpen as stmt
use Rattle.mv_ast.specs.declared.program.Arm.{Arm}
use Rattle.mv_ast.specs.Names.{any_of, names_local}
use Rattle.mv_lower_spec.specs.Lowered.{Lowering, number, temp, binary, set, choose}
use Rattle.mv_lower_spec.specs.Lower.{lower_expr}
use Rattle.mv_lower_spec.specs.Statements.{Jumps, Placed, LoweredArm, in_body, in_arm, test_labels, test_arms, arm_place, all_tests, arm_code, arms_code, values_top, break, enclosed, repeat, return_with, test_and_body}
use Rattle.mv_lower_spec.specs.LowerStatements.{lower_optional, lower_stmt, lower_arm}
use Rattle.mv_source_forms.specs.Jumps.{Jumping, all_jump, jumps_layer, arm_jumps_layer, stmt_jumps, arm_jumps}
use Rattle.mv_source_forms.specs.Scopes.{with_local}
use Rattle.mv_lower_spec.proofs.OfShape.Asked.{Globals, Scope, ArmScope, all_within, all_behind, arms_within, is_within, all_exprs_within, optional_within, stmt_scope, arm_scope}
use Rattle.mv_lower_spec.proofs.OfShape.Rules.{Allowed, Rules}
use Rattle.mv_lower_spec.proofs.OfShape.Expressions.{allowed}
use Rattle.mv_lower_spec.proofs.OfShape.Clears as clears
use Rattle.mv_lower_spec.proofs.OfShape.Folds.{limited_stmts, sequences, limits_of}
use Rattle.mv_source_forms.proofs.StatementFolds.{StmtFolds, stmt_fold, stmt_folds, along_stmts}
use Rattle.mv_source_forms.proofs.StatementInduction.{StmtChildren}
use Rattle.mv_num.proofs.Booleans.{and_cases}

-- the jumps of some code have targets, where these loops and blocks are around it
abbrev pub HasTargets : List Bool → List Stm → Type 0
HasTargets around code = all_around (map stm_targets code) around ≡ true

all_append : (fs gs : List (List Bool → Bool)) (r : List Bool) → all_around fs r ≡ true → all_around gs r ≡ true → all_around (fs ++ gs) r ≡ true
all_append [] gs r h k = k
all_append (f ∷ fs) gs r h k = let bs = and_cases (f r) (all_around fs r) h in and_from (f r) (all_around (fs ++ gs) r) bs.0 (all_append fs gs r bs.1 k)

pub targets_append : (r : List Bool) (xs ys : List Stm) → HasTargets r xs → HasTargets r ys → HasTargets r (xs ++ ys)
targets_append r xs ys h k = ap (λ l. all_around l r) (map_append stm_targets xs ys) ∙ all_append (map stm_targets xs) (map stm_targets ys) r h k

pub targets_one : (r : List Bool) (x : Stm-F Stm) → layer_targets (map-Stm Stm (List Bool → Bool) stm_targets x) r ≡ true → HasTargets r (roll-Stm x ∷ [])
targets_one r x h = and-true (stm_targets (roll-Stm x) r) ∙ ap (λ (f : List Bool → Bool). f r) (targets_roll x) ∙ h

break_target : (r : List Bool) (n : ℕ) → n < length r → HasTargets r (break n ∷ [])
break_target r n h = targets_one r (stm.Break n) (lt-ltb n (length r) h)

choose_targets : (r : List Bool) (t : Tree) (xs ys : List Stm) → HasTargets r xs → HasTargets r ys → HasTargets r (choose t xs ys ∷ [])
choose_targets r t xs ys h k = targets_one r (stm.If t xs ys) (and_from (all_around (map stm_targets xs) r) (all_around (map stm_targets ys) r) h k)

-- ---- expressions jump nowhere

record Jumpless (s w t k : ℕ) (ts : List Tree) (xs : List Stm) (us : List Tree) : Type 0 where
  targets : (r : List Bool) → HasTargets r xs

jumpless_rules : (a : Allowed) → Rules a Jumpless
jumpless_rules a = record {
  local = λ l h k. record { targets = λ r. refl };
  scalar = λ g h. record { targets = λ r. refl };
  retree = λ {m} {ts} {us} c. record { targets = λ r. refl };
  does = λ {c} {v} {w} {x} {reads} {writes} p. record { targets = λ r. targets_one r x (p.targets r) };
  drops = λ {c} {v} {w} {x} {reads} {writes} p. record { targets = λ r. targets_one r x (p.targets r) };
  choose = λ {s} {w} {t} {k} {s'} {w'} {t'} {k'} {ys} {zs} {us} x h h'. record { targets = λ r. choose_targets r x ys zs (h.targets r) (h'.targets r) };
  chain = λ {s} {w} {t} {k} {s'} {w'} {t'} {k'} {xs} {ys} {ts} {us} {vs} h h'. record { targets = λ r. targets_append r xs ys (h.targets r) (h'.targets r) };
  beside = λ {s} {w} {t} {k} {xs} {ts} {us} rest h. record { targets = h.targets };
  weaken = λ {s} {w} {t} {k} {s'} {w'} {t'} {k'} {xs} {ts} {us} ls lw lt e h. record { targets = h.targets };
}

-- ---- where control leads from statements

-- what `break`, `continue` and the end of the function leave, where the first two may stand or not
pub record Leads (breaks continues : Bool) (j : Jumps) (r : List Bool) : Type 0 where
  pub leave : breaks ≡ true → j.leave < length r
  pub again : continues ≡ true → j.again < length r
  pub around : j.around < length r

leads_in_loop : (u v : Bool) (j : Jumps) (r : List Bool) → Leads u v j r → Leads true true (in_body j) (false ∷ (true ∷ r))
leads_in_loop u v j r h = record { leave = λ e. omega arith; again = λ e. omega arith; around = let k = h.around in omega (arith, k) }

leads_in_arm : (u v : Bool) (j : Jumps) (r : List Bool) → Leads u v j r → Leads true v (in_arm j) (false ∷ r)
leads_in_arm u v j r h = record { leave = λ e. omega arith; again = λ e. (let k = h.again e in omega (arith, k)); around = let k = h.around in omega (arith, k) }

module _ (globals : Globals) (locals : ℕ) (sizes : ℕ → Option ℕ) (void : Bool) where
  open sequences globals.pointers locals sizes void use {lowered, arms_lowered}
  open limits_of globals locals sizes use {scopes}

  abbrev none : ℕ → ℕ
  none f = 0

  value : (declared : ℕ → Bool) (e : Expr) → is_within globals locals sizes declared e ≡ true → (r : List Bool) → HasTargets r (lower_expr globals.pointers e locals).code
  value declared e b =
      let room = (lower_expr globals.pointers e locals).top in
      (clears.value globals locals sizes room none 0 declared Jumpless (jumpless_rules (allowed globals locals sizes room none 0 declared)) e b (omega arith)).made.targets

  optional : (v : ℕ) (declared : ℕ → Bool) (e : Option Expr) → optional_within globals locals sizes e declared ≡ true → (r : List Bool) → HasTargets r (lower_optional globals.pointers v e locals).code
  optional v declared None b r = refl
  optional v declared (Some e) b r = value declared e b r

  abbrev leading : List Stmt → Jumping
  leading body = all_jump (map stmt_jumps body)

  abbrev Leading : (Placed × Scope) × Jumping → Type 0
  Leading x = (declared : ℕ → Bool) → x.0.1.within declared ≡ true → (u v : Bool) → x.1 u v ≡ true → (j : Jumps) (r : List Bool) → Leads u v j r → HasTargets r (x.0.0 j).code

  abbrev ArmLeading : (LoweredArm × ArmScope) × Jumping → Type 0
  ArmLeading x = (declared : ℕ → Bool) → x.0.1 declared ≡ true → (u v : Bool) → x.1 u v ≡ true → (j : Jumps) (r : List Bool) → Leads u v j r → HasTargets r (x.0.0.body j).code

  abbrev leading_on : StmtFolds ((Placed × Scope) × Jumping) ((LoweredArm × ArmScope) × Jumping)
  leading_on = stmt_folds (limited_stmts globals locals sizes void) (stmt_fold jumps_layer arm_jumps_layer)

  abbrev S : Stmt → Type 0
  S s = Leading (leading_on.stmt s)

  abbrev A : Arm → Type 0
  A arm = ArmLeading (leading_on.arm arm)

  all_targets : (body : List Stmt) → Each S body → (declared : ℕ → Bool) → all_within (scopes body) declared ≡ true → (u v : Bool) → leading body u v ≡ true → (j : Jumps) (r : List Bool) → Leads u v j r → HasTargets r (lowered body j).code
  all_targets [] h declared b u v l j r k = refl
  all_targets (s ∷ body) h declared b u v l j r k =
      let scope = stmt_scope globals locals sizes s in
      let bs = and_cases (scope.within declared) (all_within (scopes body) (scope.behind declared)) b in
      let ls = and_cases (stmt_jumps s u v) (leading body u v) l in
      targets_append r (lower_stmt globals.pointers locals sizes void s j).code (lowered body j).code (h.0 declared bs.0 u v ls.0 j r k) (all_targets body h.1 (scope.behind declared) bs.1 u v ls.1 j r k)

  -- ---- `switch`

  placed_targets : (i : ℕ) (r : List Bool) → HasTargets r (set locals (number i) ∷ [])
  placed_targets i r = targets_one r (stm.Set locals (number i)) refl

  labels_targets : (i : ℕ) (ls : List ℕ) (r : List Bool) → HasTargets (false ∷ r) (test_labels locals i ls)
  labels_targets i [] r = refl
  labels_targets i (l ∷ ls) r =
      let t = binary 11 (temp locals) (number l) in
      let begins = set locals (number i) ∷ break 0 ∷ [] in
      targets_append (false ∷ r) (choose t begins [] ∷ []) (test_labels locals i ls)
      (choose_targets (false ∷ r) t begins [] (targets_append (false ∷ r) (set locals (number i) ∷ []) (break 0 ∷ []) (placed_targets i (false ∷ r)) (break_target (false ∷ r) 0 (omega arith))) refl) (labels_targets i ls r)

  tests_targets : (i : ℕ) (arms : List LoweredArm) (r : List Bool) → HasTargets (false ∷ r) (test_arms locals i arms)
  tests_targets i [] r = refl
  tests_targets i (arm ∷ arms) r = targets_append (false ∷ r) (test_labels locals i arm.labels) (test_arms locals (suc i) arms) (labels_targets i arm.labels r) (tests_targets (suc i) arms r)

  arm_targets : (i : ℕ) (xs : List Stm) (r : List Bool) → HasTargets r xs → HasTargets r (arm_code locals i xs)
  arm_targets i [] r h = refl
  arm_targets i (x ∷ xs) r h =
      choose_targets r (binary 10 (number i) (temp locals)) [] ((x ∷ xs) ++ set locals (number 0) ∷ []) refl (targets_append r (x ∷ xs) (set locals (number 0) ∷ []) h (placed_targets 0 r))

  arms_targets : (i : ℕ) (arms : List Arm) → Each A arms → (declared : ℕ → Bool) → arms_within (map (arm_scope globals locals sizes) arms) declared ≡ true → (u v : Bool) → all_jump (map arm_jumps arms) true v ≡ true →
      (j : Jumps) (r : List Bool) → Leads u v j r → HasTargets (false ∷ r) (arms_code locals i (arms_lowered arms) j)
  arms_targets i [] h declared b u v l j r k = refl
  arms_targets i (arm ∷ arms) h declared b u v l j r k =
      let bs = and_cases (arm_scope globals locals sizes arm declared) (arms_within (map (arm_scope globals locals sizes) arms) declared) b in
      let ls = and_cases (arm_jumps arm true v) (all_jump (map arm_jumps arms) true v) l in
      let body = ((lower_arm globals.pointers locals sizes void arm).body (in_arm j)).code in
      targets_append (false ∷ r) (arm_code locals i body) (arms_code locals (suc i) (arms_lowered arms) j)
      (arm_targets i body (false ∷ r) (h.0 declared bs.0 true v ls.0 (in_arm j) (false ∷ r) (leads_in_arm u v j r k))) (arms_targets (suc i) arms h.1 declared bs.1 u v ls.1 j r k)

  -- ---- each form

  test_targets : (l : Lowering) (body : List Stm) (r : List Bool) → 0 < length r → HasTargets r (l locals).code → HasTargets r body → HasTargets r (test_and_body locals l body)
  test_targets l body r some h k =
      targets_append r (l locals).code (choose (l locals).tree body (break 0 ∷ []) ∷ []) h (choose_targets r (l locals).tree body (break 0 ∷ []) k (break_target r 0 some))

  body_targets : (body : List Stmt) → Each S body → (declared : ℕ → Bool) → all_within (scopes body) declared ≡ true → (u v : Bool) → leading body true true ≡ true → (j : Jumps) (r : List Bool) → Leads u v j r →
      HasTargets (true ∷ r) (enclosed (lowered body (in_body j)).code ∷ [])
  body_targets body h declared b u v l j r k =
      targets_one (true ∷ r) (stm.Block (lowered body (in_body j)).code) (all_targets body h declared b true true l (in_body j) (false ∷ (true ∷ r)) (leads_in_loop u v j r k))

  layer : (x : Stmt-F Stmt Arm) → StmtChildren S A x → Leading (leading_on.stmt_layer x)
  layer (stmt.Block body) h declared b u v l j r k = all_targets body h declared b u v l j r k
  layer (stmt.Clear m values) h declared b u v l j r k =
      let itself = any_of (map (names_local m) values) in
      let known = cond itself (with_local m declared) declared in
      let bs = and_cases (nat_lt m locals) (all_exprs_within globals locals sizes values known) b in
      let room = values_top locals (map (lower_expr globals.pointers) values) in
      (clears.cleared globals locals sizes room none 0 known Jumpless (jumpless_rules (allowed globals locals sizes room none 0 known)) m bs.0 (sizes m) refl itself values j bs.1 (omega arith)).made.targets r
  layer (stmt.Express e) h declared b u v l j r k = value declared e b r
  layer (stmt.If e yes_part no_part) h declared b u v l j r k =
      let bs = and_cases (is_within globals locals sizes declared e) (all_within (scopes yes_part) declared && all_within (scopes no_part) declared) b in
      let cs = and_cases (all_within (scopes yes_part) declared) (all_within (scopes no_part) declared) bs.1 in
      let ls = and_cases (leading yes_part u v) (leading no_part u v) l in
      let yes = (lowered yes_part j).code in
      let other = (lowered no_part j).code in
      targets_append r (lower_expr globals.pointers e locals).code (choose (lower_expr globals.pointers e locals).tree yes other ∷ []) (value declared e bs.0 r)
      (choose_targets r (lower_expr globals.pointers e locals).tree yes other (all_targets yes_part h.0 declared cs.0 u v ls.0 j r k) (all_targets no_part h.1 declared cs.1 u v ls.1 j r k))
  layer (stmt.While e body) h declared b u v l j r k =
      let bs = and_cases (is_within globals locals sizes declared e) (all_within (scopes body) declared) b in
      targets_one r (stm.Loop (test_and_body locals (lower_expr globals.pointers e) (enclosed (lowered body (in_body j)).code ∷ [])))
      (test_targets (lower_expr globals.pointers e) (enclosed (lowered body (in_body j)).code ∷ []) (true ∷ r) (omega arith) (value declared e bs.0 (true ∷ r)) (body_targets body h declared bs.1 u v l j r k))
  layer (stmt.Do body e) h declared b u v l j r k =
      let bs = and_cases (is_within globals locals sizes declared e) (all_within (scopes body) declared) b in
      let code = (lowered body (in_body j)).code in
      let test = test_and_body locals (lower_expr globals.pointers e) [] in
      targets_one r (stm.Loop (enclosed code ∷ test))
      (targets_append (true ∷ r) (enclosed code ∷ []) test (body_targets body h declared bs.1 u v l j r k) (test_targets (lower_expr globals.pointers e) [] (true ∷ r) (omega arith) (value declared e bs.0 (true ∷ r)) refl))
  layer (stmt.For first test step body) h declared b u v l j r k =
      let inside = all_behind (scopes first) declared in
      let may_test = optional_within globals locals sizes test inside in
      let may_step = optional_within globals locals sizes step inside in
      let b0 = and_cases (all_within (scopes first) declared) (may_test && (may_step && all_within (scopes body) inside)) b in
      let b1 = and_cases may_test (may_step && all_within (scopes body) inside) b0.1 in
      let b2 = and_cases may_step (all_within (scopes body) inside) b1.1 in
      let ls = and_cases (leading first u v) (leading body true true) l in
      let code = (lowered body (in_body j)).code in
      let tested = test_and_body locals (lower_optional globals.pointers 1 test) (enclosed code ∷ []) in
      let stepped = (lower_optional globals.pointers 0 step locals).code in
      targets_append r (lowered first j).code (repeat (tested ++ stepped) ∷ []) (all_targets first h.0 declared b0.0 u v ls.0 j r k)
      (targets_one r (stm.Loop (tested ++ stepped))
      (targets_append (true ∷ r) tested stepped
      (test_targets (lower_optional globals.pointers 1 test) (enclosed code ∷ []) (true ∷ r) (omega arith)
      (optional 1 inside test b1.0 (true ∷ r)) (body_targets body h.1 inside b2.1 u v ls.1 j r k))
      (optional 0 inside step b2.0 (true ∷ r))))
  layer (stmt.Switch e arms) h declared b u v l j r k =
      let scoped = map (arm_scope globals locals sizes) arms in
      let bs = and_cases (is_within globals locals sizes declared e) (arms_within scoped declared) b in
      let ls = arms_lowered arms in
      let place = arm_place (λ (a : LoweredArm). a.other) 0 ls in
      let tested = all_tests locals ls in
      let whole = enclosed tested ∷ arms_code locals 0 ls j in
      let t = (lower_expr globals.pointers e locals).tree in
      targets_append r (lower_expr globals.pointers e locals).code (set locals t ∷ enclosed whole ∷ []) (value declared e bs.0 r)
      (targets_append r (set locals t ∷ []) (enclosed whole ∷ []) (targets_one r (stm.Set locals t) refl)
      (targets_one r (stm.Block whole)
      (targets_append (false ∷ r) (enclosed tested ∷ []) (arms_code locals 0 ls j)
      (targets_one (false ∷ r) (stm.Block tested) (targets_append (false ∷ false ∷ r) (test_arms locals 0 ls) (set locals (number place) ∷ []) (tests_targets 0 ls (false ∷ r)) (placed_targets place (false ∷ false ∷ r))))
      (arms_targets 0 arms h declared bs.1 u v l j r k))))
  layer stmt.Break h declared b u v l j r k = break_target r j.leave (k.leave l)
  layer stmt.Continue h declared b u v l j r k = break_target r j.again (k.again l)
  layer (stmt.Return None) h declared b u v l j r k = break_target r j.around k.around
  layer (stmt.Return (Some e)) h declared b u v l j r k =
      targets_append r (lower_expr globals.pointers e locals).code (return_with (lower_expr globals.pointers e locals).tree ∷ []) (value declared e b r) (targets_one r (stm.Return (lower_expr globals.pointers e locals).tree) refl)

  pub code_targets : (body : List Stmt) (declared : ℕ → Bool) → all_within (scopes body) declared ≡ true → (u v : Bool) → leading body u v ≡ true → (j : Jumps) (r : List Bool) → Leads u v j r → HasTargets r (lowered body j).code
  code_targets body = all_targets body (along_stmts leading_on (λ s. Leading) (λ a. ArmLeading) layer (λ x h. all_targets x.body h) body)
