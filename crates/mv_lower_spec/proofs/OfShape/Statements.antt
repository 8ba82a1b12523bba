-- Lowered statements are made of code that obeys the rules, with bounds on units and tree nodes for each node of the source.
use Rattle.std.proofs.Common.{◌≡◌, ℕ, suc, ◌+◌, ◌*◌, ◌<◌, ◌≤◌, Bool, true, cond, List, [], ◌∷◌, ◌++◌, map, length, Option, Some, None, refl, sym, ◌∙◌, ap, arith}
use Rattle.std.specs.Prelude.{◌&&◌, nat_lt, sum, option_to_list}
use Rattle.mv_ir.specs.declared.tree.Tree.{Tree}
use Rattle.mv_ir.specs.declared.stm.Stm.{Stm}
use Rattle.mv_ir.proofs.Induction.{Each}
use Rattle.mv_ir.proofs.Keeping.{map_append}
use Rattle.mv_ast.specs.declared.program.Expr.{Expr}
use Rattle.mv_ast.specs.declared.program.Stmt.{Stmt, Stmt-F}
use Rattle.mv_ast.specs.declared.program.Stmt.TheOpen as stmt
use Rattle.mv_ast.specs.declared.program.Arm.{Arm}
use Rattle.mv_ast.specs.Counts.{expr_nodes, stmt_sum, arm_sum, arm_total, own_nodes, stmt_nodes}
use Rattle.mv_ast.specs.Names.{any_of, names_local}
use Rattle.mv_lower_spec.specs.Lowered.{Lowering, number, temp, binary, set}
use Rattle.mv_lower_spec.specs.Lower.{lower_expr}
use Rattle.mv_lower_spec.specs.Statements.{Jumps, Placed, LoweredArm, in_body, in_arm, test_labels, test_arms, arm_place, all_tests, arm_code, arms_code, arms_top, lower_switch, test_and_body}
use Rattle.mv_lower_spec.specs.LowerStatements.{lower_optional}
use Rattle.mv_source_forms.specs.Scopes.{with_local}
use Rattle.mv_lower_spec.proofs.OfShape.Asked.{Globals, Scope, ArmScope, all_within, all_behind, arms_within, is_within, all_exprs_within, optional_within, stmt_scope, arm_scope}
use Rattle.mv_lower_spec.specs.Shape.Calls.{stmt_weight, arm_weight}
use Rattle.mv_lower_spec.proofs.OfShape.Rules.{Allowed, Rules, BlockRules}
use Rattle.mv_lower_spec.proofs.OfShape.Plain.{plain_set, covers_number, covers_none, covers_before, covers_binary, covers_swap, dropped}
use Rattle.mv_lower_spec.proofs.OfShape.Paid.{paid, stmt_paid, paying}
use Rattle.mv_lower_spec.proofs.OfShape.Clears as clears
use Rattle.mv_lower_spec.proofs.OfShape.Expressions.{allowed, scratch_used}
use Rattle.mv_lower_spec.proofs.OfShape.Folds.{limited_stmts, sequences, limits_of}
use Rattle.mv_source_forms.proofs.StatementFolds.{StmtFolds, stmt_fold, stmt_folds, along_stmts}
use Rattle.mv_source_forms.proofs.StatementInduction.{StmtChildren}
use Rattle.mv_num.proofs.Booleans.{and_cases}
use Rattle.mv_num.proofs.Lists.{sum_cons, sum_append}

module _ (globals : Globals) (locals : ℕ) (sizes : ℕ → Option ℕ) (void : Bool) (room : ℕ) (direct : ℕ → ℕ) (through : ℕ)
    (B : ℕ → ℕ → ℕ → ℕ → List Tree → List Stm → List Tree → Type 0)
    (rules : (declared : ℕ → Bool) → Rules (allowed globals locals sizes room direct through declared) B) (blocks : BlockRules B) where
  abbrev all : ℕ → Bool
  all l = true

  abbrev a : Allowed
  a = allowed globals locals sizes room direct through all

  abbrev r : Rules a B
  r = rules all

  open paying locals direct through B use {weight, ValuePaid, CodePaid, StmtPaid}
  open sequences globals.pointers locals sizes void use {lowered, arms_lowered}
  open limits_of globals locals sizes use {scopes}

  value : (declared : ℕ → Bool) (e : Expr) → is_within globals locals sizes declared e ≡ true → (lower_expr globals.pointers e locals).top ≤ room → ValuePaid (expr_nodes e) (weight e) (lower_expr globals.pointers e)
  value declared = clears.value globals locals sizes room direct through declared B (rules declared)

  code_as : {n k n' k' : ℕ} {xs : List Stm} → n ≤ n' → k ≡ k' → CodePaid n k xs → CodePaid n' k' xs
  code_as le e p =
      paid p.units p.words p.nodes (r.weaken (omega arith) (omega arith) (omega arith) e p.made) (omega (arith, le, p.few_units))
      (omega (arith, le, p.few_nodes)) (omega (arith, le, p.few_words))

  stmt_as : {n k n' k' : ℕ} {xs : List Stm} → n ≤ n' → k ≡ k' → StmtPaid n k xs → StmtPaid n' k' xs
  stmt_as le e p =
      stmt_paid p.units p.words p.nodes (r.weaken (omega arith) (omega arith) (omega arith) e p.made) (omega (arith, le, p.few_units))
      (omega (arith, le, p.few_nodes)) (omega (arith, le, p.few_words))

  nothing : CodePaid 0 0 []
  nothing = paid 0 0 0 (r.retree (covers_none [])) (omega arith) (omega arith) (omega arith)

  all_of_it : {n k : ℕ} {xs : List Stm} → StmtPaid n k xs → CodePaid n k xs
  all_of_it p = record { units = p.units; words = p.words; nodes = p.nodes; made = p.made; few_units = omega (arith, p.few_units); few_nodes = omega (arith, p.few_nodes); few_words = omega (arith, p.few_words) }

  in_turn : {n k n' k' : ℕ} {xs ys : List Stm} → CodePaid n k xs → CodePaid n' k' ys → CodePaid (n + n') (k + k') (xs ++ ys)
  in_turn p q = record {
    units = p.units + q.units;
    words = p.words + q.words;
    nodes = p.nodes + q.nodes;
    made = r.chain p.made q.made;
    few_units = omega (arith, p.few_units, q.few_units);
    few_nodes = omega (arith, p.few_nodes, q.few_nodes);
    few_words = omega (arith, p.few_words, q.few_words);
  }

  -- ---- lists

  -- what each is lowered to, whether it is within the limits, and how many nodes and calls it has
  abbrev counted : StmtFolds ((Placed × Scope) × (ℕ × ℕ)) ((LoweredArm × ArmScope) × (ℕ × ℕ))
  counted =
      stmt_folds (limited_stmts globals locals sizes void)
      (stmt_folds (stmt_fold (stmt_sum expr_nodes own_nodes (λ a. length a.labels)) (arm_sum expr_nodes own_nodes (λ a. length a.labels))) (stmt_fold (stmt_sum weight (λ s. 0) (λ a. 0)) (arm_sum weight (λ s. 0) (λ a. 0))))

  abbrev Pays : (Placed × Scope) × (ℕ × ℕ) → Type 0
  Pays v = (declared : ℕ → Bool) → v.0.1.within declared ≡ true → (j : Jumps) → (v.0.0 j).top ≤ room → StmtPaid v.1.0 v.1.1 (v.0.0 j).code

  abbrev S : Stmt → Type 0
  S s = Pays (counted.stmt s)

  all_paid : (body : List Stmt) → Each S body → (declared : ℕ → Bool) → all_within (scopes body) declared ≡ true → (j : Jumps) → (lowered body j).top ≤ room →
      CodePaid (sum (map stmt_nodes body)) (sum (map (stmt_weight direct through) body)) (lowered body j).code
  all_paid [] h declared b j top = nothing
  all_paid (s ∷ body) h declared b j top =
      let scope = stmt_scope globals locals sizes s in
      let bs = and_cases (scope.within declared) (all_within (scopes body) (scope.behind declared)) b in
      let n = sum_cons (stmt_nodes s) (map stmt_nodes body) in
      let k = sum_cons (stmt_weight direct through s) (map (stmt_weight direct through) body) in
      code_as (omega (arith, n)) (sym k) (in_turn (all_of_it (h.0 declared bs.0 j (omega (arith, top)))) (all_paid body h.1 (scope.behind declared) bs.1 j (omega (arith, top))))

  -- ---- `switch`

  abbrev pub labels_of : List LoweredArm → ℕ
  labels_of [] = 0
  labels_of (arm ∷ arms) = length arm.labels + labels_of arms

  abbrev N : Tree
  N = temp locals

  -- the temporary with the value and the place
  module _ (there : locals < room) where
    kept : B 0 0 1 0 [] [] (N ∷ [])
    kept = r.local locals refl (scratch_used locals sizes room locals (omega arith) there)

    placed : (i : ℕ) → B 1 1 1 0 [] (set locals (number i) ∷ []) []
    placed i = r.weaken (omega arith) (omega arith) (omega arith) (omega arith) (r.chain (r.retree (covers_number i)) (r.drops (plain_set a locals (number i) (scratch_used locals sizes room locals (omega arith) there))))

    beside_it : (i : ℕ) → B 0 0 2 0 [] [] (number i ∷ N ∷ [])
    beside_it i = r.weaken (omega arith) (omega arith) (omega arith) (omega arith) (r.chain kept (r.retree (covers_before [] (number i ∷ []) (N ∷ []) 1 (covers_number i))))

    tests_paid : (i : ℕ) (ls : List ℕ) → B (3 * length ls) (5 * length ls) (4 * length ls) 0 [] (test_labels locals i ls) []
    tests_paid i [] = r.weaken (omega arith) (omega arith) (omega arith) (omega arith) (r.retree (covers_none []))
    tests_paid i (l ∷ ls) =
        let ready = r.chain (beside_it l) (r.chain (r.retree (covers_swap (number l ∷ []) (N ∷ []))) (r.retree (covers_binary 11 N (number l)))) in
        let chosen = r.choose (binary 11 N (number l)) (r.chain (placed i) (blocks.leaves 0)) (r.retree (covers_none [])) in
        r.weaken (omega arith) (omega arith) (omega arith) (omega arith) (r.chain ready (r.chain chosen (tests_paid i ls)))

    all_labels_paid : (i : ℕ) (arms : List LoweredArm) → B (3 * labels_of arms) (5 * labels_of arms) (4 * labels_of arms) 0 [] (test_arms locals i arms) []
    all_labels_paid i [] = r.weaken (omega arith) (omega arith) (omega arith) (omega arith) (r.retree (covers_none []))
    all_labels_paid i (arm ∷ arms) = r.weaken (omega arith) (omega arith) (omega arith) (omega arith) (r.chain (tests_paid i arm.labels) (all_labels_paid (suc i) arms))

    all_tests_paid : (arms : List LoweredArm) → B (3 * labels_of arms + 1) (5 * labels_of arms + 1) (4 * labels_of arms + 1) 0 [] (all_tests locals arms) []
    all_tests_paid arms = r.weaken (omega arith) (omega arith) (omega arith) (omega arith) (r.chain (all_labels_paid 0 arms) (placed (arm_place (λ (l : LoweredArm). l.other) 0 arms)))

    entered : {s w t k : ℕ} (i : ℕ) (xs : List Stm) → B s w t k [] xs [] → B (s + 2) (w + 4) (t + 4) k [] (arm_code locals i xs) []
    entered i [] h = r.weaken (omega arith) (omega arith) (omega arith) (omega arith) h
    entered i (x ∷ xs) h =
        let ready = r.chain (beside_it i) (r.retree (covers_binary 10 (number i) N)) in
        let chosen = r.choose (binary 10 (number i) N) (r.retree (covers_none [])) (r.chain h (placed 0)) in
        r.weaken (omega arith) (omega arith) (omega arith) (omega arith) (r.chain ready chosen)

    -- the first statement of an arm pays for entering it
    enters_paid : (i : ℕ) (body : List Stmt) → Each S body → (declared : ℕ → Bool) → all_within (scopes body) declared ≡ true → (j : Jumps) → (lowered body j).top ≤ room →
        CodePaid (sum (map stmt_nodes body)) (sum (map (stmt_weight direct through) body)) (arm_code locals i (lowered body j).code)
    enters_paid i [] h declared b j top = nothing
    enters_paid i (s ∷ body) h declared b j top =
        let scope = stmt_scope globals locals sizes s in
        let bs = and_cases (scope.within declared) (all_within (scopes body) (scope.behind declared)) b in
        let n = sum_cons (stmt_nodes s) (map stmt_nodes body) in
        let k = sum_cons (stmt_weight direct through s) (map (stmt_weight direct through) body) in
        let first = h.0 declared bs.0 j (omega (arith, top)) in
        let others = all_paid body h.1 (scope.behind declared) bs.1 j (omega (arith, top)) in
        paid (first.units + others.units + 2) (first.words + others.words + 4) (first.nodes + others.nodes + 4)
        (r.weaken (omega arith) (omega arith) (omega arith) (omega (arith, k))
        (entered i (lowered (s ∷ body) j).code (r.chain first.made others.made)))
        (omega (arith, first.few_units, others.few_units, n)) (omega (arith, first.few_nodes, others.few_nodes, n))
        (omega (arith, first.few_words, others.few_words, n))

  pub record ArmPaid (v : (LoweredArm × ArmScope) × (ℕ × ℕ)) : Type 0 where
    pub inner : ℕ
    pub nodes : v.1.0 ≡ length v.0.0.labels + inner
    pub body : locals < room → (i : ℕ) (declared : ℕ → Bool) → v.0.1 declared ≡ true → (j : Jumps) → (v.0.0.body j).top ≤ room → CodePaid inner v.1.1 (arm_code locals i (v.0.0.body j).code)

  abbrev A : Arm → Type 0
  A arm = ArmPaid (counted.arm arm)

  abbrev arm_nodes : Arm → ℕ
  arm_nodes = arm_total expr_nodes own_nodes (λ a. length a.labels)

  -- the arms, without the tests of their labels
  pub record ArmsPaid (arms : List Arm) (code : List Stm) : Type 0 where
    pub units : ℕ
    pub words : ℕ
    pub nodes : ℕ
    pub made : B units words nodes (sum (map (arm_weight direct through) arms)) [] code []
    pub few_units : units + 6 * labels_of (arms_lowered arms) ≤ 6 * sum (map arm_nodes arms)
    pub few_nodes : nodes + 9 * labels_of (arms_lowered arms) ≤ 9 * sum (map arm_nodes arms)
    pub few_words : words + 2 * nodes + 40 * labels_of (arms_lowered arms) ≤ 40 * sum (map arm_nodes arms)

  arms_paid : locals < room → (i : ℕ) (arms : List Arm) → Each A arms → (declared : ℕ → Bool) → arms_within (map (arm_scope globals locals sizes) arms) declared ≡ true → (j : Jumps) → arms_top locals (arms_lowered arms) j ≤ room →
      ArmsPaid arms (arms_code locals i (arms_lowered arms) j)
  arms_paid there i [] h declared b j top = record { units = 0; words = 0; nodes = 0; made = r.retree (covers_none []); few_units = omega arith; few_nodes = omega arith; few_words = omega arith }
  arms_paid there i (arm ∷ arms) h declared b j top =
      let bs = and_cases (arm_scope globals locals sizes arm declared) (arms_within (map (arm_scope globals locals sizes) arms) declared) b in
      let p = h.0.body there i declared bs.0 (in_arm j) (omega (arith, top)) in
      let rest = arms_paid there (suc i) arms h.1 declared bs.1 j (omega (arith, top)) in
      let n = sum_cons (arm_nodes arm) (map arm_nodes arms) in
      let w = sum_cons (arm_weight direct through arm) (map (arm_weight direct through) arms) in
      record {
        units = p.units + rest.units;
        words = p.words + rest.words;
        nodes = p.nodes + rest.nodes;
        made = r.weaken (omega arith) (omega arith) (omega arith) (omega (arith, w)) (r.chain p.made rest.made);
        few_units = omega (arith, p.few_units, rest.few_units, n, h.0.nodes);
        few_nodes = omega (arith, p.few_nodes, rest.few_nodes, n, h.0.nodes);
        few_words = omega (arith, p.few_words, rest.few_words, n, h.0.nodes);
      }

  switch_paid : (e : Expr) (arms : List Arm) → Each A arms → (declared : ℕ → Bool) → is_within globals locals sizes declared e ≡ true →
      arms_within (map (arm_scope globals locals sizes) arms) declared ≡ true → (j : Jumps) → (lower_switch locals (lower_expr globals.pointers e) (arms_lowered arms) j).top ≤ room →
      StmtPaid (1 + (expr_nodes e + sum (map arm_nodes arms))) (weight e + sum (map (arm_weight direct through) arms)) (lower_switch locals (lower_expr globals.pointers e) (arms_lowered arms) j).code
  switch_paid e arms h declared be b j top =
      let there : locals < room = omega (arith, top) in
      let p = value declared e be (omega (arith, top)) in
      let ls = arms_lowered arms in
      let q = arms_paid there 0 arms h declared b j (omega (arith, top)) in
      let whole = blocks.block (r.chain (blocks.block (all_tests_paid there ls)) q.made) in
      stmt_paid (p.units + (1 + (3 * labels_of ls + 1 + 1 + q.units + 1))) (p.words + (1 + (5 * labels_of ls + 1 + q.words))) (p.nodes + (4 * labels_of ls + 1 + q.nodes))
      (r.weaken (omega arith) (omega arith) (omega arith) (omega arith) (r.chain p.made (r.chain (r.drops (plain_set a locals (lower_expr globals.pointers e locals).tree (scratch_used locals sizes room locals (omega arith) there))) whole)))
      (omega (arith, p.few_units, q.few_units)) (omega (arith, p.few_nodes, q.few_nodes)) (omega (arith, p.few_words, q.few_words))

  -- ---- each form

  -- an expression that may be left out
  record OptionalPaid (e : Option Expr) (l : Lowering) : Type 0 where
    units : ℕ
    words : ℕ
    nodes : ℕ
    made : B units words nodes (sum (map weight (option_to_list e))) [] (l locals).code ((l locals).tree ∷ [])
    few_units : units ≤ 6 * sum (map expr_nodes (option_to_list e))
    few_nodes : nodes ≤ 9 * sum (map expr_nodes (option_to_list e)) + 1
    few_words : words + 2 * nodes ≤ 40 * sum (map expr_nodes (option_to_list e)) + 2

  optional_paid : (v : ℕ) (e : Option Expr) (declared : ℕ → Bool) → optional_within globals locals sizes e declared ≡ true → (lower_optional globals.pointers v e locals).top ≤ room → OptionalPaid e (lower_optional globals.pointers v e)
  optional_paid v None declared b top = record { units = 0; words = 0; nodes = 1; made = r.retree (covers_number v); few_units = omega arith; few_nodes = omega arith; few_words = omega arith }
  optional_paid v (Some e) declared b top =
      let p = value declared e b top in
      record {
        units = p.units;
        words = p.words;
        nodes = p.nodes;
        made = r.weaken (omega arith) (omega arith) (omega arith) (omega arith) p.made;
        few_units = omega (arith, p.few_units);
        few_nodes = omega (arith, p.few_nodes);
        few_words = omega (arith, p.few_words);
      }

  -- one that is evaluated for its effect
  effect_paid : (v : ℕ) (e : Option Expr) (declared : ℕ → Bool) → optional_within globals locals sizes e declared ≡ true → (lower_optional globals.pointers v e locals).top ≤ room →
      CodePaid (sum (map expr_nodes (option_to_list e))) (sum (map weight (option_to_list e))) (lower_optional globals.pointers v e locals).code
  effect_paid v None declared b top = nothing
  effect_paid v (Some e) declared b top =
      let p = value declared e b top in
      paid p.units p.words p.nodes (r.weaken (omega arith) (omega arith) (omega arith) (omega arith) (dropped r p.made)) (omega (arith, p.few_units)) (omega (arith, p.few_nodes)) (omega (arith, p.few_words))

  -- the turn of a loop: a test that leaves it, and some code where it doesn't
  test_paid : {s w t k s' w' t' k' : ℕ} {body : List Stm} (l : Lowering) → B s' w' t' k' [] (l locals).code ((l locals).tree ∷ []) →
      B s w t k [] body [] → B (s' + (s + 1 + 1)) (w' + (w + 1 + 3)) (t' + t) (k' + k) [] (test_and_body locals l body) []
  test_paid l p h = r.weaken (omega arith) (omega arith) (omega arith) (omega arith) (r.chain p (r.choose (l locals).tree h (blocks.leaves 0)))

  layer : (x : Stmt-F Stmt Arm) → StmtChildren S A x → Pays (counted.stmt_layer x)
  layer (stmt.Block body) h declared b j top =
      let p = all_paid body h declared b j top in
      stmt_paid p.units p.words p.nodes (r.weaken (omega arith) (omega arith) (omega arith) (omega arith) p.made) (omega (arith, p.few_units)) (omega (arith, p.few_nodes)) (omega (arith, p.few_words))
  layer (stmt.Clear l values) h declared b j top =
      let itself = any_of (map (names_local l) values) in
      let known = cond itself (with_local l declared) declared in
      let bs = and_cases (nat_lt l locals) (all_exprs_within globals locals sizes values known) b in
      stmt_as (omega arith) (omega arith) (clears.cleared globals locals sizes room direct through known B (rules known) l bs.0 (sizes l) refl itself values j bs.1 top)
  layer (stmt.Express e) h declared b j top =
      let p = value declared e b top in
      stmt_paid p.units p.words p.nodes (r.weaken (omega arith) (omega arith) (omega arith) (omega arith) (dropped r p.made)) (omega (arith, p.few_units)) (omega (arith, p.few_nodes)) (omega (arith, p.few_words))
  layer (stmt.If e yes_part no_part) h declared b j top =
      let bs = and_cases (is_within globals locals sizes declared e) (all_within (scopes yes_part) declared && all_within (scopes no_part) declared) b in
      let cs = and_cases (all_within (scopes yes_part) declared) (all_within (scopes no_part) declared) bs.1 in
      let p = value declared e bs.0 (omega (arith, top)) in
      let yes = all_paid yes_part h.0 declared cs.0 j (omega (arith, top)) in
      let other = all_paid no_part h.1 declared cs.1 j (omega (arith, top)) in
      let n = sum_append (map stmt_nodes yes_part) (map stmt_nodes no_part) in
      let w = sum_append (map (stmt_weight direct through) yes_part) (map (stmt_weight direct through) no_part) in
      stmt_paid (p.units + (yes.units + other.units + 1)) (p.words + (yes.words + other.words + 3)) (p.nodes + (yes.nodes + other.nodes))
      (r.weaken (omega arith) (omega arith) (omega arith) (omega (arith, w)) (r.chain p.made (r.choose (lower_expr globals.pointers e locals).tree yes.made other.made)))
      (omega (arith, p.few_units, yes.few_units, other.few_units, n)) (omega (arith, p.few_nodes, yes.few_nodes, other.few_nodes, n)) (omega (arith, p.few_words, yes.few_words, other.few_words, n))
  layer (stmt.While e body) h declared b j top =
      let bs = and_cases (is_within globals locals sizes declared e) (all_within (scopes body) declared) b in
      let p = value declared e bs.0 (omega (arith, top)) in
      let q = all_paid body h declared bs.1 (in_body j) (omega (arith, top)) in
      stmt_paid (p.units + (q.units + 1 + 1 + 1) + 1) (p.words + (q.words + 1 + 3) + 1) (p.nodes + q.nodes)
      (r.weaken (omega arith) (omega arith) (omega arith) (omega arith) (blocks.turns (test_paid (lower_expr globals.pointers e) p.made (blocks.block q.made))))
      (omega (arith, p.few_units, q.few_units)) (omega (arith, p.few_nodes, q.few_nodes)) (omega (arith, p.few_words, q.few_words))
  layer (stmt.Do body e) h declared b j top =
      let bs = and_cases (is_within globals locals sizes declared e) (all_within (scopes body) declared) b in
      let p = value declared e bs.0 (omega (arith, top)) in
      let q = all_paid body h declared bs.1 (in_body j) (omega (arith, top)) in
      stmt_paid (q.units + 1 + (p.units + (0 + 1 + 1)) + 1) (q.words + (p.words + (0 + 1 + 3)) + 1) (q.nodes + (p.nodes + 0))
      (r.weaken (omega arith) (omega arith) (omega arith) (omega arith) (blocks.turns (r.chain (blocks.block q.made) (test_paid (lower_expr globals.pointers e) p.made (r.retree (covers_none []))))))
      (omega (arith, p.few_units, q.few_units)) (omega (arith, p.few_nodes, q.few_nodes)) (omega (arith, p.few_words, q.few_words))
  layer (stmt.For first test step body) h declared b j top =
      let inside = all_behind (scopes first) declared in
      let may_test = optional_within globals locals sizes test inside in
      let may_step = optional_within globals locals sizes step inside in
      let b0 = and_cases (all_within (scopes first) declared) (may_test && (may_step && all_within (scopes body) inside)) b in
      let b1 = and_cases may_test (may_step && all_within (scopes body) inside) b0.1 in
      let b2 = and_cases may_step (all_within (scopes body) inside) b1.1 in
      let begun = all_paid first h.0 declared b0.0 j (omega (arith, top)) in
      let tested = optional_paid 1 test inside b1.0 (omega (arith, top)) in
      let stepped = effect_paid 0 step inside b2.0 (omega (arith, top)) in
      let turn = all_paid body h.1 inside b2.1 (in_body j) (omega (arith, top)) in
      let n = sum_append (map stmt_nodes first) (map stmt_nodes body) in
      let w = sum_append (map (stmt_weight direct through) first) (map (stmt_weight direct through) body) in
      let n' = ap sum (map_append expr_nodes (option_to_list test) (option_to_list step)) ∙ sum_append (map expr_nodes (option_to_list test)) (map expr_nodes (option_to_list step)) in
      let w' = ap sum (map_append weight (option_to_list test) (option_to_list step)) ∙ sum_append (map weight (option_to_list test)) (map weight (option_to_list step)) in
      stmt_paid (begun.units + (tested.units + (turn.units + 1 + 1 + 1) + stepped.units + 1)) (begun.words + (tested.words + (turn.words + 1 + 3) + stepped.words + 1)) (begun.nodes + (tested.nodes + turn.nodes + stepped.nodes))
      (r.weaken (omega arith) (omega arith) (omega arith) (omega (arith, w, w'))
      (r.chain begun.made (blocks.turns (r.chain (test_paid (lower_optional globals.pointers 1 test) tested.made (blocks.block turn.made)) stepped.made))))
      (omega (arith, begun.few_units, tested.few_units, stepped.few_units, turn.few_units, n, n'))
      (omega (arith, begun.few_nodes, tested.few_nodes, stepped.few_nodes, turn.few_nodes, n, n')) (omega (arith, begun.few_words, tested.few_words, stepped.few_words, turn.few_words, n, n'))
  layer (stmt.Switch e arms) h declared b j top =
      let bs = and_cases (is_within globals locals sizes declared e) (arms_within (map (arm_scope globals locals sizes) arms) declared) b in
      stmt_as (omega arith) (omega arith) (switch_paid e arms h declared bs.0 bs.1 j top)
  layer stmt.Break h declared b j top = stmt_paid 1 1 0 (r.weaken (omega arith) (omega arith) (omega arith) (omega arith) (blocks.leaves j.leave)) (omega arith) (omega arith) (omega arith)
  layer stmt.Continue h declared b j top = stmt_paid 1 1 0 (r.weaken (omega arith) (omega arith) (omega arith) (omega arith) (blocks.leaves j.again)) (omega arith) (omega arith) (omega arith)
  layer (stmt.Return None) h declared b j top = stmt_paid 1 1 0 (r.weaken (omega arith) (omega arith) (omega arith) (omega arith) (blocks.leaves j.around)) (omega arith) (omega arith) (omega arith)
  layer (stmt.Return (Some e)) h declared b j top =
      let p = value declared e b top in
      stmt_paid (p.units + 1) (p.words + 1) (p.nodes + 0) (r.weaken (omega arith) (omega arith) (omega arith) (omega arith) (r.chain p.made (blocks.returns (lower_expr globals.pointers e locals).tree)))
      (omega (arith, p.few_units)) (omega (arith, p.few_nodes)) (omega (arith, p.few_words))

  -- statements that are within the limits
  pub body_paid : (body : List Stmt) (declared : ℕ → Bool) → all_within (scopes body) declared ≡ true → (j : Jumps) → (lowered body j).top ≤ room →
      CodePaid (sum (map stmt_nodes body)) (sum (map (stmt_weight direct through) body)) (lowered body j).code
  body_paid body =
      all_paid body (along_stmts counted (λ s. Pays) (λ a. ArmPaid) layer
      (λ x h. record {
        inner = sum (map stmt_nodes x.body);
        nodes = refl;
        body = λ there i declared b j top. code_as (omega arith) (omega arith) (enters_paid there i x.body h declared b j top);
      }) body)
