-- Every statement is lowered correctly, at every bound.
use Rattle.std.proofs.Common.{◌≡◌, ℕ, zero, suc, ◌+◌, ◌≤◌, Bool, true, false, cond, List, [], ◌∷◌, ◌++◌, map, length, Option, Some, None, refl, sym, ◌∙◌, subst, ap, arith}
use Rattle.std.specs.Prelude.{not, ◌&&◌, ◌||◌, nat_eq, nat_lt, nat_le}
use Rattle.std.proofs.lemmas.Bool.{ltb-true, leb-true, eq-eqb, not-true}
use Rattle.std.proofs.lemmas.List.{length-map}
use Rattle.mv_ir.specs.declared.stm.Stm.{Stm}
use Rattle.mv_ir.specs.Outcome.{Returned, Leaves, Ends, Bound, Calls, spend}
use Rattle.mv_ir.proofs.Induction.{Each}
use Rattle.mv_ast.specs.declared.program.Known.{Known}
use Rattle.mv_ast.specs.declared.program.Expr.{Expr}
use Rattle.mv_ast.specs.declared.program.Stmt.{Stmt, Stmt-F, roll-Stmt, out-roll-Stmt, map-Stmt, fold-roll-Stmt}
use Rattle.mv_ast.specs.declared.program.Stmt.TheOpen as stmt
use Rattle.mv_ast.specs.declared.program.Arm.{Arm, Arm-F, roll-Arm, fold-roll-Arm, fold_out-Arm}
use Rattle.mv_ast.specs.Counts.{words_of_size}
use Rattle.mv_ast.specs.Names.{any_of, names_local}
use Rattle.mv_ast.specs.Worlds.{World, Outcome, after, bind, give, stop, counted}
use Rattle.mv_bindings.specs.declared.stop.Stop.TheVariants.{Unfinished}
use Rattle.mv_meaning.specs.declared.state.Frame.{Frame}
use Rattle.mv_meaning.specs.declared.state.Flow.{Flow}
use Rattle.mv_meaning.specs.declared.state.Flow.TheVariants.{Goes, Breaks, Continues, Returns}
use Rattle.mv_meaning.specs.Meaning.{Evaluation, Context, ArmDenotation, value_of, optional_value, flow_of, flow_of_all, arm_of, in_order, then_on, after_body, unless_zero, clear_local, switch_flow}
use Rattle.mv_meaning.proofs.Equations.{flow_of-Block, flow_of-Clear, flow_of-Express, flow_of-If, flow_of-While, flow_of-Do, flow_of-For, flow_of-Switch, flow_of-Break, flow_of-Continue, flow_of-Return, arm_of_lem}
use Rattle.mv_source_forms.proofs.StatementInduction.{StmtChildren, stmts_ind}
use Rattle.mv_lower_spec.specs.Lower.{lower_expr}
use Rattle.mv_source_forms.specs.Names.{is_well_named, but_for, named, named_option, stmt_named_layer, arm_named_layer, stmt_is_well_formed, arm_is_well_formed}
use Rattle.mv_source_forms.specs.Lists.{all_of}
use Rattle.mv_lower_spec.specs.Statements.{FlowShown, FlowCorrect, Jumps, Placed, repeat, enclosed, test_and_body, LoweredArm, in_arm, in_body, in_sequence, arms_top, out_of, turn_out, levels}
use Rattle.mv_lower_spec.specs.LowerStatements.{lower_optional, lower_stmt_layer, lower_arm_layer, lower_stmt, lower_arm}
use Rattle.mv_source_forms.specs.Labels.{ArmLabels, labels_layer, arm_labels_layer, stmt_labelled, arm_labels}
use Rattle.mv_lower_spec.specs.Correct as c
use Rattle.mv_lower_spec.specs.Correct.{Ground, Held, declaring, resting, none, CorrectFor, Correct}
use Rattle.mv_meaning.proofs.Sequences.{after_then, given}
use Rattle.mv_lower_spec.proofs.Expressions.{expr_correct}
use Rattle.mv_lower_spec.proofs.Showing as show
use Rattle.mv_lower_spec.proofs.Forms as forms
use Rattle.mv_lower_spec.proofs.Flows as flows
use Rattle.mv_lower_spec.proofs.Flows.{code}
use Rattle.mv_lower_spec.proofs.Loops as loops
use Rattle.mv_lower_spec.proofs.Loops.{while_turn, do_turn, for_turn, while_same, do_same, for_same, after_same}
use Rattle.mv_lower_spec.proofs.Bare.{bare_of, bare, bare_arms, labelled_switch}
use Rattle.mv_lower_spec.proofs.Switches as switches
use Rattle.mv_lower_spec.proofs.Clears as clears
use Rattle.mv_lower_spec.proofs.Clears.{only, only_there}
use Rattle.mv_num.proofs.Booleans.{and_cases, from_falsity}

module _ (ground : Ground) (void : Bool)
    (limit : ℕ) (calls : ℕ → Calls) (context : ℕ → Context) (fits : ground.locals ≤ ground.room)
    (strict : (k : ℕ) → c.IsStrict ground.p ground.setting.numbers (context k))
    (first_loop : (s : Stmt) → (context zero).loop s ≡ stop Unfinished)
    (next_loop : (k : ℕ) (s : Stmt) → (context (suc k)).loop s ≡ flow_of ground.p (context k) s)
    (agree : (k : ℕ) → k ≤ limit → c.CallsAgree ground.p ground.frame ground.own (levels calls k) (context k))
    (knows : (known : Known) → c.KnownAgrees ground.p ground.frame ground.own ground.setting known) (switched : c.SwitchedAgrees ground.p ground.setting) where
  abbrev at : ℕ → Bound
  at k = levels calls k

  abbrev CorrectAt : Jumps → ℕ → Evaluation Flow → List Stm → Type 0
  CorrectAt j k = FlowCorrect ground void (out_of void j) 0 (at k)

  -- ---- expressions

  value_at : (held : Held) (free : ℕ → Bool) → ((l : ℕ) → free l ≡ true → held l ≡ None) → (k : ℕ) → k ≤ limit → (e : Expr) → is_well_named ground.p ground.own ground.locals ground.sizes free e ≡ true →
      Correct (declaring ground held) (at k) (value_of ground.p (context k) e) (lower_expr ground.p.pointers e)
  value_at held free frees k up e b = expr_correct ground held (at k) free frees (context k) fits (strict k) (agree k up) knows switched e b ground.locals (λ k. 0)

  value : (k : ℕ) → k ≤ limit → (e : Expr) → named ground.p ground.own ground.locals ground.sizes void e ≡ true → CorrectFor (resting ground) (at k) 0 (value_of ground.p (context k) e) (lower_expr ground.p.pointers e)
  value k up e b = value_at none (λ l. true) (λ l q. refl) k up e b

  optional : (k : ℕ) → k ≤ limit → (v : ℕ) (e : Option Expr) → named_option ground.p ground.own ground.locals ground.sizes void e ≡ true →
      CorrectFor (resting ground) (at k) 14 (optional_value ground.p (context k) v e) (lower_optional ground.p.pointers v e)
  optional k up v None b = forms.correct_number (resting ground) (at k) v
  optional k up v (Some e) b = show.with_more (resting ground) (at k) 0 14 (value_of ground.p (context k) e) (lower_expr ground.p.pointers e) (omega arith) (value k up e b)

  values_at : (held : Held) (free : ℕ → Bool) → ((l : ℕ) → free l ≡ true → held l ≡ None) → (k : ℕ) → k ≤ limit → (es : List Expr) → all_of (map (is_well_named ground.p ground.own ground.locals ground.sizes free) es) ≡ true →
      clears.AllAt ground void held (at k) (map (value_of ground.p (context k)) es) (map (lower_expr ground.p.pointers) es)
  values_at held free frees k up [] b = tt
  values_at held free frees k up (e ∷ es) b =
      let bs = and_cases (is_well_named ground.p ground.own ground.locals ground.sizes free e) (all_of (map (is_well_named ground.p ground.own ground.locals ground.sizes free) es)) b in
      (value_at held free frees k up e bs.0, values_at held free frees k up es bs.1)

  but_for_free : (l : ℕ) (both : List ℕ × List ℕ) (k : ℕ) → but_for l k ≡ true → only l both k ≡ None
  but_for_free l both k e = only_there l both k (λ eq. from_falsity (sym (not-true (nat_eq k l) e) ∙ eq-eqb k l eq))

  -- ---- statements

  -- Code that is correct for a statement, which counts as it begins: with what is left of that count an arm of a `switch` is entered that it begins.
  pub record Counts (j : Jumps) (k : ℕ) (m : Evaluation Flow) (xs : List Stm) : Type 0 where
    pub rest : Evaluation Flow
    pub counts : m ≡ counted 1 rest
    pub right : FlowCorrect ground void (out_of void j) 72 (at k) rest xs

  abbrev S : Stmt → Type 0
  S s =
      stmt_is_well_formed ground.p ground.own ground.locals ground.sizes void s ≡ true → stmt_labelled s ≡ true → (j : Jumps) → (lower_stmt ground.p.pointers ground.locals ground.sizes void s j).top ≤ ground.room → (k : ℕ) → k ≤ limit →
      Counts j k (flow_of ground.p (context k) s) (lower_stmt ground.p.pointers ground.locals ground.sizes void s j).code

  -- an arm, with what it was lowered to
  pub record ArmShown (a : Arm) (l : LoweredArm) : Type 0 where
    pub labels : (k : ℕ) → l.labels ≡ (arm_of ground.p (context k) a).labels
    pub other : (k : ℕ) → l.other ≡ (arm_of ground.p (context k) a).other
    pub body : arm_is_well_formed ground.p ground.own ground.locals ground.sizes void a ≡ true → (arm_labels a).holds ≡ true → (j : Jumps) → (l.body (in_arm j)).top ≤ ground.room → (k : ℕ) → k ≤ limit →
        switches.Pays ground void (at k) j (in_order (arm_of ground.p (context k) a).body) (l.body (in_arm j)).code

  abbrev A : Arm → Type 0
  A a = ArmShown a (lower_arm ground.p.pointers ground.locals ground.sizes void a)

  abbrev lowered : List Stmt → Placed
  lowered body = in_sequence ground.locals (map (lower_stmt ground.p.pointers ground.locals ground.sizes void) body)

  abbrev formed : List Stmt → Bool
  formed body = all_of (map (stmt_is_well_formed ground.p ground.own ground.locals ground.sizes void) body)

  abbrev labelled : List Stmt → Bool
  labelled body = all_of (map stmt_labelled body)

  once : (j : Jumps) (k : ℕ) (m : Evaluation Flow) (xs : List Stm) → Counts j k m xs → CorrectAt j k m xs
  once j k m xs h = subst (λ (d : Evaluation Flow). CorrectAt j k d xs) (sym h.counts) (flows.counted_once ground void (out_of void j) (at k) h.rest xs h.right)

  all_correct : (body : List Stmt) → Each S body → formed body ≡ true → labelled body ≡ true → (j : Jumps) → (lowered body j).top ≤ ground.room →
      (k : ℕ) → k ≤ limit → CorrectAt j k (flow_of_all ground.p (context k) body) (lowered body j).code
  all_correct [] h b l j le k up = flows.nothing_to_do ground void j (at k)
  all_correct (s ∷ body) h b l j le k up =
      let bs = and_cases (stmt_is_well_formed ground.p ground.own ground.locals ground.sizes void s) (formed body) b in
      let ls = and_cases (stmt_labelled s) (labelled body) l in
      (λ f w st sh. flows.more ground void (out_of void j) (0 + 0) 0 (code ground (lowered (s ∷ body) j).code (at k) st) (flow_of_all ground.p (context k) (s ∷ body) f w) (omega arith)
      (flows.in_turn ground void j (at k) 0 0 (flow_of ground.p (context k) s) (flow_of_all ground.p (context k) body) (lower_stmt ground.p.pointers ground.locals ground.sizes void s j).code (lowered body j).code
      (once j k (flow_of ground.p (context k) s) (lower_stmt ground.p.pointers ground.locals ground.sizes void s j).code (h.0 bs.0 ls.0 j (omega (arith, le)) k up)) (all_correct body h.1 bs.1 ls.1 j (omega (arith, le)) k up) f w st sh))

  abbrev entry : List Stm → ℕ
  entry = switches.entry ground void

  entry_is_paid : (xs : List Stm) → entry xs ≤ 28
  entry_is_paid [] = omega arith
  entry_is_paid (x ∷ xs) = omega arith

  -- the first of some statements pays for entering an arm
  all_pay : (body : List Stmt) → Each S body → formed body ≡ true → labelled body ≡ true → (j : Jumps) → (lowered body (in_arm j)).top ≤ ground.room → (k : ℕ) → k ≤ limit →
      switches.Pays ground void (at k) j (flow_of_all ground.p (context k) body) (lowered body (in_arm j)).code
  all_pay [] h b l j le k up f w st sh =
      let o = flow_of_all ground.p (context k) [] f w in
      flows.priced ground void (out_of void (in_arm j)) 0 0 (code ground [] (at k) st) (spend 0 (code ground [] (at k) st)) o refl
      (all_correct [] h b l (in_arm j) le k up f w st sh)
  all_pay (s ∷ body) h b l j le k up f w st sh =
      let bs = and_cases (stmt_is_well_formed ground.p ground.own ground.locals ground.sizes void s) (formed body) b in
      let ls = and_cases (stmt_labelled s) (labelled body) l in
      let first = h.0 bs.0 ls.0 (in_arm j) (omega (arith, le)) k up in
      let xs = (lowered (s ∷ body) (in_arm j)).code in
      let others = flow_of_all ground.p (context k) body in
      let r = code ground xs (at k) st in
      let o = bind first.rest (λ flow. then_on flow others) f w in
      subst (λ (m : Evaluation Flow). FlowShown ground void (out_of void (in_arm j)) 0 (spend (entry xs) r) (bind m (λ flow. then_on flow others) f w)) (sym first.counts)
      (subst (λ (q : Outcome Frame Flow). FlowShown ground void (out_of void (in_arm j)) 0 (spend (entry xs) r) q) (sym (after_then 1 (first.rest f w) (λ flow. then_on flow others)))
      (flows.paid_by ground void (out_of void (in_arm j)) 0 1 (spend (entry xs) r) o
      (flows.more ground void (out_of void (in_arm j)) ((0 + 72) + entry xs) 100 (spend (entry xs) r) o (omega (arith, entry_is_paid xs))
      (flows.priced ground void (out_of void (in_arm j)) (0 + 72) (entry xs) r (spend (entry xs) r) o refl
      (flows.in_turn ground void (in_arm j) (at k) 72 0 first.rest others (lower_stmt ground.p.pointers ground.locals ground.sizes void s (in_arm j)).code (lowered body (in_arm j)).code first.right
      (all_correct body h.1 bs.1 ls.1 (in_arm j) (omega (arith, le)) k up) f w st sh)))))

  -- ---- loops

  abbrev loop_of : ℕ → Stmt → Evaluation Flow
  loop_of k s = (context k).loop s

  -- a loop, from what a turn of it is, where the loop is the whole statement
  looped : (j : Jumps) (whole : Stmt) (xs : List Stm) (mt rest : ℕ → Evaluation Flow) →
      ((k : ℕ) → k ≤ limit → FlowCorrect ground void (turn_out void j) 64 (at k) (mt k) xs) →
      ((k : ℕ) (f : Frame) (w : World) → rest k f w ≡ bind (mt k) (λ flow. after_body flow (loop_of k whole)) f w) →
      ((k : ℕ) (f : Frame) (w : World) → flow_of ground.p (context k) whole f w ≡ counted 1 (rest k) f w) →
      (k : ℕ) → k ≤ limit → FlowCorrect ground void (out_of void j) 72 (at k) (rest k) (repeat xs ∷ [])
  looped j whole xs mt rest turns is again k up =
      flows.loop_correct ground void j limit calls mt rest xs turns
      (λ f w. is zero f w ∙ ap (λ (l : Evaluation Flow). bind (mt zero) (λ flow. after_body flow l) f w) (first_loop whole))
      (λ i f w. is (suc i) f w ∙ after_same (mt (suc i)) (loop_of (suc i) whole) (counted 1 (rest i)) f w (λ f1 w1. ap (λ (l : Evaluation Flow). l f1 w1) (next_loop i whole) ∙ again i f1 w1)) k up

  -- ---- each form

  abbrev blocks : Stmt-F Stmt Arm → Stmt-F Placed LoweredArm
  blocks = map-Stmt Stmt Arm Placed LoweredArm (lower_stmt ground.p.pointers ground.locals ground.sizes void) (lower_arm ground.p.pointers ground.locals ground.sizes void)

  abbrev tests : Stmt-F Stmt Arm → Stmt-F Bool Bool
  tests = map-Stmt Stmt Arm Bool Bool (stmt_is_well_formed ground.p ground.own ground.locals ground.sizes void) (arm_is_well_formed ground.p ground.own ground.locals ground.sizes void)

  abbrev labels : Stmt-F Stmt Arm → Stmt-F Bool ArmLabels
  labels = map-Stmt Stmt Arm Bool ArmLabels stmt_labelled arm_labels

  -- the statement is counted, and does this
  counts : (j : Jumps) (k : ℕ) (s : Stmt) (m : Evaluation Flow) (xs : List Stm) → flow_of ground.p (context k) s ≡ counted 1 m → FlowCorrect ground void (out_of void j) 72 (at k) m xs → Counts j k (flow_of ground.p (context k) s) xs
  counts j k s m xs e h = record { rest = m; counts = e; right = h }

  raise : (j : Jumps) (credit credit' : ℕ) (b : Bound) (m : Evaluation Flow) (xs : List Stm) → credit ≤ credit' → FlowCorrect ground void (out_of void j) credit b m xs → FlowCorrect ground void (out_of void j) credit' b m xs
  raise j credit credit' b m xs le h f w s sh = flows.more ground void (out_of void j) credit credit' (code ground xs b s) (m f w) le (h f w s sh)

  arms_correct : (arms : List Arm) → Each A arms → all_of (map (arm_is_well_formed ground.p ground.own ground.locals ground.sizes void) arms) ≡ true → all_of (map (λ (z : ArmLabels). z.holds) (map arm_labels arms)) ≡ true →
      (j : Jumps) → arms_top ground.locals (map (lower_arm ground.p.pointers ground.locals ground.sizes void) arms) j ≤ ground.room → (k : ℕ) → k ≤ limit →
      switches.ArmsCorrect ground void (at k) j (map (arm_of ground.p (context k)) arms) (map (lower_arm ground.p.pointers ground.locals ground.sizes void) arms)
  arms_correct [] h b l j le k up = tt
  arms_correct (a ∷ arms) h b l j le k up =
      let bs = and_cases (arm_is_well_formed ground.p ground.own ground.locals ground.sizes void a) (all_of (map (arm_is_well_formed ground.p ground.own ground.locals ground.sizes void) arms)) b in
      let ls = and_cases (arm_labels a).holds (all_of (map (λ (z : ArmLabels). z.holds) (map arm_labels arms))) l in
      (h.0.labels k, h.0.other k, h.0.body bs.0 ls.0 j (omega (arith, le)) k up, arms_correct arms h.1 bs.1 ls.1 j (omega (arith, le)) k up)

  as_bare : (arms : List Arm) → switches.bare_arms (map (lower_arm ground.p.pointers ground.locals ground.sizes void) arms) ≡ bare_arms arms
  as_bare [] = refl
  as_bare (a ∷ arms) =
      let others = switches.bare_arms (map (lower_arm ground.p.pointers ground.locals ground.sizes void) arms) in
      ap (λ (l : LoweredArm). bare_of l.labels + others)
      (fold_out-Arm Placed LoweredArm (lower_stmt_layer ground.p.pointers ground.locals ground.sizes void)
      (lower_arm_layer ground.p.pointers ground.locals ground.sizes void) a) ∙
      ap (λ n. bare a + n) (as_bare arms)

  layer : (x : Stmt-F Stmt Arm) → StmtChildren S A x → stmt_named_layer ground.p ground.own ground.locals ground.sizes void (tests x) ≡ true →
      labels_layer (labels x) ≡ true → (j : Jumps) →
      (lower_stmt_layer ground.p.pointers ground.locals ground.sizes void (blocks x) j).top ≤ ground.room → (k : ℕ) → k ≤ limit →
      Counts j k (flow_of ground.p (context k) (roll-Stmt x)) (lower_stmt_layer ground.p.pointers ground.locals ground.sizes void (blocks x) j).code
  layer (stmt.Block body) h b l j le k up =
      let x : Stmt-F Stmt Arm = stmt.Block body in
      counts j k (roll-Stmt x) (flow_of_all ground.p (context k) body) (lower_stmt_layer ground.p.pointers ground.locals ground.sizes void (blocks x) j).code (flow_of-Block ground.p (context k) (roll-Stmt x) body (out-roll-Stmt x))
      (raise j 0 72 (at k) (flow_of_all ground.p (context k) body) (lowered body j).code (omega arith) (all_correct body h b l j le k up))
  layer (stmt.Clear l values) h b q j le k up =
      let x : Stmt-F Stmt Arm = stmt.Clear l values in
      let itself = any_of (map (names_local l) values) in
      let all = all_of (map (named ground.p ground.own ground.locals ground.sizes void) values) in
      let others = all_of (map (is_well_named ground.p ground.own ground.locals ground.sizes (but_for l)) values) in
      let b0 = and_cases (nat_lt l ground.locals) (nat_le (length values) (words_of_size (ground.sizes l)) && (all && (itself || others))) b in
      let b1 = and_cases (nat_le (length values) (words_of_size (ground.sizes l))) (all && (itself || others)) b0.1 in
      let b2 = and_cases all (itself || others) b1.1 in
      counts j k (roll-Stmt x) (clear_local l itself (map (value_of ground.p (context k)) values))
      (lower_stmt_layer ground.p.pointers ground.locals ground.sizes void (blocks x) j).code
      (flow_of-Clear ground.p (context k) (roll-Stmt x) l values (out-roll-Stmt x))
      (clears.clear_correct ground void j (at k) l itself (map (value_of ground.p (context k)) values) (map (lower_expr ground.p.pointers) values)
      (ltb-true l ground.locals b0.0) fits
      (length-map values (value_of ground.p (context k)) ∙ sym (length-map values (lower_expr ground.p.pointers)))
      (subst (λ n. n ≤ words_of_size (ground.sizes l)) (sym (length-map values (lower_expr ground.p.pointers)))
      (leb-true (length values) (words_of_size (ground.sizes l)) b1.0)) le
      (values_at none (λ l. true) (λ l q. refl) k up values b2.0)
      (λ e both. values_at (only l both) (but_for l) (but_for_free l both) k up values (left_over itself others b2.1 e)))
    where
      left_over : (a c : Bool) → (a || c) ≡ true → a ≡ false → c ≡ true
      left_over true c e q = from_falsity (sym q)
      left_over false c e q = e
  layer (stmt.Express e) h b l j le k up =
      let x : Stmt-F Stmt Arm = stmt.Express e in
      counts j k (roll-Stmt x) (bind (value_of ground.p (context k) e) (λ v. give Goes))
      (lower_stmt_layer ground.p.pointers ground.locals ground.sizes void (blocks x) j).code
      (flow_of-Express ground.p (context k) (roll-Stmt x) e (out-roll-Stmt x))
      (flows.effect ground void (out_of void j) Goes (at k) 72 0 (value_of ground.p (context k) e) (lower_expr ground.p.pointers e) (λ s. refl)
      (λ q. refl) (omega arith) le (value k up e b))
  layer (stmt.If e yes_part no_part) h b l j le k up =
      let x : Stmt-F Stmt Arm = stmt.If e yes_part no_part in
      let bs = and_cases (named ground.p ground.own ground.locals ground.sizes void e) (formed yes_part && formed no_part) b in
      let cs = and_cases (formed yes_part) (formed no_part) bs.1 in
      let ls = and_cases (labelled yes_part) (labelled no_part) l in
      counts j k (roll-Stmt x) (bind (value_of ground.p (context k) e)
      (λ v. unless_zero v (flow_of_all ground.p (context k) no_part) (flow_of_all ground.p (context k) yes_part)))
      (lower_stmt_layer ground.p.pointers ground.locals ground.sizes void (blocks x) j).code
      (flow_of-If ground.p (context k) (roll-Stmt x) e yes_part no_part (out-roll-Stmt x))
      (raise j (0 + 0) 72 (at k) (bind (value_of ground.p (context k) e)
      (λ v. unless_zero v (flow_of_all ground.p (context k) no_part) (flow_of_all ground.p (context k) yes_part)))
      (lower_stmt_layer ground.p.pointers ground.locals ground.sizes void (blocks x) j).code (omega arith)
      (flows.tested ground void (out_of void j) (at k) 0 0 (value_of ground.p (context k) e) (flow_of_all ground.p (context k) yes_part)
      (flow_of_all ground.p (context k) no_part) (lower_expr ground.p.pointers e) (lowered yes_part j).code (lowered no_part j).code
      (omega (arith, le)) (value k up e bs.0) (all_correct yes_part h.0 cs.0 ls.0 j (omega (arith, le)) k up)
      (all_correct no_part h.1 cs.1 ls.1 j (omega (arith, le)) k up)))
  layer (stmt.While e body) h b l j le k up =
      let x : Stmt-F Stmt Arm = stmt.While e body in
      let bs = and_cases (named ground.p ground.own ground.locals ground.sizes void e) (formed body) b in
      let me : ℕ → Evaluation ℕ = λ i. value_of ground.p (context i) e in
      let mb : ℕ → Evaluation Flow = λ i. flow_of_all ground.p (context i) body in
      let turn = test_and_body ground.locals (lower_expr ground.p.pointers e) (enclosed (lowered body (in_body j)).code ∷ []) in
      let rest : ℕ → Evaluation Flow = λ i. bind (me i) (λ v. unless_zero v (give Goes) (bind (mb i) (λ flow. after_body flow (loop_of i (roll-Stmt x))))) in
      counts j k (roll-Stmt x) (rest k) (lower_stmt_layer ground.p.pointers ground.locals ground.sizes void (blocks x) j).code
      (flow_of-While ground.p (context k) (roll-Stmt x) e body (out-roll-Stmt x))
      (looped j (roll-Stmt x) turn (λ i. while_turn (me i) (mb i)) rest
      (λ i lim f w s sh. flows.more ground void (turn_out void j) (8 + 0) 64 (code ground turn (at i) s) (while_turn (me i) (mb i) f w)
      (omega arith) (loops.while_correct ground void j (at i) 0 (me i) (mb i) (lower_expr ground.p.pointers e) (lowered body (in_body j)).code
      (omega (arith, le)) (value i lim e bs.0) (all_correct body h bs.1 l (in_body j) (omega (arith, le)) i lim) f w s sh))
      (λ i f w. sym (while_same (me i) (mb i) (loop_of i (roll-Stmt x)) f w))
      (λ i f w. ap (λ (m : Evaluation Flow). m f w) (flow_of-While ground.p (context i) (roll-Stmt x) e body (out-roll-Stmt x))) k up)
  layer (stmt.Do body e) h b l j le k up =
      let x : Stmt-F Stmt Arm = stmt.Do body e in
      let bs = and_cases (named ground.p ground.own ground.locals ground.sizes void e) (formed body) b in
      let me : ℕ → Evaluation ℕ = λ i. value_of ground.p (context i) e in
      let mb : ℕ → Evaluation Flow = λ i. flow_of_all ground.p (context i) body in
      let rest : ℕ → Evaluation Flow = λ i. bind (mb i) (λ flow. after_body flow (bind (me i) (λ v. unless_zero v (give Goes) (loop_of i (roll-Stmt x))))) in
      counts j k (roll-Stmt x) (rest k) (lower_stmt_layer ground.p.pointers ground.locals ground.sizes void (blocks x) j).code (flow_of-Do ground.p (context k) (roll-Stmt x) body e (out-roll-Stmt x))
      (looped j (roll-Stmt x) (enclosed (lowered body (in_body j)).code ∷ test_and_body ground.locals (lower_expr ground.p.pointers e) []) (λ i. do_turn (mb i) (me i)) rest
      (λ i lim. loops.do_correct ground void j (at i) (me i) (mb i) (lower_expr ground.p.pointers e) (lowered body (in_body j)).code (omega (arith, le)) (value i lim e bs.0) (all_correct body h bs.1 l (in_body j) (omega (arith, le)) i lim))
      (λ i f w. sym (do_same (mb i) (me i) (loop_of i (roll-Stmt x)) f w))
      (λ i f w. ap (λ (m : Evaluation Flow). m f w) (flow_of-Do ground.p (context i) (roll-Stmt x) body e (out-roll-Stmt x))) k up)
  layer (stmt.For first test step body) h b l j le k up =
      let x : Stmt-F Stmt Arm = stmt.For first test step body in
      let again : Stmt-F Stmt Arm = stmt.For [] test step body in
      let turn = test_and_body ground.locals (lower_optional ground.p.pointers 1 test) (enclosed (lowered body (in_body j)).code ∷ []) ++ (lower_optional ground.p.pointers 0 step ground.locals).code in
      let b0 = and_cases (formed first) (named_option ground.p ground.own ground.locals ground.sizes void test && (named_option ground.p ground.own ground.locals ground.sizes void step && formed body)) b in
      let b1 = and_cases (named_option ground.p ground.own ground.locals ground.sizes void test) (named_option ground.p ground.own ground.locals ground.sizes void step && formed body) b0.1 in
      let b2 = and_cases (named_option ground.p ground.own ground.locals ground.sizes void step) (formed body) b1.1 in
      let ls = and_cases (labelled first) (labelled body) l in
      let me : ℕ → Evaluation ℕ = λ i. optional_value ground.p (context i) 1 test in
      let ms : ℕ → Evaluation ℕ = λ i. optional_value ground.p (context i) 0 step in
      let mb : ℕ → Evaluation Flow = λ i. flow_of_all ground.p (context i) body in
      let rest : ℕ → Evaluation Flow = λ i. bind (me i) (λ v. unless_zero v (give Goes) (bind (mb i) (λ flow. after_body flow (bind (ms i) (λ _. loop_of i (roll-Stmt again)))))) in
      counts j k (roll-Stmt x) (bind (flow_of_all ground.p (context k) first) (λ begun. then_on begun (rest k)))
      (lower_stmt_layer ground.p.pointers ground.locals ground.sizes void (blocks x) j).code
      (flow_of-For ground.p (context k) (roll-Stmt x) first test step body (out-roll-Stmt x))
      (raise j (72 + 0) 72 (at k) (bind (flow_of_all ground.p (context k) first) (λ begun. then_on begun (rest k)))
      (lower_stmt_layer ground.p.pointers ground.locals ground.sizes void (blocks x) j).code (omega arith)
      (flows.in_turn ground void j (at k) 0 72 (flow_of_all ground.p (context k) first) (rest k) (lowered first j).code (repeat turn ∷ [])
      (all_correct first h.0 b0.0 ls.0 j (omega (arith, le)) k up)
      (looped j (roll-Stmt again) turn (λ i. for_turn (me i) (mb i) (ms i)) rest
      (λ i lim. loops.for_correct ground void j (at i) (me i) (ms i) (mb i) (lower_optional ground.p.pointers 1 test)
      (lower_optional ground.p.pointers 0 step) (lowered body (in_body j)).code (omega (arith, le)) (omega (arith, le))
      (optional i lim 1 test b1.0) (optional i lim 0 step b2.0)
      (all_correct body h.1 b2.1 ls.1 (in_body j) (omega (arith, le)) i lim))
      (λ i f w. sym (for_same (me i) (mb i) (ms i) (loop_of i (roll-Stmt again)) f w))
      (λ i f w. ap (λ (m : Evaluation Flow). m f w)
      (flow_of-For ground.p (context i) (roll-Stmt again) [] test step body (out-roll-Stmt again)) ∙
      counted_given (rest i) f w) k up)))
    where
      counted_given : (m : Evaluation Flow) (f : Frame) (w : World) → counted 1 (bind (give Goes) (λ begun. then_on begun m)) f w ≡ counted 1 m f w
      counted_given m f w = ap (after 1) (given Goes (λ begun. then_on begun m) f w)
  layer (stmt.Switch e arms) h b l j le k up =
      let x : Stmt-F Stmt Arm = stmt.Switch e arms in
      let bs = and_cases (named ground.p ground.own ground.locals ground.sizes void e) (all_of (map (arm_is_well_formed ground.p ground.own ground.locals ground.sizes void) arms)) b in
      let ls = labelled_switch arms l in
      counts j k (roll-Stmt x) (bind (value_of ground.p (context k) e) (λ v. switch_flow v (map (arm_of ground.p (context k)) arms)))
      (lower_stmt_layer ground.p.pointers ground.locals ground.sizes void (blocks x) j).code
      (flow_of-Switch ground.p (context k) (roll-Stmt x) e arms (out-roll-Stmt x))
      (switches.switch_correct ground void j (at k) (value_of ground.p (context k) e) (lower_expr ground.p.pointers e)
      (map (arm_of ground.p (context k)) arms) (map (lower_arm ground.p.pointers ground.locals ground.sizes void) arms) (omega (arith, le))
      (omega (arith, le)) (omega (arith, as_bare arms, ls.few)) (value k up e bs.0)
      (arms_correct arms h bs.1 ls.inside j (omega (arith, le)) k up))
  layer stmt.Break h b l j le k up =
      let x : Stmt-F Stmt Arm = stmt.Break in
      counts j k (roll-Stmt x) (give Breaks) (lower_stmt_layer ground.p.pointers ground.locals ground.sizes void (blocks x) j).code
      (flow_of-Break ground.p (context k) (roll-Stmt x) (out-roll-Stmt x)) (flows.leaves ground void j (at k) j.leave Breaks (λ s. refl) refl)
  layer stmt.Continue h b l j le k up =
      let x : Stmt-F Stmt Arm = stmt.Continue in
      counts j k (roll-Stmt x) (give Continues) (lower_stmt_layer ground.p.pointers ground.locals ground.sizes void (blocks x) j).code
      (flow_of-Continue ground.p (context k) (roll-Stmt x) (out-roll-Stmt x)) (flows.leaves ground void j (at k) j.again Continues (λ s. refl) refl)
  layer (stmt.Return None) h b l j le k up =
      let x : Stmt-F Stmt Arm = stmt.Return None in
      counts j k (roll-Stmt x) (bind (give 0) (λ v. give (Returns v)))
      (lower_stmt_layer ground.p.pointers ground.locals ground.sizes void (blocks x) j).code
      (flow_of-Return ground.p (context k) (roll-Stmt x) None (out-roll-Stmt x))
      (flows.comes_to ground void (out_of void j) 72 (at k) (give (Returns 0)) (bind (give 0) (λ v. give (Returns v)))
      (lower_stmt_layer ground.p.pointers ground.locals ground.sizes void (blocks x) j).code (λ f w. sym (given 0 (λ v. give (Returns v)) f w))
      (flows.leaves ground void j (at k) j.around (Returns 0) (λ s. ap (λ z. cond z (Leaves j.around s) (Ends (Returned (Some 0) s.world))) b)
      refl))
  layer (stmt.Return (Some e)) h b l j le k up =
      let x : Stmt-F Stmt Arm = stmt.Return (Some e) in
      let bs = and_cases (not void) (named ground.p ground.own ground.locals ground.sizes void e) b in
      counts j k (roll-Stmt x) (bind (value_of ground.p (context k) e) (λ v. give (Returns v)))
      (lower_stmt_layer ground.p.pointers ground.locals ground.sizes void (blocks x) j).code
      (flow_of-Return ground.p (context k) (roll-Stmt x) (Some e) (out-roll-Stmt x))
      (flows.returns ground void j (at k) (value_of ground.p (context k) e) (lower_expr ground.p.pointers e) (not-true void bs.0) le
      (value k up e bs.1))

  stmt_step : (x : Stmt-F Stmt Arm) → StmtChildren S A x → S (roll-Stmt x)
  stmt_step x h b l j =
      subst (λ (l : Placed). (l j).top ≤ ground.room → (k : ℕ) → k ≤ limit → Counts j k (flow_of ground.p (context k) (roll-Stmt x)) (l j).code)
      (sym (fold-roll-Stmt Placed LoweredArm (lower_stmt_layer ground.p.pointers ground.locals ground.sizes void)
      (lower_arm_layer ground.p.pointers ground.locals ground.sizes void) x))
      (layer x h (sym (fold-roll-Stmt Bool Bool (stmt_named_layer ground.p ground.own ground.locals ground.sizes void)
      (arm_named_layer ground.p ground.own ground.locals ground.sizes void) x) ∙
      b)
      (sym (fold-roll-Stmt Bool ArmLabels labels_layer arm_labels_layer x) ∙ l) j)

  arm_step : (x : Arm-F Stmt Arm) → Each S x.body → A (roll-Arm x)
  arm_step x h =
      let a : Arm = roll-Arm x in
      let labels_as = fold-roll-Arm Bool ArmLabels labels_layer arm_labels_layer x in
      subst (λ (l : LoweredArm). ArmShown a l) (sym (fold-roll-Arm Placed LoweredArm (lower_stmt_layer ground.p.pointers ground.locals ground.sizes void) (lower_arm_layer ground.p.pointers ground.locals ground.sizes void) x))
      (record {
        labels = λ k. sym (ap (λ (d : ArmDenotation). d.labels) (arm_of_lem ground.p (context k) a));
        other = λ k. sym (ap (λ (d : ArmDenotation). d.other) (arm_of_lem ground.p (context k) a));
        body = λ b l j le k up. subst
            (λ (ms : List (Evaluation Flow)). switches.Pays ground void (at k) j (in_order ms) (lowered x.body (in_arm j)).code)
            (sym (ap (λ (d : ArmDenotation). d.body) (arm_of_lem ground.p (context k) a)))
            (all_pay x.body h (sym (fold-roll-Arm Bool Bool (stmt_named_layer ground.p ground.own ground.locals ground.sizes void)
            (arm_named_layer ground.p ground.own ground.locals ground.sizes void) x) ∙
            b)
            (sym (ap (λ (z : ArmLabels). z.holds) labels_as) ∙ l) j le k up);
      })

  -- Statements that name only what there is are lowered correctly, at each bound.
  pub body_correct : (body : List Stmt) → formed body ≡ true → labelled body ≡ true → (j : Jumps) → (lowered body j).top ≤ ground.room → (k : ℕ) → k ≤ limit → CorrectAt j k (flow_of_all ground.p (context k) body) (lowered body j).code
  body_correct body b l j le k up = all_correct body (stmts_ind S A stmt_step arm_step body) b l j le k up
