-- The same for statements, and for programs at two bounds.
use Rattle.std.proofs.Common.{◌≡◌, ℕ, zero, suc, ◌-◌, ◌≤◌, Bool, if◌then◌else◌, List, [], ◌∷◌, ◌++◌, map, drop, length, replicate, arith, refl, sym, ◌∙◌, ap, subst, Option, Some, None, slice_get}
use Rattle.std.specs.Prelude.{slice_set}
use Rattle.std.proofs.lemmas.List.{length-map, drop-map}
use Rattle.mv_ast.specs.declared.program.Program.{Program}
use Rattle.mv_ast.specs.declared.program.Function.{Function}
use Rattle.mv_ast.specs.declared.program.Expr.{Expr}
use Rattle.mv_ast.specs.declared.program.Stmt.{Stmt, Stmt-F, roll-Stmt, out-roll-Stmt, map-Stmt, ind-Stmt}
use Rattle.mv_ast.specs.declared.program.Stmt.TheOpen as stmt
use Rattle.mv_ast.specs.declared.program.Arm.{Arm, Arm-F, roll-Arm, map-Arm}
use Rattle.mv_bindings.specs.declared.stop.Stop.TheVariants.{Unfinished}
use Rattle.mv_ast.specs.Worlds.{World, Outcome, Came, Stopped, stop, counted, give}
use Rattle.mv_ast.specs.Names.{any_of, names_local}
use Rattle.mv_meaning.specs.declared.state.Frame.{Frame}
use Rattle.mv_meaning.specs.declared.state.Lvalue.TheVariants as lvalue
use Rattle.mv_meaning.specs.declared.state.Flow.{Flow}
use Rattle.mv_meaning.specs.declared.state.Flow.TheVariants.{Goes, Breaks, Continues, Returns}
use Rattle.mv_meaning.specs.Meaning.{Evaluation, Context, then_on, after_body, after_switch, in_order, bodies_of, switch_flow, put_values, size_of, clear_local, optional_value, value_of, flow_of, flow_of_all, arm_of, call_of, back_in, deeper, frame_of, context_at, run_of_main}
use Rattle.mv_meaning.specs.Arms.{first_arm}
use Rattle.mv_meaning.specs.Loops.{arms_from}
use Rattle.mv_meaning.specs.Growth.{Grew, world_left, work_done, Grows, IsContinued, same, further}
use Rattle.mv_meaning.proofs.Equations.{flow_of-Block, flow_of-Clear, flow_of-Express, flow_of-If, flow_of-While, flow_of-Do, flow_of-For, flow_of-Switch, flow_of-Break, flow_of-Continue, flow_of-Return, arm_of_lem}
use Rattle.mv_meaning.proofs.SwitchArms.{leads_to}
use Rattle.mv_meaning.proofs.Contexts.{lets_at}
use Rattle.mv_meaning.proofs.Rising.{Rises, ContextRises, rises_give, rises_stop, rises_counted, rises_unless, rises_bind, rises_store, value_rises}

rises_then : (flow : Flow) (d e : Evaluation Flow) → Rises d e → Rises (then_on flow d) (then_on flow e)
rises_then Goes d e r = r
rises_then Breaks d e r = rises_give Breaks
rises_then Continues d e r = rises_give Continues
rises_then (Returns v) d e r = rises_give (Returns v)

rises_after : (flow : Flow) (d e : Evaluation Flow) → Rises d e → Rises (after_body flow d) (after_body flow e)
rises_after Goes d e r = r
rises_after Breaks d e r = rises_give Goes
rises_after Continues d e r = r
rises_after (Returns v) d e r = rises_give (Returns v)

rises_behind : (flow : Flow) → Rises (after_switch flow) (after_switch flow)
rises_behind Goes = rises_give Goes
rises_behind Breaks = rises_give Goes
rises_behind Continues = rises_give Continues
rises_behind (Returns v) = rises_give (Returns v)

-- one after the other
pub data RisesAll : List (Evaluation Flow) → List (Evaluation Flow) → Type 0 where
  no_more : RisesAll [] []
  one_more : {d e : Evaluation Flow} {ds es : List (Evaluation Flow)} → Rises d e → RisesAll ds es → RisesAll (d ∷ ds) (e ∷ es)

rises_in_order : (ds es : List (Evaluation Flow)) → RisesAll ds es → Rises (in_order ds) (in_order es)
rises_in_order [] [] no_more = rises_give Goes
rises_in_order [] (e ∷ es) r = elim r [ ]
rises_in_order (d ∷ ds) [] r = elim r [ ]
rises_in_order (d ∷ ds) (e ∷ es) (one_more r rs) =
    rises_bind d e (λ flow. then_on flow (in_order ds)) (λ flow. then_on flow (in_order es)) r
    (λ flow. rises_then flow (in_order ds) (in_order es) (rises_in_order ds es rs))

all_append : (ds es ds' es' : List (Evaluation Flow)) → RisesAll ds es → RisesAll ds' es' → RisesAll (ds ++ ds') (es ++ es')
all_append [] [] ds' es' no_more q = q
all_append [] (e ∷ es) ds' es' r q = elim r [ ]
all_append (d ∷ ds) [] ds' es' r q = elim r [ ]
all_append (d ∷ ds) (e ∷ es) ds' es' (one_more r rs) q = one_more r (all_append ds es ds' es' rs q)

-- the same evaluations, point by point
rises_pointwise : (d d' e e' : Evaluation Flow) → ((f : Frame) (w : World) → d f w ≡ d' f w) → ((f : Frame) (w : World) → e f w ≡ e' f w) →
    Rises d' e' → Rises d e
rises_pointwise d d' e e' ed ee r = record {
  grows = λ f w. subst (λ o. Grew w (world_left o)) (sym (ee f w)) (r.grows f w);
  on = λ f w. subst (λ o. IsContinued o (e f w)) (sym (ed f w)) (subst (λ o. IsContinued (d' f w) o) (sym (ee f w)) (r.on f w));
}

module _ (p : Program) (lesser greater : Context) (rises : ContextRises lesser greater) where
  rises_optional : (v : ℕ) (e : Option Expr) → Rises (optional_value p lesser v e) (optional_value p greater v e)
  rises_optional v None = rises_give v
  rises_optional v (Some e) = value_rises p lesser greater rises e

  rises_put : (l i : ℕ) (es : List Expr) → Rises (put_values l i (map (value_of p lesser) es)) (put_values l i (map (value_of p greater) es))
  rises_put l i [] = rises_give Goes
  rises_put l i (e ∷ es) =
      rises_bind _ _ _ _ (value_rises p lesser greater rises e) (λ v. rises_bind _ _ _ _ (rises_store (lvalue.Local l i) v) (λ x. rises_put l (suc i) es))

  rises_clear : (l : ℕ) (own : Bool) (es : List Expr) → Rises (clear_local l own (map (value_of p lesser) es)) (clear_local l own (map (value_of p greater) es))
  rises_clear l own es =
      let size : Frame → ℕ = λ f. size_of f.locals l in
      let there : Frame → Frame = λ f. record f { locals = slice_set f.locals l (replicate (size_of f.locals l) 0) } in
      let work : Frame → ℕ → ℕ = λ f n. if own then size f else size f - n in
      let same_length : length (map (value_of p lesser) es) ≡ length (map (value_of p greater) es) = length-map es (value_of p lesser) ∙ sym (length-map es (value_of p greater)) in
      let at : (f : Frame) →
      Rises (counted (work f (length (map (value_of p lesser) es))) (put_values l 0 (map (value_of p lesser) es)))
      (counted (work f (length (map (value_of p greater) es))) (put_values l 0 (map (value_of p greater) es))) = λ f.
      subst (λ n. Rises (counted (work f (length (map (value_of p lesser) es))) (put_values l 0 (map (value_of p lesser) es)))
      (counted (work f n) (put_values l 0 (map (value_of p greater) es)))) same_length
      (rises_counted (work f (length (map (value_of p lesser) es))) _ _ (rises_put l 0 es)) in
      record { grows = λ f w. (at f).grows (there f) w; on = λ f w. (at f).on (there f) w }

  abbrev StmtRises : Stmt → Type 0
  StmtRises s = Rises (flow_of p lesser s) (flow_of p greater s)

  abbrev ArmRises : Arm → Type 0
  ArmRises a = RisesAll (arm_of p lesser a).body (arm_of p greater a).body

  abbrev S : Type 0
  S = (s : Stmt) × StmtRises s

  abbrev A : Type 0
  A = (a : Arm) × ArmRises a

  all_rise : (body : List S) → RisesAll (map (flow_of p lesser) (map (λ s. s.0) body)) (map (flow_of p greater) (map (λ s. s.0) body))
  all_rise [] = no_more
  all_rise (s ∷ body) = one_more s.1 (all_rise body)

  body_rises : (body : List S) → Rises (flow_of_all p lesser (map (λ s. s.0) body)) (flow_of_all p greater (map (λ s. s.0) body))
  body_rises body = rises_in_order _ _ (all_rise body)

  bodies_rise : (arms : List A) → RisesAll (bodies_of (map (arm_of p lesser) (map (λ a. a.0) arms))) (bodies_of (map (arm_of p greater) (map (λ a. a.0) arms)))
  bodies_rise [] = no_more
  bodies_rise (a ∷ arms) = all_append _ _ _ _ a.1 (bodies_rise arms)

  arms_rise : (n : ℕ) (arms : List A) → Rises (arms_from p lesser (drop n (map (λ a. a.0) arms))) (arms_from p greater (drop n (map (λ a. a.0) arms)))
  arms_rise n arms =
      subst (λ l. Rises (arms_from p lesser l) (arms_from p greater l)) (sym (drop-map (λ (a : A). a.0) n arms))
      (rises_bind _ _ after_switch after_switch (rises_in_order _ _ (bodies_rise (drop n arms))) rises_behind)

  switch_rises : (v : ℕ) (arms : List A) →
      Rises (switch_flow v (map (arm_of p lesser) (map (λ a. a.0) arms))) (switch_flow v (map (arm_of p greater) (map (λ a. a.0) arms)))
  switch_rises v arms =
      let all : List Arm = map (λ a. a.0) arms in
      rises_pointwise _ _ _ _ (leads_to p lesser v all) (leads_to p greater v all)
      (rises_counted _ _ _ (arms_rise (first_arm v all) arms))

  -- by the equations of the two contexts
  by_equations : (s : Stmt) (d e : Evaluation Flow) → flow_of p lesser s ≡ counted 1 d → flow_of p greater s ≡ counted 1 e → Rises d e → StmtRises s
  by_equations s d e ed ee r =
      subst (λ x. Rises x (flow_of p greater s)) (sym ed) (subst (λ x. Rises (counted 1 d) x) (sym ee) (rises_counted 1 d e r))

  stmt_rises : (y : Stmt-F S A) → StmtRises (roll-Stmt (map-Stmt S A Stmt Arm (λ a. a.0) (λ a. a.0) y))
  stmt_rises (stmt.Block body) =
      let x : Stmt-F Stmt Arm = stmt.Block (map (λ s. s.0) body) in
      by_equations (roll-Stmt x) _ _ (flow_of-Block p lesser (roll-Stmt x) _ (out-roll-Stmt x)) (flow_of-Block p greater (roll-Stmt x) _ (out-roll-Stmt x)) (body_rises body)
  stmt_rises (stmt.Clear l values) =
      let x : Stmt-F Stmt Arm = stmt.Clear l values in
      by_equations (roll-Stmt x) _ _ (flow_of-Clear p lesser (roll-Stmt x) _ _ (out-roll-Stmt x)) (flow_of-Clear p greater (roll-Stmt x) _ _ (out-roll-Stmt x))
      (rises_clear l (any_of (map (names_local l) values)) values)
  stmt_rises (stmt.Express e) =
      let x : Stmt-F Stmt Arm = stmt.Express e in
      by_equations (roll-Stmt x) _ _ (flow_of-Express p lesser (roll-Stmt x) _ (out-roll-Stmt x)) (flow_of-Express p greater (roll-Stmt x) _ (out-roll-Stmt x))
      (rises_bind _ _ _ _ (value_rises p lesser greater rises e) (λ v. rises_give Goes))
  stmt_rises (stmt.If e yes_part no_part) =
      let x : Stmt-F Stmt Arm = stmt.If e (map (λ s. s.0) yes_part) (map (λ s. s.0) no_part) in
      by_equations (roll-Stmt x) _ _ (flow_of-If p lesser (roll-Stmt x) _ _ _ (out-roll-Stmt x)) (flow_of-If p greater (roll-Stmt x) _ _ _ (out-roll-Stmt x))
      (rises_bind _ _ _ _ (value_rises p lesser greater rises e) (λ v. rises_unless v _ _ _ _ (body_rises no_part) (body_rises yes_part)))
  stmt_rises (stmt.While e body) =
      let x : Stmt-F Stmt Arm = stmt.While e (map (λ s. s.0) body) in
      by_equations (roll-Stmt x) _ _ (flow_of-While p lesser (roll-Stmt x) _ _ (out-roll-Stmt x)) (flow_of-While p greater (roll-Stmt x) _ _ (out-roll-Stmt x))
      (rises_bind _ _ _ _ (value_rises p lesser greater rises e) (λ v. rises_unless v _ _ _ _ (rises_give Goes)
      (rises_bind _ _ _ _ (body_rises body) (λ flow. rises_after flow _ _ (rises.loops (roll-Stmt x))))))
  stmt_rises (stmt.Do body e) =
      let x : Stmt-F Stmt Arm = stmt.Do (map (λ s. s.0) body) e in
      by_equations (roll-Stmt x) _ _ (flow_of-Do p lesser (roll-Stmt x) _ _ (out-roll-Stmt x)) (flow_of-Do p greater (roll-Stmt x) _ _ (out-roll-Stmt x))
      (rises_bind _ _ _ _ (body_rises body) (λ flow. rises_after flow _ _
      (rises_bind _ _ _ _ (value_rises p lesser greater rises e) (λ v. rises_unless v _ _ _ _ (rises_give Goes) (rises.loops (roll-Stmt x))))))
  stmt_rises (stmt.For first test step body) =
      let x : Stmt-F Stmt Arm = stmt.For (map (λ s. s.0) first) test step (map (λ s. s.0) body) in
      by_equations (roll-Stmt x) _ _ (flow_of-For p lesser (roll-Stmt x) _ _ _ _ (out-roll-Stmt x)) (flow_of-For p greater (roll-Stmt x) _ _ _ _ (out-roll-Stmt x))
      (rises_bind _ _ _ _ (body_rises first) (λ begun. rises_then begun _ _
      (rises_bind _ _ _ _ (rises_optional 1 test) (λ v. rises_unless v _ _ _ _ (rises_give Goes)
      (rises_bind _ _ _ _ (body_rises body) (λ flow. rises_after flow _ _
      (rises_bind _ _ _ _ (rises_optional 0 step) (λ u. rises.loops (roll-Stmt (stmt.For [] test step (map (λ s. s.0) body)))))))))))
  stmt_rises (stmt.Switch e arms) =
      let x : Stmt-F Stmt Arm = stmt.Switch e (map (λ a. a.0) arms) in
      by_equations (roll-Stmt x) _ _ (flow_of-Switch p lesser (roll-Stmt x) _ _ (out-roll-Stmt x)) (flow_of-Switch p greater (roll-Stmt x) _ _ (out-roll-Stmt x))
      (rises_bind _ _ _ _ (value_rises p lesser greater rises e) (λ v. switch_rises v arms))
  stmt_rises stmt.Break =
      let x : Stmt-F Stmt Arm = stmt.Break in
      by_equations (roll-Stmt x) _ _ (flow_of-Break p lesser (roll-Stmt x) (out-roll-Stmt x)) (flow_of-Break p greater (roll-Stmt x) (out-roll-Stmt x)) (rises_give Breaks)
  stmt_rises stmt.Continue =
      let x : Stmt-F Stmt Arm = stmt.Continue in
      by_equations (roll-Stmt x) _ _ (flow_of-Continue p lesser (roll-Stmt x) (out-roll-Stmt x)) (flow_of-Continue p greater (roll-Stmt x) (out-roll-Stmt x)) (rises_give Continues)
  stmt_rises (stmt.Return e) =
      let x : Stmt-F Stmt Arm = stmt.Return e in
      by_equations (roll-Stmt x) _ _ (flow_of-Return p lesser (roll-Stmt x) _ (out-roll-Stmt x)) (flow_of-Return p greater (roll-Stmt x) _ (out-roll-Stmt x))
      (rises_bind _ _ _ _ (rises_optional 0 e) (λ v. rises_give (Returns v)))

  arm_rises : (y : Arm-F S A) → ArmRises (roll-Arm (map-Arm S A Stmt Arm (λ a. a.0) (λ a. a.0) y))
  arm_rises y =
      let a : Arm = roll-Arm (map-Arm S A Stmt Arm (λ a. a.0) (λ a. a.0) y) in
      let bodies : Context → List (Evaluation Flow) = λ c. map (flow_of p c) (map (λ s. s.0) y.body) in
      subst (λ l. RisesAll l (arm_of p greater a).body) (sym (ap (λ d. d.body) (arm_of_lem p lesser a)))
      (subst (λ l. RisesAll (bodies lesser) l) (sym (ap (λ d. d.body) (arm_of_lem p greater a))) (all_rise y.body))

  pub flow_rises : (s : Stmt) → Rises (flow_of p lesser s) (flow_of p greater s)
  flow_rises s =
      ind-Stmt StmtRises ArmRises
      (λ x y q. subst (λ z. StmtRises (roll-Stmt z)) q (stmt_rises y))
      (λ x y q. subst (λ z. ArmRises (roll-Arm z)) q (arm_rises y)) s

  pub flows_rise : (body : List Stmt) → RisesAll (map (flow_of p lesser) body) (map (flow_of p greater) body)
  flows_rise [] = no_more
  flows_rise (s ∷ body) = one_more (flow_rises s) (flows_rise body)

  pub body_of_rises : (body : List Stmt) → Rises (flow_of_all p lesser body) (flow_of_all p greater body)
  body_of_rises body = rises_in_order _ _ (flows_rise body)

-- ---- programs at two bounds

module _ (p : Program) (lesser greater : Context) where
  module _ (frame : Frame) (w : World) where
    grew_back : (w0 : World) (o : Outcome Frame Flow) → Grew w0 (world_left o) → Grew w0 (world_left (back_in frame w o))
    grew_back w0 (Came flow f left n) g = record { output = g.output; log = g.log; taken = g.taken }
    grew_back w0 (Stopped why left n) g = record { output = g.output; log = g.log; taken = g.taken }

    work_back : (o : Outcome Frame Flow) → work_done (back_in frame w o) ≡ work_done o
    work_back (Came flow f left n) = refl
    work_back (Stopped why left n) = refl

    continued_back : (o o' : Outcome Frame Flow) → IsContinued o o' → IsContinued (back_in frame w o) (back_in frame w o')
    continued_back o o' same = same
    continued_back (Stopped why left n) o' (further g le) =
        further (let h = grew_back left o' g in record { output = h.output; log = h.log; taken = h.taken }) (rw (work_back o') le)

  call_rises : ContextRises lesser greater → (f : ℕ) (g : Option Function) (vs : List ℕ) → Rises (call_of p lesser f g vs) (call_of p greater f g vs)
  call_rises rises f None vs = rises_give 0
  call_rises rises f (Some g) vs = record {
    grows = λ frame w.
        let inside : World = deeper g w in
        let body = body_of_rises p lesser greater rises g.body in
        let grown : Grew inside (world_left (flow_of_all p greater g.body (frame_of f g vs) inside)) = body.grows (frame_of f g vs) inside in
        let left : Grew inside (world_left (back_in frame w (flow_of_all p greater g.body (frame_of f g vs) inside))) = grew_back frame w inside (flow_of_all p greater g.body (frame_of f g vs) inside) grown in
        record { output = left.output; log = left.log; taken = left.taken };
    on = λ frame w.
        let body = body_of_rises p lesser greater rises g.body in
        continued_back frame w (flow_of_all p lesser g.body (frame_of f g vs) (deeper g w)) (flow_of_all p greater g.body (frame_of f g vs) (deeper g w))
        (body.on (frame_of f g vs) (deeper g w));
  }

module _ (p : Program) (numbers : List ℕ) where
  -- each context goes on from itself
  context_alike : (k : ℕ) → ContextRises (context_at p numbers k) (context_at p numbers k)
  context_alike zero = record { numbers = refl; lets = refl; strays = rises_give 0; calls = λ f vs. rises_stop Unfinished; loops = λ s. rises_stop Unfinished }
  context_alike (suc k) = record {
    numbers = refl;
    lets = refl;
    strays = rises_give 0;
    calls = λ f vs. call_rises p (context_at p numbers k) (context_at p numbers k) (context_alike k) f (slice_get p.functions f) vs;
    loops = λ s. flow_rises p (context_at p numbers k) (context_at p numbers k) (context_alike k) s;
  }

  -- what is unfinished at once goes on as anything that only lets the world grow
  from_unfinished : {A : Type 0} (d : Evaluation A) → Grows d → Rises (stop Unfinished) d
  from_unfinished d g = record { grows = g; on = λ f w. further (g f w) (omega arith) }

  numbers_same : (k : ℕ) → numbers ≡ (context_at p numbers k).numbers
  numbers_same zero = refl
  numbers_same (suc k) = refl

  stray_rises : (k : ℕ) → Rises (give 0) (context_at p numbers k).stray
  stray_rises zero = rises_give 0
  stray_rises (suc k) = rises_give 0

  pub context_rises : (j k : ℕ) → j ≤ k → ContextRises (context_at p numbers j) (context_at p numbers k)
  context_rises zero k le = record {
    numbers = numbers_same k;
    lets = sym (lets_at p numbers k);
    strays = stray_rises k;
    calls = λ f vs. from_unfinished ((context_at p numbers k).call f vs) ((context_alike k).calls f vs).grows;
    loops = λ s. from_unfinished ((context_at p numbers k).loop s) ((context_alike k).loops s).grows;
  }
  context_rises (suc j) zero le = absurd (omega arith)
  context_rises (suc j) (suc k) le =
      let inner : ContextRises (context_at p numbers j) (context_at p numbers k) = context_rises j k (omega arith) in
      record {
        numbers = refl;
        lets = refl;
        strays = rises_give 0;
        calls = λ f vs. call_rises p (context_at p numbers j) (context_at p numbers k) inner f (slice_get p.functions f) vs;
        loops = λ s. flow_rises p (context_at p numbers j) (context_at p numbers k) inner s;
      }

  pub main_rises : (j k : ℕ) → j ≤ k → (g : Option Function) →
      Rises (run_of_main p (context_at p numbers j) g) (run_of_main p (context_at p numbers k) g)
  main_rises j k le None = rises_give Goes
  main_rises j k le (Some g) =
      let body = body_of_rises p (context_at p numbers j) (context_at p numbers k) (context_rises j k le) g.body in
      record { grows = λ f w. body.grows (frame_of p.main g []) w; on = λ f w. body.on (frame_of p.main g []) w }
