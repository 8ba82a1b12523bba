-- Well-typed statements are alike under two numberings.
use Rattle.std.proofs.Common.{◌≡◌, ℕ, zero, suc, ◌-◌, Bool, List, [], ◌∷◌, ◌++◌, map, drop, length, replicate, refl, sym, ◌∙◌, ap, subst, Option, Some, None, if◌then◌else◌, nat_eq, slice_get}
use Rattle.std.specs.Prelude.{All, slice_set}
use Rattle.std.proofs.lemmas.List.{length-map, drop-map}
use Rattle.mv_ast.specs.declared.program.CType.{CType}
use Rattle.mv_ast.specs.declared.program.Function.{Function}
use Rattle.mv_ast.specs.declared.program.Expr.{Expr}
use Rattle.mv_ast.specs.declared.program.Stmt.{Stmt, Stmt-F, roll-Stmt, out-Stmt, out-roll-Stmt, map-Stmt, ind-Stmt, every_made-Stmt}
use Rattle.mv_ast.specs.declared.program.Stmt.TheOpen as stmt
use Rattle.mv_ast.specs.declared.program.Arm.{Arm, Arm-F, roll-Arm, out-roll-Arm, map-Arm}
use Rattle.mv_ast.specs.Worlds.{World, bind, give, counted}
use Rattle.mv_ast.specs.Names.{any_of, names_local}
use Rattle.mv_meaning.specs.declared.state.Frame.{Frame}
use Rattle.mv_meaning.specs.declared.state.Lvalue.TheVariants as lvalue
use Rattle.mv_meaning.specs.declared.state.Flow.{Flow}
use Rattle.mv_meaning.specs.declared.state.Flow.TheVariants.{Goes, Breaks, Continues, Returns}
use Rattle.mv_meaning.specs.Meaning.{Evaluation, Context, store_lvalue, unless_zero, then_on, after_body, after_switch, in_order, bodies_of, switch_flow, put_values, size_of, clear_local, optional_value, value_of, flow_of, flow_of_all, arm_of}
use Rattle.mv_meaning.specs.Arms.{first_arm}
use Rattle.mv_meaning.specs.Loops.{arms_from}
use Rattle.mv_meaning.proofs.Equations.{flow_of-Block, flow_of-Clear, flow_of-Express, flow_of-If, flow_of-While, flow_of-Do, flow_of-For, flow_of-Switch, flow_of-Break, flow_of-Continue, flow_of-Return, arm_of_lem}
use Rattle.mv_meaning.proofs.SwitchArms.{leads_to}
use Rattle.mv_source_forms.specs.Typing.{HasTypedParts, IsTypedAt, IsTypedExpr, IsTypedOption, ReturnsTyped, local_types}
use Rattle.mv_meaning_numbering.proofs.Alike.{Setting, Same, same_null, same_test, words_null, objects_set, size_alike, same_integer}
use Rattle.mv_meaning_numbering.proofs.Outcomes.{SameFrame, Alike, AlikeOutcome, alike_give, alike_counted, alike_unless, alike_weaken, alike_bind}
use Rattle.mv_meaning_numbering.proofs.Leaves.{alike_store}
use Rattle.mv_meaning_numbering.proofs.Calls.{SameContext, SameFlow}
use Rattle.mv_source_forms.proofs.TypedParts.{TypedStmt, TypedArm, AllStmts, AllArms, StmtParts, stmt_parts, stmt_node, arm_parts}
use Rattle.mv_meaning_numbering.proofs.Expressions.{alike_expr}
use Rattle.mv_num.proofs.Lists.{all_tail, all_head}

-- the same number in a test against zero
abbrev pub SameTest : ℕ → ℕ → Type 0
SameTest v u = nat_eq v 0 ≡ nat_eq u 0

module _ (x : Setting) (ts : List CType) (t : CType) where
  abbrev pub Flows : Evaluation Flow → Evaluation Flow → Type 0
  Flows d e = Alike x ts (SameFlow x t) d e

  goes : Flows (give Goes) (give Goes)
  goes = alike_give x ts (SameFlow x t) Goes Goes tt

  flows_then : (a b : Flow) (d e : Evaluation Flow) → SameFlow x t a b → Flows d e → Flows (then_on a d) (then_on b e)
  flows_then Goes Goes d e h k = k
  flows_then Breaks Breaks d e h k = alike_give x ts (SameFlow x t) Breaks Breaks tt
  flows_then Continues Continues d e h k = alike_give x ts (SameFlow x t) Continues Continues tt
  flows_then (Returns v) (Returns u) d e h k = alike_give x ts (SameFlow x t) (Returns v) (Returns u) h
  flows_then _ _ d e h k = absurd h

  flows_after : (a b : Flow) (d e : Evaluation Flow) → SameFlow x t a b → Flows d e → Flows (after_body a d) (after_body b e)
  flows_after Goes Goes d e h k = k
  flows_after Breaks Breaks d e h k = goes
  flows_after Continues Continues d e h k = k
  flows_after (Returns v) (Returns u) d e h k = alike_give x ts (SameFlow x t) (Returns v) (Returns u) h
  flows_after _ _ d e h k = absurd h

  flows_behind : (a b : Flow) → SameFlow x t a b → Flows (after_switch a) (after_switch b)
  flows_behind Goes Goes h = goes
  flows_behind Breaks Breaks h = goes
  flows_behind Continues Continues h = alike_give x ts (SameFlow x t) Continues Continues tt
  flows_behind (Returns v) (Returns u) h = alike_give x ts (SameFlow x t) (Returns v) (Returns u) h
  flows_behind _ _ h = absurd h

  -- one after the other
  abbrev pub AllFlows : List (Evaluation Flow) → List (Evaluation Flow) → Type 0
  AllFlows [] [] = Unit {0}
  AllFlows (d ∷ ds) (e ∷ es) = Flows d e × AllFlows ds es
  AllFlows _ _ = ⊥

  pub flows_in_order : (ds es : List (Evaluation Flow)) → AllFlows ds es → Flows (in_order ds) (in_order es)
  flows_in_order [] [] h = goes
  flows_in_order (d ∷ ds) (e ∷ es) h =
      alike_bind x ts (SameFlow x t) (SameFlow x t) d e (λ flow. then_on flow (in_order ds)) (λ flow. then_on flow (in_order es)) h.0
      (λ a b k. flows_then a b (in_order ds) (in_order es) k (flows_in_order ds es h.1))
  flows_in_order [] (e ∷ es) h = absurd h
  flows_in_order (d ∷ ds) [] h = absurd h

  flows_append : (ds es ds' es' : List (Evaluation Flow)) → AllFlows ds es → AllFlows ds' es' → AllFlows (ds ++ ds') (es ++ es')
  flows_append [] [] ds' es' h k = k
  flows_append (d ∷ ds) (e ∷ es) ds' es' h k = (h.0, flows_append ds es ds' es' h.1 k)
  flows_append [] (e ∷ es) ds' es' h k = absurd h
  flows_append (d ∷ ds) [] ds' es' h k = absurd h

  -- the same evaluations, point by point
  flows_pointwise : (d d' e e' : Evaluation Flow) → ((f : Frame) (w : World) → d f w ≡ d' f w) → ((f : Frame) (w : World) → e f w ≡ e' f w) →
      Flows d' e' → Flows d e
  flows_pointwise d d' e e' ed ee h f g w v hf hw =
      subst (λ o. AlikeOutcome x ts Flow (SameFlow x t) o (e g v)) (sym (ed f w))
      (subst (λ o. AlikeOutcome x ts Flow (SameFlow x t) (d' f w) o) (sym (ee g v)) (h f g w v hf hw))

module _ (x : Setting) (c d : Context) (same : SameContext x c d) (fn : Function) where
  abbrev ts : List CType
  ts = local_types fn

  abbrev R : Flow → Flow → Type 0
  R = SameFlow x fn.result

  value_alike : (e : Expr) → IsTypedExpr x.program fn e → Alike x ts (Same x e.ctype) (value_of x.program c e) (value_of x.program d e)
  value_alike = alike_expr x c d same fn

  value_at : (t : CType) (e : Expr) → IsTypedAt x.program fn t e → Alike x ts (Same x t) (value_of x.program c e) (value_of x.program d e)
  value_at t e h = subst (λ a. Alike x ts (Same x a) (value_of x.program c e) (value_of x.program d e)) h.1 (value_alike e h.0)

  optional_alike : (n : ℕ) (e : Option Expr) → IsTypedOption x.program fn e → Alike x ts SameTest (optional_value x.program c n e) (optional_value x.program d n e)
  optional_alike n None h = alike_give x ts SameTest n n refl
  optional_alike n (Some e) h =
      alike_weaken x ts (Same x e.ctype) SameTest (λ a b. same_test x e.ctype a b) (value_of x.program c e) (value_of x.program d e) (value_alike e h)

  returned_alike : (e : Option Expr) → ReturnsTyped x.program fn e → Alike x ts (Same x fn.result) (optional_value x.program c 0 e) (optional_value x.program d 0 e)
  returned_alike None h = alike_give x ts (Same x fn.result) 0 0 (same_null x fn.result)
  returned_alike (Some e) h = value_at fn.result e h

  put_alike : (t : CType) (l i : ℕ) (es : List Expr) → slice_get ts l ≡ Some t → All (IsTypedAt x.program fn t) es →
      Alike x ts R (put_values l i (map (value_of x.program c) es)) (put_values l i (map (value_of x.program d) es))
  put_alike t l i [] k h = alike_give x ts R Goes Goes tt
  put_alike t l i (e ∷ es) k h =
      alike_bind x ts (Same x t) R _ _ _ _ (value_at t e (all_head (IsTypedAt x.program fn t) e es h)) (λ v u q.
      alike_bind x ts (Same x t) R (store_lvalue (lvalue.Local l i) v) (store_lvalue (lvalue.Local l i) u)
      (λ a. put_values l (suc i) (map (value_of x.program c) es)) (λ a. put_values l (suc i) (map (value_of x.program d) es))
      (alike_store x ts t (lvalue.Local l i) v u k q)
      (λ a b r. put_alike t l (suc i) es k (all_tail (IsTypedAt x.program fn t) e es h)))

  clear_alike : (t : CType) (l : ℕ) (own : Bool) (es : List Expr) → slice_get ts l ≡ Some t → All (IsTypedAt x.program fn t) es →
      Alike x ts R (clear_local l own (map (value_of x.program c) es)) (clear_local l own (map (value_of x.program d) es))
  clear_alike t l own es k h f g w v hf hw =
      let cleared : Frame → ℕ → Frame = λ a n. record a { locals = slice_set a.locals l (replicate n 0) } in
      let run : Context → Frame → World → ℕ → ℕ → _ = λ a b z n m.
      counted (if own then n else n - m) (put_values l 0 (map (value_of x.program a) es)) (cleared b n) z in
      let size : size_of f.locals l ≡ size_of g.locals l = size_alike x ts f.locals g.locals l t hf.locals k in
      let count : length (map (value_of x.program c) es) ≡ length (map (value_of x.program d) es) =
      length-map es (value_of x.program c) ∙ sym (length-map es (value_of x.program d)) in
      let n = size_of f.locals l in
      let m = length (map (value_of x.program c) es) in
      let frames : SameFrame x ts (cleared f n) (cleared g n) =
      record { locals = objects_set x ts f.locals g.locals l t (replicate n 0) (replicate n 0) hf.locals k (words_null x t n); function = hf.function } in
      subst (λ s. AlikeOutcome x ts Flow R (run c f w n m) (run d g v s (length (map (value_of x.program d) es)))) size
      (subst (λ s. AlikeOutcome x ts Flow R (run c f w n m) (run d g v n s)) count
      (alike_counted x ts R (if own then n else n - m) _ _ (put_alike t l 0 es k h) (cleared f n) (cleared g n) w v frames hw))

  -- ---- by induction over the statements

  abbrev StmtAlike : Stmt → Type 0
  StmtAlike s = TypedStmt x.program fn s → Alike x ts R (flow_of x.program c s) (flow_of x.program d s)

  abbrev ArmAlike : Arm → Type 0
  ArmAlike a = TypedArm x.program fn a → AllFlows x ts fn.result (arm_of x.program c a).body (arm_of x.program d a).body

  abbrev S : Type 0
  S = (s : Stmt) × StmtAlike s

  abbrev A : Type 0
  A = (a : Arm) × ArmAlike a

  abbrev stmts_of : List S → List Stmt
  stmts_of body = map (λ (s : S). s.0) body

  abbrev arms_of : List A → List Arm
  arms_of arms = map (λ (a : A). a.0) arms

  all_alike : (body : List S) → AllStmts x.program fn (stmts_of body) →
      AllFlows x ts fn.result (map (flow_of x.program c) (stmts_of body)) (map (flow_of x.program d) (stmts_of body))
  all_alike [] h = tt
  all_alike (s ∷ body) h = (s.1 h.0, all_alike body h.1)

  body_alike : (body : List S) → AllStmts x.program fn (stmts_of body) → Alike x ts R (flow_of_all x.program c (stmts_of body)) (flow_of_all x.program d (stmts_of body))
  body_alike body h = flows_in_order x ts fn.result _ _ (all_alike body h)

  bodies_alike : (arms : List A) → AllArms x.program fn (arms_of arms) →
      AllFlows x ts fn.result (bodies_of (map (arm_of x.program c) (arms_of arms))) (bodies_of (map (arm_of x.program d) (arms_of arms)))
  bodies_alike [] h = tt
  bodies_alike (a ∷ arms) h = flows_append x ts fn.result _ _ _ _ (a.1 h.0) (bodies_alike arms h.1)

  arms_dropped : (n : ℕ) (arms : List A) → AllArms x.program fn (arms_of arms) → AllArms x.program fn (arms_of (drop n arms))
  arms_dropped zero arms h = h
  arms_dropped (suc n) [] h = h
  arms_dropped (suc n) (a ∷ arms) h = arms_dropped n arms h.1

  arms_alike : (n : ℕ) (arms : List A) → AllArms x.program fn (arms_of arms) →
      Alike x ts R (arms_from x.program c (drop n (arms_of arms))) (arms_from x.program d (drop n (arms_of arms)))
  arms_alike n arms h =
      subst (λ l. Alike x ts R (arms_from x.program c l) (arms_from x.program d l)) (sym (drop-map (λ (a : A). a.0) n arms))
      (alike_bind x ts R R _ _ after_switch after_switch (flows_in_order x ts fn.result _ _ (bodies_alike (drop n arms) (arms_dropped n arms h))) (flows_behind x ts fn.result))

  switch_alike : (v : ℕ) (arms : List A) → AllArms x.program fn (arms_of arms) →
      Alike x ts R (switch_flow v (map (arm_of x.program c) (arms_of arms))) (switch_flow v (map (arm_of x.program d) (arms_of arms)))
  switch_alike v arms h =
      flows_pointwise x ts fn.result _ _ _ _ (leads_to x.program c v (arms_of arms)) (leads_to x.program d v (arms_of arms))
      (alike_counted x ts R _ _ _ (arms_alike (first_arm v (arms_of arms)) arms h))

  -- by the equations of the two contexts
  by_equations : (s : Stmt) (e e' : Evaluation Flow) → flow_of x.program c s ≡ counted 1 e → flow_of x.program d s ≡ counted 1 e' → Alike x ts R e e' →
      Alike x ts R (flow_of x.program c s) (flow_of x.program d s)
  by_equations s e e' q r h =
      subst (λ z. Alike x ts R z (flow_of x.program d s)) (sym q) (subst (λ z. Alike x ts R (counted 1 e) z) (sym r) (alike_counted x ts R 1 e e' h))

  -- a test, and then one way or the other
  tested : (e : Expr) (n n' y y' : Evaluation Flow) → IsTypedExpr x.program fn e → Alike x ts R n n' → Alike x ts R y y' →
      Alike x ts R (bind (value_of x.program c e) (λ v. unless_zero v n y)) (bind (value_of x.program d e) (λ v. unless_zero v n' y'))
  tested e n n' y y' h k q =
      alike_bind x ts (Same x e.ctype) R (value_of x.program c e) (value_of x.program d e) (λ v. unless_zero v n y) (λ v. unless_zero v n' y') (value_alike e h)
      (λ v u r. alike_unless x ts R v u n n' y y' (same_test x e.ctype v u r) k q)

  -- the body of a loop, and then what follows it
  around : (body : List S) (e e' : Evaluation Flow) → AllStmts x.program fn (stmts_of body) → Alike x ts R e e' →
      Alike x ts R (bind (flow_of_all x.program c (stmts_of body)) (λ flow. after_body flow e)) (bind (flow_of_all x.program d (stmts_of body)) (λ flow. after_body flow e'))
  around body e e' h k =
      alike_bind x ts R R (flow_of_all x.program c (stmts_of body)) (flow_of_all x.program d (stmts_of body)) (λ flow. after_body flow e) (λ flow. after_body flow e')
      (body_alike body h) (λ a b q. flows_after x ts fn.result a b e e' q k)

  abbrev paired : (ss : List Stmt) → AllStmts x.program fn ss → List ((s : Stmt) × TypedStmt x.program fn s)
  paired [] h = []
  paired (s ∷ ss) h = (s, h.0) ∷ paired ss h.1

  paired_plain : (ss : List Stmt) (h : AllStmts x.program fn ss) → map (λ (s : (s : Stmt) × TypedStmt x.program fn s). s.0) (paired ss h) ≡ ss
  paired_plain [] h = refl
  paired_plain (s ∷ ss) h = ap (λ l. s ∷ l) (paired_plain ss h.1)

  -- a `for` behind its first part
  for_again : (test step : Option Expr) (ss : List Stmt) → IsTypedOption x.program fn test → IsTypedOption x.program fn step → AllStmts x.program fn ss →
      TypedStmt x.program fn (roll-Stmt (stmt.For [] test step ss))
  for_again test step ss h k q =
      every_made-Stmt (HasTypedParts x.program fn) (λ a. Unit {0}) (stmt.For [] test step ss) (stmt.For [] test step (paired ss q))
      (ap (λ l. stmt.For [] test step l) (paired_plain ss q)) (h, k)

  for_alike : (test step : Option Expr) (body : List S) → IsTypedOption x.program fn test → IsTypedOption x.program fn step → AllStmts x.program fn (stmts_of body) →
      Alike x ts R
      (bind (optional_value x.program c 1 test) (λ v. unless_zero v (give Goes)
      (bind (flow_of_all x.program c (stmts_of body)) (λ flow. after_body flow
      (bind (optional_value x.program c 0 step) (λ u. c.loop (roll-Stmt (stmt.For [] test step (stmts_of body)))))))))
      (bind (optional_value x.program d 1 test) (λ v. unless_zero v (give Goes)
      (bind (flow_of_all x.program d (stmts_of body)) (λ flow. after_body flow
      (bind (optional_value x.program d 0 step) (λ u. d.loop (roll-Stmt (stmt.For [] test step (stmts_of body)))))))))
  for_alike test step body h k q =
      let again : Stmt = roll-Stmt (stmt.For [] test step (stmts_of body)) in
      let next : Alike x ts R (bind (optional_value x.program c 0 step) (λ u. c.loop again)) (bind (optional_value x.program d 0 step) (λ u. d.loop again)) =
      alike_bind x ts SameTest R (optional_value x.program c 0 step) (optional_value x.program d 0 step) (λ u. c.loop again) (λ u. d.loop again)
      (optional_alike 0 step k) (λ a b r. same.loops fn again (for_again test step (stmts_of body) h k q)) in
      alike_bind x ts SameTest R (optional_value x.program c 1 test) (optional_value x.program d 1 test) _ _ (optional_alike 1 test h)
      (λ v u r. alike_unless x ts R v u (give Goes) (give Goes) _ _ r (alike_give x ts R Goes Goes tt) (around body _ _ q next))

  abbrev stmt_plain : Stmt-F S A → Stmt-F Stmt Arm
  stmt_plain y = map-Stmt S A Stmt Arm (λ a. a.0) (λ a. a.0) y

  stmt_alike : (y : Stmt-F S A) (s : Stmt) → out-Stmt s ≡ stmt_plain y → TypedStmt x.program fn (roll-Stmt (stmt_plain y)) →
      HasTypedParts x.program fn (stmt_plain y) → StmtParts x.program fn (stmt_plain y) →
      Alike x ts R (flow_of x.program c s) (flow_of x.program d s)
  stmt_alike (stmt.Block body) s o t h k =
      by_equations s _ _ (flow_of-Block x.program c s _ o) (flow_of-Block x.program d s _ o) (body_alike body k)
  stmt_alike (stmt.Clear l values) s o t h k =
      by_equations s _ _ (flow_of-Clear x.program c s _ _ o) (flow_of-Clear x.program d s _ _ o)
      (clear_alike h.0 l (any_of (map (names_local l) values)) values h.1 h.2)
  stmt_alike (stmt.Express a) s o t h k =
      by_equations s _ _ (flow_of-Express x.program c s _ o) (flow_of-Express x.program d s _ o)
      (alike_bind x ts (Same x a.ctype) R _ _ (λ v. give Goes) (λ v. give Goes) (value_alike a h) (λ v u q. alike_give x ts R Goes Goes tt))
  stmt_alike (stmt.If a yes_part no_part) s o t h k =
      by_equations s _ _ (flow_of-If x.program c s _ _ _ o) (flow_of-If x.program d s _ _ _ o)
      (tested a _ _ _ _ h (body_alike no_part k.1) (body_alike yes_part k.0))
  stmt_alike (stmt.While a body) s o t h k =
      by_equations s _ _ (flow_of-While x.program c s _ _ o) (flow_of-While x.program d s _ _ o)
      (tested a (give Goes) (give Goes) _ _ h (alike_give x ts R Goes Goes tt)
      (around body _ _ k (same.loops fn (roll-Stmt (stmt.While a (stmts_of body))) t)))
  stmt_alike (stmt.Do body a) s o t h k =
      by_equations s _ _ (flow_of-Do x.program c s _ _ o) (flow_of-Do x.program d s _ _ o)
      (around body _ _ k
      (tested a (give Goes) (give Goes) _ _ h (alike_give x ts R Goes Goes tt)
      (same.loops fn (roll-Stmt (stmt.Do (stmts_of body) a)) t)))
  stmt_alike (stmt.For first test step body) s o t h k =
      by_equations s _ _ (flow_of-For x.program c s _ _ _ _ o) (flow_of-For x.program d s _ _ _ _ o)
      (alike_bind x ts R R _ _ _ _ (body_alike first k.0) (λ a b q. flows_then x ts fn.result a b _ _ q (for_alike test step body h.0 h.1 k.1)))
  stmt_alike (stmt.Switch a arms) s o t h k =
      by_equations s _ _ (flow_of-Switch x.program c s _ _ o) (flow_of-Switch x.program d s _ _ o)
      (alike_bind x ts (Same x a.ctype) R _ _ _ _ (value_alike a h.0) (λ v u q.
      subst (λ n. Alike x ts R (switch_flow v (map (arm_of x.program c) (arms_of arms))) (switch_flow n (map (arm_of x.program d) (arms_of arms))))
      (same_integer x a.ctype v u h.1 q) (switch_alike v arms k)))
  stmt_alike stmt.Break s o t h k =
      by_equations s (give Breaks) (give Breaks) (flow_of-Break x.program c s o) (flow_of-Break x.program d s o) (alike_give x ts R Breaks Breaks tt)
  stmt_alike stmt.Continue s o t h k =
      by_equations s (give Continues) (give Continues) (flow_of-Continue x.program c s o) (flow_of-Continue x.program d s o) (alike_give x ts R Continues Continues tt)
  stmt_alike (stmt.Return a) s o t h k =
      by_equations s _ _ (flow_of-Return x.program c s _ o) (flow_of-Return x.program d s _ o)
      (alike_bind x ts (Same x fn.result) R _ _ (λ v. give (Returns v)) (λ v. give (Returns v)) (returned_alike a h)
      (λ v u q. alike_give x ts R (Returns v) (Returns u) q))

  stmt_case : (z : Stmt-F Stmt Arm) (y : Stmt-F S A) → stmt_plain y ≡ z → StmtAlike (roll-Stmt z)
  stmt_case z y q =
      subst (λ z. StmtAlike (roll-Stmt z)) q
      (λ t.
      let z = stmt_plain y in
      let back = out-roll-Stmt z in
      stmt_alike y (roll-Stmt z) back t
      (subst (HasTypedParts x.program fn) back (stmt_node x.program fn (roll-Stmt z) t))
      (subst (StmtParts x.program fn) back (stmt_parts x.program fn (roll-Stmt z) t)))

  arm_case : (z : Arm-F Stmt Arm) (y : Arm-F S A) → map-Arm S A Stmt Arm (λ a. a.0) (λ a. a.0) y ≡ z → ArmAlike (roll-Arm z)
  arm_case z y q =
      subst (λ z. ArmAlike (roll-Arm z)) q
      (λ t.
      let a : Arm = roll-Arm (map-Arm S A Stmt Arm (λ a. a.0) (λ a. a.0) y) in
      let parts : AllStmts x.program fn (stmts_of y.body) =
      subst (λ (b : Arm-F Stmt Arm). AllStmts x.program fn b.body) (out-roll-Arm (map-Arm S A Stmt Arm (λ a. a.0) (λ a. a.0) y)) (arm_parts x.program fn a t) in
      let bodies : Context → List (Evaluation Flow) = λ e. map (flow_of x.program e) (stmts_of y.body) in
      subst (λ l. AllFlows x ts fn.result l (arm_of x.program d a).body) (sym (ap (λ e. e.body) (arm_of_lem x.program c a)))
      (subst (λ l. AllFlows x ts fn.result (bodies c) l) (sym (ap (λ e. e.body) (arm_of_lem x.program d a))) (all_alike y.body parts)))

  pub alike_stmt : (s : Stmt) → TypedStmt x.program fn s → Alike x ts R (flow_of x.program c s) (flow_of x.program d s)
  alike_stmt s = ind-Stmt StmtAlike ArmAlike stmt_case arm_case s

  pub alike_stmts : (body : List Stmt) → All (TypedStmt x.program fn) body → AllFlows x ts fn.result (map (flow_of x.program c) body) (map (flow_of x.program d) body)
  alike_stmts [] h = tt
  alike_stmts (s ∷ body) h =
      (alike_stmt s (all_head (TypedStmt x.program fn) s body h), alike_stmts body (all_tail (TypedStmt x.program fn) s body h))

  pub alike_body : (body : List Stmt) → All (TypedStmt x.program fn) body → Alike x ts R (flow_of_all x.program c body) (flow_of_all x.program d body)
  alike_body body h = flows_in_order x ts fn.result _ _ (alike_stmts body h)
