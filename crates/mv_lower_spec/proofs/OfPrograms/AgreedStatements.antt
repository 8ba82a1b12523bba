-- Statements that name declared locals alone, and whose jumps have targets, do the same in two contexts and two frames that hold the same in those locals.
use Rattle.std.proofs.Common.{◌≡◌, ℕ, zero, suc, ◌-◌, ◌<◌, Bool, true, false, List, [], ◌∷◌, map, drop, length, replicate, refl, sym, ◌∙◌, ap, subst, Option, Some, None, if◌then◌else◌, nat_eq}
use Rattle.std.specs.Prelude.{◌&&◌, ◌||◌, slice_set}
use Rattle.std.proofs.lemmas.Bool.{ne_eqb, eq-eqb, or_right}
use Rattle.std.proofs.lemmas.List.{length-map}
use Rattle.mv_ir.proofs.Induction.{Each}
use Rattle.mv_ast.specs.declared.program.Program.{Program}
use Rattle.mv_ast.specs.declared.program.Expr.{Expr}
use Rattle.mv_ast.specs.declared.program.Stmt.{Stmt, Stmt-F, roll-Stmt, out-roll-Stmt, map-Stmt, fold-roll-Stmt}
use Rattle.mv_ast.specs.declared.program.Stmt.TheOpen as stmt
use Rattle.mv_ast.specs.declared.program.Arm.{Arm, Arm-F, roll-Arm}
use Rattle.mv_bindings.specs.declared.stop.Stop.{Stop}
use Rattle.mv_bindings.specs.declared.stop.Stop.TheVariants.{Trapped}
use Rattle.mv_ast.specs.Names.{any_of, names_local}
use Rattle.mv_ast.specs.Worlds.{Outcome, bind, give, counted}
use Rattle.mv_meaning.specs.declared.state.Frame.{Frame}
use Rattle.mv_meaning.specs.declared.state.Lvalue.TheVariants as lvalue
use Rattle.mv_meaning.specs.declared.state.Flow.{Flow}
use Rattle.mv_meaning.specs.declared.state.Flow.TheVariants.{Goes, Breaks, Continues, Returns}
use Rattle.mv_meaning.specs.Arms.{first_arm, all_labels}
use Rattle.mv_meaning.specs.Loops.{arms_from}
use Rattle.mv_meaning.specs.Meaning.{Evaluation, Context, ArmDenotation, store_lvalue, unless_zero, then_on, after_body, after_switch, in_order, bodies_of, tried_labels, switch_flow, put_values, size_of, clear_local, optional_value, value_of, flow_of, flow_of_all, arm_of}
use Rattle.mv_meaning.proofs.Equations.{flow_of-Block, flow_of-Clear, flow_of-Express, flow_of-If, flow_of-While, flow_of-Do, flow_of-For, flow_of-Switch, flow_of-Break, flow_of-Continue, flow_of-Return, arm_of_lem}
use Rattle.mv_meaning.proofs.SwitchArms.{leads_to}
use Rattle.mv_source_forms.specs.Lists.{all_of}
use Rattle.mv_meaning.proofs.Sequences.{in_order_both}
use Rattle.mv_source_forms.specs.Jumps.{Jumping, all_jump, jumps_layer, arm_jumps_layer, stmt_jumps, arm_jumps}
use Rattle.mv_source_forms.specs.Scopes.{Scope, Scoped, with_local, with_declared, scope_behind, names_declared, option_declared, all_scoped, scoped_layer, arm_scoped_layer, stmt_scoped, arm_scoped}
use Rattle.mv_source_forms.proofs.StatementFolds.{stmt_fold, stmt_folds, along_stmts}
use Rattle.mv_source_forms.proofs.StatementInduction.{StmtChildren}
use Rattle.mv_lower_spec.proofs.OfPrograms.Agreement.{Agree, Post, Alike, AlikeOutcome, alike_give, alike_counted, alike_unless, alike_weaken, alike_bind, alike_by, alike_pointwise}
use Rattle.mv_lower_spec.proofs.OfPrograms.Leaves as leaves
use Rattle.mv_lower_spec.proofs.OfPrograms.Leaves.{agree_changed}
use Rattle.mv_lower_spec.proofs.OfPrograms.AgreedExpressions.{expr_keeps}
use Rattle.mv_num.proofs.Booleans.{and_cases}
use Rattle.mv_ast.proofs.Common.{objects_at}

-- ---- scopes

abbrev pub Wider : Scope → Scope → Type 0
Wider scope inner = (l : ℕ) → scope l ≡ true → inner l ≡ true

wider_declared : (o : Option ℕ) (scope : Scope) → Wider scope (with_declared o scope)
wider_declared None scope l e = e
wider_declared (Some k) scope l e = or_right (nat_eq l k) (scope l) e

wider_behind : (ss : List Scoped) (scope : Scope) → Wider scope (scope_behind ss scope)
wider_behind [] scope l e = e
wider_behind (s ∷ ss) scope l e = wider_behind ss (with_declared s.declares scope) l (wider_declared s.declares scope l e)

agree_narrow : (scope inner : Scope) (f g : Frame) → Wider scope inner → Agree inner f g → Agree scope f g
agree_narrow scope inner f g wide h = record { function = h.function; count = h.count; sizes = h.sizes; words = λ l e. h.words l (wide l e) }

-- ---- what follows control

-- control goes on with more locals declared, leaves for a target that there is, or returns
abbrev pub Leads : (scope inner : Scope) (breaks continues : Bool) → Post Flow
Leads scope inner breaks continues Goes f g = Agree inner f g
Leads scope inner breaks continues Breaks f g = (breaks ≡ true) × Agree scope f g
Leads scope inner breaks continues Continues f g = (continues ≡ true) × Agree scope f g
Leads scope inner breaks continues (Returns v) f g = Unit {0}

narrower : (scope scope' inner inner' : Scope) (b c : Bool) → Wider scope scope' → Wider inner inner' → (flow : Flow) (f g : Frame) → Leads scope' inner' b c flow f g → Leads scope inner b c flow f g
narrower scope scope' inner inner' b c wide wide' Goes f g h = agree_narrow inner inner' f g wide' h
narrower scope scope' inner inner' b c wide wide' Breaks f g h = (h.0, agree_narrow scope scope' f g wide h.1)
narrower scope scope' inner inner' b c wide wide' Continues f g h = (h.0, agree_narrow scope scope' f g wide h.1)
narrower scope scope' inner inner' b c wide wide' (Returns v) f g h = tt

module _ (p : Program) (lost fine : Stop → Type 0) (traps : (n : ℕ) → n < 256 → fine (Trapped n)) where
  -- from a scope to what control leads to
  abbrev pub Flows : (scope inner : Scope) (breaks continues : Bool) → (Bool → Evaluation Flow) → Type 0
  Flows scope inner b c d = Alike lost fine (Agree scope) (Leads scope inner b c) d

  flows_narrow : (scope inner inner' : Scope) (b c : Bool) → Wider inner inner' → (d : Bool → Evaluation Flow) → Flows scope inner' b c d → Flows scope inner b c d
  flows_narrow scope inner inner' b c wide d h =
      alike_weaken lost fine (Agree scope) (Leads scope inner' b c) (Leads scope inner b c) (narrower scope scope inner inner' b c (λ l e. e) wide) d h

  goes : (scope inner : Scope) (b c : Bool) → Alike lost fine (Agree inner) (Leads scope inner b c) (λ z. give Goes)
  goes scope inner b c = alike_give lost fine (Agree inner) (Leads scope inner b c) Goes (λ f g h. h)

  then_leads : (scope mid last : Scope) (b c : Bool) (d : Bool → Evaluation Flow) → Wider scope mid → Flows mid last b c d → (flow : Flow) → Alike lost fine (Leads scope mid b c flow) (Leads scope last b c) (λ z. then_on flow (d z))
  then_leads scope mid last b c d wide h Goes =
      alike_weaken lost fine (Agree mid) (Leads mid last b c) (Leads scope last b c) (narrower scope mid last last b c wide (λ l e. e)) d h
  then_leads scope mid last b c d wide h Breaks = alike_give lost fine (Leads scope mid b c Breaks) (Leads scope last b c) Breaks (λ f g k. k)
  then_leads scope mid last b c d wide h Continues = alike_give lost fine (Leads scope mid b c Continues) (Leads scope last b c) Continues (λ f g k. k)
  then_leads scope mid last b c d wide h (Returns v) = alike_give lost fine (Leads scope mid b c (Returns v)) (Leads scope last b c) (Returns v) (λ f g k. tt)

  -- behind the body of a loop
  body_leads : (scope : Scope) (b c : Bool) (d : Bool → Evaluation Flow) → Flows scope scope b c d → (flow : Flow) → Alike lost fine (Leads scope scope true true flow) (Leads scope scope b c) (λ z. after_body flow (d z))
  body_leads scope b c d h Goes = h
  body_leads scope b c d h Breaks = alike_give lost fine (Leads scope scope true true Breaks) (Leads scope scope b c) Goes (λ f g k. k.1)
  body_leads scope b c d h Continues = λ f g w k. h f g w k.1
  body_leads scope b c d h (Returns v) = alike_give lost fine (Leads scope scope true true (Returns v)) (Leads scope scope b c) (Returns v) (λ f g k. tt)

  switch_leads : (scope : Scope) (b c : Bool) (flow : Flow) → Alike lost fine (Leads scope scope true c flow) (Leads scope scope b c) (λ z. after_switch flow)
  switch_leads scope b c Goes = alike_give lost fine (Leads scope scope true c Goes) (Leads scope scope b c) Goes (λ f g k. k)
  switch_leads scope b c Breaks = alike_give lost fine (Leads scope scope true c Breaks) (Leads scope scope b c) Goes (λ f g k. k.1)
  switch_leads scope b c Continues = alike_give lost fine (Leads scope scope true c Continues) (Leads scope scope b c) Continues (λ f g k. k)
  switch_leads scope b c (Returns v) = alike_give lost fine (Leads scope scope true c (Returns v)) (Leads scope scope b c) (Returns v) (λ f g k. tt)

  -- ---- statements in two contexts

  -- what calls do, and a loop from its start
  pub record Steady (context : Bool → Context) : Type 0 where
    pub calls : (scope : Scope) → leaves.SteadyCalls p lost fine traps scope context
    pub loops : (scope : Scope) (s : Stmt) (b c : Bool) → (stmt_scoped s).holds scope ≡ true → stmt_jumps s b c ≡ true →
        Flows scope (with_declared (stmt_scoped s).declares scope) b c (λ z. (context z).loop s)

  module _ (context : Bool → Context) (steady : Steady context) where
    abbrev Keeps : Scope → (Bool → Evaluation ℕ) → Type 0
    Keeps scope d = leaves.Keeps p lost fine traps scope {A = ℕ} d

    abbrev Kept : Scope → Post ℕ
    Kept scope = leaves.Kept p lost fine traps scope {A = ℕ}

    abbrev val : Expr → Bool → Evaluation ℕ
    val e z = value_of p (context z) e

    abbrev all : List Stmt → Bool → Evaluation Flow
    all body z = flow_of_all p (context z) body

    abbrev loop : Stmt → Bool → Evaluation Flow
    loop s z = (context z).loop s

    abbrev optional_val : ℕ → Option Expr → Bool → Evaluation ℕ
    optional_val n e z = optional_value p (context z) n e

    value : (scope : Scope) (e : Expr) → names_declared scope e ≡ true → Keeps scope (val e)
    value scope e b = expr_keeps p lost fine traps scope context (steady.calls scope) e b

    optional : (scope : Scope) (n : ℕ) (e : Option Expr) → option_declared scope e ≡ true → Keeps scope (optional_val n e)
    optional scope n None b = leaves.keeps_give p lost fine traps scope n
    optional scope n (Some e) b = value scope e b

    -- a value and then control
    valued : (scope inner : Scope) (b c : Bool) (d : Bool → Evaluation ℕ) (next : ℕ → Bool → Evaluation Flow) → Keeps scope d → ((v : ℕ) → Flows scope inner b c (next v)) → Flows scope inner b c (λ z. bind (d z) (λ v. next v z))
    valued scope inner b c d next h k = alike_bind lost fine (Kept scope) (Leads scope inner b c) (Agree scope) d next h k

    tested : (scope : Scope) (b c : Bool) (d : Bool → Evaluation ℕ) (n y : Bool → Evaluation Flow) → Keeps scope d → Flows scope scope b c n →
        Flows scope scope b c y → Flows scope scope b c (λ z. bind (d z) (λ v. unless_zero v (n z) (y z)))
    tested scope b c d n y h k q = valued scope scope b c d (λ v z. unless_zero v (n z) (y z)) h (λ v. alike_unless lost fine (Agree scope) (Leads scope scope b c) v n y k q)

    around : (scope : Scope) (b c : Bool) (body next : Bool → Evaluation Flow) → Flows scope scope true true body → Flows scope scope b c next → Flows scope scope b c (λ z. bind (body z) (λ flow. after_body flow (next z)))
    around scope b c body next h k = alike_bind lost fine (Leads scope scope true true) (Leads scope scope b c) (Agree scope) body (λ flow z. after_body flow (next z)) h (body_leads scope b c next k)

    -- ---- declarations

    abbrev puts : ℕ → ℕ → List Expr → Bool → Evaluation Flow
    puts l i es z = put_values l i (map (value_of p (context z)) es)

    put : (scope inner : Scope) (b c : Bool) (l i : ℕ) (es : List Expr) → inner l ≡ true → all_of (map (names_declared inner) es) ≡ true →
        Alike lost fine (Agree inner) (Leads scope inner b c) (puts l i es)
    put scope inner b c l i [] there h = goes scope inner b c
    put scope inner b c l i (e ∷ es) there h =
        let bs = and_cases (names_declared inner e) (all_of (map (names_declared inner) es)) h in
        alike_bind lost fine (Kept inner) (Leads scope inner b c) (Agree inner) (val e) (λ v z. bind (store_lvalue (lvalue.Local l i) v) (λ _. puts l (suc i) es z)) (value inner e bs.0)
        (λ v. alike_bind lost fine (Kept inner) (Leads scope inner b c) (Agree inner) (λ z. store_lvalue (lvalue.Local l i) v) (λ _ z. puts l (suc i) es z) (leaves.keeps_store p lost fine traps inner (lvalue.Local l i) v there)
        (λ u. put scope inner b c l (suc i) es there bs.1))

    size_same : (scope : Scope) (l : ℕ) (f g : Frame) → Agree scope f g → size_of f.locals l ≡ size_of g.locals l
    size_same scope l f g h = ap length (objects_at f.locals l) ∙ h.sizes l ∙ sym (ap length (objects_at g.locals l))

    still_there : (scope : Scope) (l k : ℕ) → with_local l scope k ≡ true → (k ≡ l → ⊥) → scope k ≡ true
    still_there scope l k e ne = ap (λ z. z || scope k) (sym (ne_eqb k l ne)) ∙ e

    cleared : (scope : Scope) (b c : Bool) (l : ℕ) (own : Bool) (es : List Expr) → all_of (map (names_declared (with_local l scope)) es) ≡ true →
        Flows scope (with_local l scope) b c (λ z. clear_local l own (map (value_of p (context z)) es))
    cleared scope b c l own es h f g w k =
        let inner = with_local l scope in
        let n = size_of f.locals l in
        let run : Bool → Frame → ℕ → ℕ → Outcome Frame Flow = λ z a m values. counted (if own then m else m - values) (puts l 0 es z) (record a { locals = slice_set a.locals l (replicate m 0) }) w in
        let long : (z : Bool) → length (map (value_of p (context z)) es) ≡ length es = λ z. length-map es (value_of p (context z)) in
        subst (λ values. AlikeOutcome lost fine Flow (Leads scope inner b c) (run true f n values) (run false g (size_of g.locals l) (length (map (value_of p (context false)) es)))) (sym (long true))
        (subst (λ values. AlikeOutcome lost fine Flow (Leads scope inner b c) (run true f n (length es)) (run false g (size_of g.locals l) values)) (sym (long false))
        (subst (λ m. AlikeOutcome lost fine Flow (Leads scope inner b c) (run true f n (length es)) (run false g m (length es))) (size_same scope l f g k)
        (alike_counted lost fine (Agree inner) (Leads scope inner b c) (if own then n else n - length es) (puts l 0 es)
        (put scope inner b c l 0 es (ap (λ z. z || scope l) (eq-eqb l l refl)) h)
        (record f { locals = slice_set f.locals l (replicate n 0) }) (record g { locals = slice_set g.locals l (replicate n 0) }) w
        (agree_changed scope inner l (replicate n 0) (replicate n 0) f g refl k (λ j q e. refl) (λ j q ne. still_there scope l j q ne)))))

    -- ---- by induction

    abbrev P : Stmt → Type 0
    P s =
        (scope : Scope) (b c : Bool) → (stmt_scoped s).holds scope ≡ true → stmt_jumps s b c ≡ true → Flows scope (with_declared (stmt_scoped s).declares scope) b c (λ z. flow_of p (context z) s)

    abbrev Q : Arm → Type 0
    Q a = (scope : Scope) (b c : Bool) → arm_scoped a scope ≡ true → arm_jumps a b c ≡ true → Flows scope scope b c (λ z. in_order (arm_of p (context z) a).body)

    in_scopes : (body : List Stmt) → Each P body → (scope : Scope) (b c : Bool) → all_scoped (map stmt_scoped body) scope ≡ true → all_jump (map stmt_jumps body) b c ≡ true →
        Flows scope (scope_behind (map stmt_scoped body) scope) b c (all body)
    in_scopes [] h scope b c q j = goes scope scope b c
    in_scopes (s ∷ body) h scope b c q j =
        let mid = with_declared (stmt_scoped s).declares scope in
        let last = scope_behind (map stmt_scoped body) mid in
        let qs = and_cases ((stmt_scoped s).holds scope) (all_scoped (map stmt_scoped body) mid) q in
        let js = and_cases (stmt_jumps s b c) (all_jump (map stmt_jumps body) b c) j in
        alike_bind lost fine (Leads scope mid b c) (Leads scope last b c) (Agree scope) (λ z. flow_of p (context z) s) (λ flow z. then_on flow (all body z)) (h.0 scope b c qs.0 js.0)
        (then_leads scope mid last b c (all body) (wider_declared (stmt_scoped s).declares scope) (in_scopes body h.1 mid b c qs.1 js.1))

    -- the same where the locals that were declared aren't needed
    within : (body : List Stmt) → Each P body → (scope : Scope) (b c : Bool) → all_scoped (map stmt_scoped body) scope ≡ true → all_jump (map stmt_jumps body) b c ≡ true → Flows scope scope b c (all body)
    within body h scope b c q j =
        flows_narrow scope scope (scope_behind (map stmt_scoped body) scope) b c (wider_behind (map stmt_scoped body) scope) (all body) (in_scopes body h scope b c q j)

    abbrev scopes : Stmt-F Stmt Arm → Stmt-F Scoped (Scope → Bool)
    scopes = map-Stmt Stmt Arm Scoped (Scope → Bool) stmt_scoped arm_scoped

    abbrev jumps : Stmt-F Stmt Arm → Stmt-F Jumping Jumping
    jumps = map-Stmt Stmt Arm Jumping Jumping stmt_jumps arm_jumps

    scoped_is : (x : Stmt-F Stmt Arm) → stmt_scoped (roll-Stmt x) ≡ scoped_layer (scopes x)
    scoped_is x = fold-roll-Stmt Scoped (Scope → Bool) scoped_layer arm_scoped_layer x

    jumps_is : (x : Stmt-F Stmt Arm) (b c : Bool) → stmt_jumps (roll-Stmt x) b c ≡ jumps_layer (jumps x) b c
    jumps_is x b c = ap (λ (k : Jumping). k b c) (fold-roll-Stmt Jumping Jumping jumps_layer arm_jumps_layer x)

    -- a loop from its start
    again : (x : Stmt-F Stmt Arm) (scope : Scope) (b c : Bool) → (scoped_layer (scopes x)).holds scope ≡ true → jumps_layer (jumps x) b c ≡ true →
        Flows scope (with_declared (scoped_layer (scopes x)).declares scope) b c (loop (roll-Stmt x))
    again x scope b c q j =
        subst (λ (y : Scoped). y.holds scope ≡ true → Flows scope (with_declared y.declares scope) b c (loop (roll-Stmt x))) (scoped_is x)
        (λ q. steady.loops scope (roll-Stmt x) b c q (jumps_is x b c ∙ j)) q

    -- arms from the n-th on
    abbrev bodies : List Arm → Bool → Evaluation Flow
    bodies arms z = in_order (bodies_of (map (arm_of p (context z)) arms))

    abbrev first_body : Arm → Bool → Evaluation Flow
    first_body a z = in_order (arm_of p (context z) a).body

    arms_flow : (n : ℕ) (arms : List Arm) → Each Q arms → (scope : Scope) (b c : Bool) → all_of (map (λ a. a scope) (map arm_scoped arms)) ≡ true → all_jump (map arm_jumps arms) b c ≡ true →
        Flows scope scope b c (bodies (drop n arms))
    arms_flow zero [] h scope b c q j = goes scope scope b c
    arms_flow zero (a ∷ arms) h scope b c q j =
        let qs = and_cases (arm_scoped a scope) (all_of (map (λ a. a scope) (map arm_scoped arms))) q in
        let js = and_cases (arm_jumps a b c) (all_jump (map arm_jumps arms) b c) j in
        alike_pointwise lost fine (Agree scope) (Leads scope scope b c) (bodies (a ∷ arms)) (λ z. bind (first_body a z) (λ flow. then_on flow (bodies arms z)))
        (λ z. in_order_both (arm_of p (context z) a).body (bodies_of (map (arm_of p (context z)) arms)))
        (alike_bind lost fine (Leads scope scope b c) (Leads scope scope b c) (Agree scope) (first_body a) (λ flow z. then_on flow (bodies arms z)) (h.0 scope b c qs.0 js.0)
        (then_leads scope scope scope b c (bodies arms) (λ l e. e) (arms_flow zero arms h.1 scope b c qs.1 js.1)))
    arms_flow (suc n) [] h scope b c q j = goes scope scope b c
    arms_flow (suc n) (a ∷ arms) h scope b c q j =
        let qs = and_cases (arm_scoped a scope) (all_of (map (λ a. a scope) (map arm_scoped arms))) q in
        let js = and_cases (arm_jumps a b c) (all_jump (map arm_jumps arms) b c) j in
        arms_flow n arms h.1 scope b c qs.1 js.1

    switched : (v : ℕ) (arms : List Arm) → Each Q arms → (scope : Scope) (b c : Bool) → all_of (map (λ a. a scope) (map arm_scoped arms)) ≡ true → all_jump (map arm_jumps arms) true c ≡ true →
        Flows scope scope b c (λ z. switch_flow v (map (arm_of p (context z)) arms))
    switched v arms h scope b c q j =
        let left : Bool → Evaluation Flow = λ z. arms_from p (context z) (drop (first_arm v arms) arms) in
        alike_pointwise lost fine (Agree scope) (Leads scope scope b c) (λ z. switch_flow v (map (arm_of p (context z)) arms))
        (λ z. counted (tried_labels v (all_labels arms)).labels (left z)) (λ z. leads_to p (context z) v arms)
        (alike_counted lost fine (Agree scope) (Leads scope scope b c) (tried_labels v (all_labels arms)).labels left
        (alike_bind lost fine (Leads scope scope true c) (Leads scope scope b c) (Agree scope) (bodies (drop (first_arm v arms) arms))
        (λ flow z. after_switch flow) (arms_flow (first_arm v arms) arms h scope true c q j) (switch_leads scope b c)))

    -- a statement by its equation
    counts : (scope inner : Scope) (b c : Bool) (s : Stmt) (d : Bool → Evaluation Flow) → ((z : Bool) → flow_of p (context z) s ≡ counted 1 (d z)) → Flows scope inner b c d → Flows scope inner b c (λ z. flow_of p (context z) s)
    counts scope inner b c s d e h =
        alike_by lost fine (Agree scope) (Leads scope inner b c) (λ z. flow_of p (context z) s) (λ z. counted 1 (d z)) (e true) (e false) (alike_counted lost fine (Agree scope) (Leads scope inner b c) 1 d h)

    layer : (x : Stmt-F Stmt Arm) → StmtChildren P Q x → (scope : Scope) (b c : Bool) → (scoped_layer (scopes x)).holds scope ≡ true → jumps_layer (jumps x) b c ≡ true →
        Flows scope (with_declared (scoped_layer (scopes x)).declares scope) b c (λ z. flow_of p (context z) (roll-Stmt x))
    layer (stmt.Block body) h scope b c q j =
        let x : Stmt-F Stmt Arm = stmt.Block body in
        counts scope scope b c (roll-Stmt x) (all body) (λ z. flow_of-Block p (context z) (roll-Stmt x) body (out-roll-Stmt x)) (within body h scope b c q j)
    layer (stmt.Clear l values) h scope b c q j =
        let x : Stmt-F Stmt Arm = stmt.Clear l values in
        let itself = any_of (map (names_local l) values) in
        counts scope (with_local l scope) b c (roll-Stmt x) (λ z. clear_local l itself (map (value_of p (context z)) values)) (λ z. flow_of-Clear p (context z) (roll-Stmt x) l values (out-roll-Stmt x)) (cleared scope b c l itself values q)
    layer (stmt.Express e) h scope b c q j =
        let x : Stmt-F Stmt Arm = stmt.Express e in
        counts scope scope b c (roll-Stmt x) (λ z. bind (val e z) (λ v. give Goes))
        (λ z. flow_of-Express p (context z) (roll-Stmt x) e (out-roll-Stmt x))
        (valued scope scope b c (val e) (λ v z. give Goes) (value scope e q) (λ v. goes scope scope b c))
    layer (stmt.If e yes_part no_part) h scope b c q j =
        let x : Stmt-F Stmt Arm = stmt.If e yes_part no_part in
        let q0 = and_cases (names_declared scope e) (all_scoped (map stmt_scoped yes_part) scope && all_scoped (map stmt_scoped no_part) scope) q in
        let q1 = and_cases (all_scoped (map stmt_scoped yes_part) scope) (all_scoped (map stmt_scoped no_part) scope) q0.1 in
        let js = and_cases (all_jump (map stmt_jumps yes_part) b c) (all_jump (map stmt_jumps no_part) b c) j in
        counts scope scope b c (roll-Stmt x) (λ z. bind (val e z) (λ v. unless_zero v (all no_part z) (all yes_part z))) (λ z. flow_of-If p (context z) (roll-Stmt x) e yes_part no_part (out-roll-Stmt x))
        (tested scope b c (val e) (all no_part) (all yes_part) (value scope e q0.0) (within no_part h.1 scope b c q1.1 js.1) (within yes_part h.0 scope b c q1.0 js.0))
    layer (stmt.While e body) h scope b c q j =
        let x : Stmt-F Stmt Arm = stmt.While e body in
        let qs = and_cases (names_declared scope e) (all_scoped (map stmt_scoped body) scope) q in
        let turn : Bool → Evaluation Flow = λ z. bind (all body z) (λ flow. after_body flow (loop (roll-Stmt x) z)) in
        counts scope scope b c (roll-Stmt x) (λ z. bind (val e z) (λ v. unless_zero v (give Goes) (turn z))) (λ z. flow_of-While p (context z) (roll-Stmt x) e body (out-roll-Stmt x))
        (tested scope b c (val e) (λ z. give Goes) turn (value scope e qs.0) (goes scope scope b c) (around scope b c (all body) (loop (roll-Stmt x)) (within body h scope true true qs.1 j) (again x scope b c q j)))
    layer (stmt.Do body e) h scope b c q j =
        let x : Stmt-F Stmt Arm = stmt.Do body e in
        let qs = and_cases (names_declared scope e) (all_scoped (map stmt_scoped body) scope) q in
        let test : Bool → Evaluation Flow = λ z. bind (val e z) (λ v. unless_zero v (give Goes) (loop (roll-Stmt x) z)) in
        counts scope scope b c (roll-Stmt x) (λ z. bind (all body z) (λ flow. after_body flow (test z))) (λ z. flow_of-Do p (context z) (roll-Stmt x) body e (out-roll-Stmt x))
        (around scope b c (all body) test (within body h scope true true qs.1 j)
        (tested scope b c (val e) (λ z. give Goes) (loop (roll-Stmt x)) (value scope e qs.0) (goes scope scope b c) (again x scope b c q j)))
    layer (stmt.For first test step body) h scope b c q j =
        let x : Stmt-F Stmt Arm = stmt.For first test step body in
        let rest : Stmt-F Stmt Arm = stmt.For [] test step body in
        let inner = scope_behind (map stmt_scoped first) scope in
        let parts = option_declared inner step && all_scoped (map stmt_scoped body) inner in
        let q0 = and_cases (all_scoped (map stmt_scoped first) scope) (option_declared inner test && parts) q in
        let q1 = and_cases (option_declared inner test) parts q0.1 in
        let q2 = and_cases (option_declared inner step) (all_scoped (map stmt_scoped body) inner) q1.1 in
        let js = and_cases (all_jump (map stmt_jumps first) b c) (all_jump (map stmt_jumps body) true true) j in
        let next : Bool → Evaluation Flow = λ z. bind (optional_val 0 step z) (λ _. loop (roll-Stmt rest) z) in
        let turn : Bool → Evaluation Flow = λ z. bind (all body z) (λ flow. after_body flow (next z)) in
        let turns : Bool → Evaluation Flow = λ z. bind (optional_val 1 test z) (λ v. unless_zero v (give Goes) (turn z)) in
        let right =
        tested inner b c (optional_val 1 test) (λ z. give Goes) turn (optional inner 1 test q1.0) (goes inner inner b c)
        (around inner b c (all body) next (within body h.1 inner true true q2.1 js.1)
        (valued inner inner b c (optional_val 0 step) (λ _ z. loop (roll-Stmt rest) z) (optional inner 0 step q2.0) (λ v. again rest inner b c q0.1 js.1))) in
        counts scope scope b c (roll-Stmt x) (λ z. bind (all first z) (λ begun. then_on begun (turns z))) (λ z. flow_of-For p (context z) (roll-Stmt x) first test step body (out-roll-Stmt x))
        (flows_narrow scope scope inner b c (wider_behind (map stmt_scoped first) scope) (λ z. bind (all first z) (λ begun. then_on begun (turns z)))
        (alike_bind lost fine (Leads scope inner b c) (Leads scope inner b c) (Agree scope) (all first) (λ begun z. then_on begun (turns z)) (in_scopes first h.0 scope b c q0.0 js.0)
        (then_leads scope inner inner b c turns (wider_behind (map stmt_scoped first) scope) right)))
    layer (stmt.Switch e arms) h scope b c q j =
        let x : Stmt-F Stmt Arm = stmt.Switch e arms in
        let qs = and_cases (names_declared scope e) (all_of (map (λ a. a scope) (map arm_scoped arms))) q in
        counts scope scope b c (roll-Stmt x) (λ z. bind (val e z) (λ v. switch_flow v (map (arm_of p (context z)) arms))) (λ z. flow_of-Switch p (context z) (roll-Stmt x) e arms (out-roll-Stmt x))
        (valued scope scope b c (val e) (λ v z. switch_flow v (map (arm_of p (context z)) arms)) (value scope e qs.0) (λ v. switched v arms h scope b c qs.1 j))
    layer stmt.Break h scope b c q j =
        let x : Stmt-F Stmt Arm = stmt.Break in
        counts scope scope b c (roll-Stmt x) (λ z. give Breaks) (λ z. flow_of-Break p (context z) (roll-Stmt x) (out-roll-Stmt x)) (alike_give lost fine (Agree scope) (Leads scope scope b c) Breaks (λ f g k. (j, k)))
    layer stmt.Continue h scope b c q j =
        let x : Stmt-F Stmt Arm = stmt.Continue in
        counts scope scope b c (roll-Stmt x) (λ z. give Continues) (λ z. flow_of-Continue p (context z) (roll-Stmt x) (out-roll-Stmt x)) (alike_give lost fine (Agree scope) (Leads scope scope b c) Continues (λ f g k. (j, k)))
    layer (stmt.Return e) h scope b c q j =
        let x : Stmt-F Stmt Arm = stmt.Return e in
        counts scope scope b c (roll-Stmt x) (λ z. bind (optional_val 0 e z) (λ v. give (Returns v))) (λ z. flow_of-Return p (context z) (roll-Stmt x) e (out-roll-Stmt x))
        (valued scope scope b c (optional_val 0 e) (λ v z. give (Returns v)) (optional scope 0 e q) (λ v. alike_give lost fine (Agree scope) (Leads scope scope b c) (Returns v) (λ f g k. tt)))

    body_is : (z : Bool) (x : Arm-F Stmt Arm) → in_order (arm_of p (context z) (roll-Arm x)).body ≡ all x.body z
    body_is z x = ap (λ (d : ArmDenotation). in_order d.body) (arm_of_lem p (context z) (roll-Arm x))

    each_flows : (body : List Stmt) → Each P body
    each_flows =
        along_stmts (stmt_folds (stmt_fold scoped_layer arm_scoped_layer) (stmt_fold jumps_layer arm_jumps_layer))
        (λ s v. (scope : Scope) (b c : Bool) → v.0.holds scope ≡ true → v.1 b c ≡ true → Flows scope (with_declared v.0.declares scope) b c (λ z. flow_of p (context z) s))
        (λ a v. (scope : Scope) (b c : Bool) → v.0 scope ≡ true → v.1 b c ≡ true → Flows scope scope b c (first_body a)) layer
        (λ x h scope b c q j. alike_by lost fine (Agree scope) (Leads scope scope b c) (first_body (roll-Arm x)) (all x.body) (body_is true x) (body_is false x) (within x.body h scope b c q j))

    pub stmt_flows : (s : Stmt) → P s
    stmt_flows s = (each_flows (s ∷ [])).0

    -- Statements that name declared locals alone, and whose jumps have targets.
    pub body_flows : (body : List Stmt) (scope : Scope) (b c : Bool) → all_scoped (map stmt_scoped body) scope ≡ true → all_jump (map stmt_jumps body) b c ≡ true → Flows scope scope b c (all body)
    body_flows body = within body (each_flows body)
