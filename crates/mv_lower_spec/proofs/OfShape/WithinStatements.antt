-- The statements of a well-formed function are within the limits.
use Rattle.std.proofs.Common.{◌≡◌, ℕ, suc, ◌<◌, Bool, true, false, not, cond, List, [], ◌∷◌, ◌++◌, map, length, refl, sym, ◌∙◌, ap, subst, arith, Option, Some, None}
use Rattle.std.specs.Prelude.{◌&&◌, ◌||◌, nat_lt, nat_eq, nat_le, All, option_to_list}
use Rattle.std.proofs.lemmas.Bool.{and_from}
use Rattle.mv_ast.specs.declared.program.Program.{Program}
use Rattle.mv_ast.specs.declared.program.Function.{Function}
use Rattle.mv_ast.specs.declared.program.Expr.{Expr}
use Rattle.mv_ast.specs.declared.program.Stmt.{Stmt, Stmt-F, roll-Stmt, out-roll-Stmt}
use Rattle.mv_ast.specs.declared.program.Stmt.TheOpen as stmt
use Rattle.mv_ast.specs.declared.program.Arm.{Arm, Arm-F, fold-Arm, roll-Arm, out-roll-Arm}
use Rattle.mv_ast.specs.Counts.{words_of_size}
use Rattle.mv_ast.specs.Names.{any_of, names_local}
use Rattle.mv_ir.proofs.Induction.{Each}
use Rattle.mv_ir.proofs.Keeping.{map_append}
use Rattle.mv_source_forms.specs.Typing.{HasTypedParts, IsTypedAt, IsTypedExpr, IsTypedOption}
use Rattle.mv_source_forms.proofs.TypedParts.{TypedStmt, TypedArm, AllStmts, AllArms, StmtParts, stmt_parts, stmt_node, arm_parts}
use Rattle.mv_source_forms.specs.Lists.{all_of}
use Rattle.mv_source_forms.specs.Names.{is_well_named, but_for, named_option, stmt_named_layer, arm_named_layer, stmt_is_well_formed, arm_is_well_formed}
use Rattle.mv_source_forms.specs.Scopes.{Scope, Scoped, with_local, with_declared, all_scoped, scope_behind, names_declared, option_declared, scoped_layer, arm_scoped_layer, stmt_scoped, arm_scoped}
use Rattle.mv_source_forms.specs.Uses.{calls_known, all_layer, all_arm_layer, all_expressions}
use Rattle.mv_source_forms.specs.WellFormed.{IsWithinLimits}
use Rattle.mv_lower_spec.specs.Shape.Reads.{expr_reads, stmt_reads_layer, arm_reads_layer, stmt_reads, arm_reads}
use Rattle.mv_lower_spec.proofs.OfShape.Asked as asked
use Rattle.mv_lower_spec.proofs.OfShape.Asked.{Globals, ArmScope, all_within, all_behind, arms_within, all_exprs_within, optional_within, stmt_scope_layer, arm_scope_layer, stmt_scope, arm_scope}
use Rattle.mv_lower_spec.proofs.OfShape.Holding.{Reading, reads_of as R, reads_of_all, any_left, any_right, holds_within, holds_left, holds_right, held_in}
use Rattle.mv_lower_spec.proofs.OfShape.Folds.{limits_of}
use Rattle.mv_lower_spec.proofs.OfShape.WithinExpressions as exprs
use Rattle.mv_source_forms.proofs.Tests.{all_apart}
use Rattle.mv_source_forms.proofs.StatementFolds.{StmtFolds, stmt_fold, stmt_folds, stmt_family, along_stmts}
use Rattle.mv_source_forms.proofs.StatementInduction.{StmtChildren}
use Rattle.mv_num.proofs.Booleans.{and_cases, from_falsity}

-- a name of another local is declared without this one
narrowed : (l : ℕ) (scope : Scope) (k : ℕ) → but_for l k ≡ true → with_local l scope k ≡ true → scope k ≡ true
narrowed l scope k apart e = by (nat_eq k l) apart e
  where
    by : (z : Bool) → not z ≡ true → (z || scope k) ≡ true → scope k ≡ true
    by true a b = from_falsity a
    by false a b = b

module _ (p : Program) (own : ℕ) (fn : Function) (globals : Globals) (locals : ℕ) (sizes : ℕ → Option ℕ) (void : Bool) (limits : IsWithinLimits p) (there : (k : ℕ) → k < length p.globals → globals.there k ≡ true) where
  open held_in p own globals use {Holds, Good}
  open limits_of globals locals sizes use {scopes, within as I}

  -- ---- expressions

  abbrev N : Expr → Bool
  N = is_well_named p own locals sizes (λ l. true)

  abbrev K : Expr → Bool
  K = calls_known p

  expr : (scope : Scope) (e : Expr) → IsTypedExpr p fn e → N e ≡ true → names_declared scope e ≡ true → K e ≡ true → Holds (R e) → I scope e ≡ true
  expr scope e t n d k r =
      exprs.expr_within p own fn globals locals sizes limits there (λ l. true) scope scope (λ l f o. o) e (record { typed = t; named = n; declared = d; known = k; held = r })

  -- of a statement's one expression, beside what stands in the statement
  first_known : (e : Expr) (b : Bool) → ((K e && true) && b) ≡ true → (K e ≡ true) × (b ≡ true)
  first_known e b q = let s = and_cases (K e && true) b q in ((and_cases (K e) true s.0).0, s.1)

  first_held : (e : Expr) (rest : Reading) → Holds (λ s a. (R e s a || false) || rest s a) → Holds (R e)
  first_held e rest h = holds_left (R e) (λ s a. false) (holds_left (λ s a. R e s a || false) rest h)

  optional : (scope : Scope) (o : Option Expr) → IsTypedOption p fn o → named_option p own locals sizes void o ≡ true → option_declared scope o ≡ true → all_of (map K (option_to_list o)) ≡ true →
      Holds (reads_of_all (option_to_list o)) → optional_within globals locals sizes o scope ≡ true
  optional scope None t n d k r = refl
  optional scope (Some e) t n d k r = expr scope e t n d (and_cases (K e) true k).0 (holds_left (R e) (λ s a. false) r)

  -- values, whose free names are declared further in too
  module _ (free outer inner : Scope) (narrow : (l : ℕ) → free l ≡ true → outer l ≡ true → inner l ≡ true) where
    values : (t : Expr → Type 0) → ((e : Expr) → t e → IsTypedExpr p fn e) → (es : List Expr) → All t es →
        all_of (map (is_well_named p own locals sizes free) es) ≡ true → all_of (map (names_declared outer) es) ≡ true → all_of (map K es) ≡ true →
        Holds (reads_of_all es) → all_exprs_within globals locals sizes es inner ≡ true
    values t typed [] ts n d k r = refl
    values t typed (e ∷ es) ts n d k r =
        let ns = and_cases (is_well_named p own locals sizes free e) (all_of (map (is_well_named p own locals sizes free) es)) n in
        let ds = and_cases (names_declared outer e) (all_of (map (names_declared outer) es)) d in
        let ks = and_cases (K e) (all_of (map K es)) k in
        let here = typed e (ts 0 e (omega arith)) in
        and_from (I inner e) (all_exprs_within globals locals sizes es inner)
        (exprs.expr_within p own fn globals locals sizes limits there free outer inner narrow e (record { typed = here; named = ns.0; declared = ds.0; known = ks.0; held = holds_left (R e) (reads_of_all es) r }))
        (values t typed es (λ i x lt. ts (suc i) x (omega (arith, lt))) ns.1 ds.1 ks.1 (holds_right (R e) (reads_of_all es) r))

  -- ---- statements

  abbrev F : Stmt → Bool
  F = stmt_is_well_formed p own locals sizes void

  abbrev FA : Arm → Bool
  FA = arm_is_well_formed p own locals sizes void

  abbrev KS : Stmt → Bool
  KS = all_expressions K

  abbrev KA : Arm → Bool
  KA = fold-Arm Bool Bool (all_layer K) all_arm_layer

  abbrev scope_of : Stmt → asked.Scope
  scope_of = stmt_scope globals locals sizes

  abbrev scope_of_arm : Arm → ArmScope
  scope_of_arm = arm_scope globals locals sizes

  -- what is known of a list of statements or arms
  abbrev pub GoodBody : List Stmt → Scope → Type 0
  GoodBody body scope = Good (AllStmts p fn body) (all_of (map F body)) (all_scoped (map stmt_scoped body) scope) (all_of (map KS body)) (λ r a. any_of (map (stmt_reads r a) body))

  abbrev GoodArms : List Arm → Scope → Type 0
  GoodArms arms scope = Good (AllArms p fn arms) (all_of (map FA arms)) (all_of (map (λ (a : Scope → Bool). a scope) (map arm_scoped arms))) (all_of (map KA arms)) (λ r a. any_of (map (arm_reads r a) arms))

  -- of each, whether it is within the limits, well formed, in scope and calls what is known, and what it reads
  abbrev judged : StmtFolds (asked.Scope × ((Bool × Scoped) × (Bool × Reading))) (ArmScope × ((Bool × (Scope → Bool)) × (Bool × Reading)))
  judged =
      stmt_folds (stmt_fold (stmt_scope_layer globals locals sizes) (arm_scope_layer globals locals sizes))
      (stmt_folds (stmt_folds (stmt_fold (stmt_named_layer p own locals sizes void) (arm_named_layer p own locals sizes void)) (stmt_fold scoped_layer arm_scoped_layer))
      (stmt_folds (stmt_fold (all_layer K) all_arm_layer) (stmt_family (λ (r : ℕ → Bool). stmt_family (λ (a : ℕ → Bool). stmt_fold (stmt_reads_layer r a) (arm_reads_layer r a))))))

  record Inside (s : Stmt) (v : asked.Scope × ((Bool × Scoped) × (Bool × Reading))) : Type 0 where
    within : (scope : Scope) → Good (TypedStmt p fn s) v.1.0.0 (v.1.0.1.holds scope) v.1.1.0 v.1.1.1 → v.0.within scope ≡ true
    behind : (scope : Scope) → v.0.behind scope ≡ with_declared v.1.0.1.declares scope

  abbrev ArmInside : Arm → ArmScope × ((Bool × (Scope → Bool)) × (Bool × Reading)) → Type 0
  ArmInside arm v = (scope : Scope) → Good (TypedArm p fn arm) v.1.0.0 (v.1.0.1 scope) v.1.1.0 v.1.1.1 → v.0 scope ≡ true

  abbrev S : Stmt → Type 0
  S s = Inside s (judged.stmt s)

  abbrev A : Arm → Type 0
  A arm = ArmInside arm (judged.arm arm)

  behind_all : (body : List Stmt) → Each S body → (scope : Scope) → all_behind (scopes body) scope ≡ scope_behind (map stmt_scoped body) scope
  behind_all [] h scope = refl
  behind_all (s ∷ body) h scope = ap (λ d. all_behind (scopes body) d) (h.0.behind scope) ∙ behind_all body h.1 (with_declared (stmt_scoped s).declares scope)

  all_inside : (body : List Stmt) → Each S body → (scope : Scope) → GoodBody body scope → all_within (scopes body) scope ≡ true
  all_inside [] h scope g = refl
  all_inside (s ∷ body) h scope g =
      let next = with_declared (stmt_scoped s).declares scope in
      let fs = and_cases (F s) (all_of (map F body)) g.named in
      let ss = and_cases ((stmt_scoped s).holds scope) (all_scoped (map stmt_scoped body) next) g.declared in
      let ks = and_cases (KS s) (all_of (map KS body)) g.known in
      let one : Reading = λ r a. stmt_reads r a s in
      let others : Reading = λ r a. any_of (map (stmt_reads r a) body) in
      and_from ((scope_of s).within scope) (all_within (scopes body) ((scope_of s).behind scope))
      (h.0.within scope (record { typed = g.typed.0; named = fs.0; declared = ss.0; known = ks.0; held = holds_left one others g.held }))
      (ap (λ d. all_within (scopes body) d) (h.0.behind scope) ∙
      all_inside body h.1 next (record { typed = g.typed.1; named = fs.1; declared = ss.1; known = ks.1; held = holds_right one others g.held }))

  arms_inside : (arms : List Arm) → Each A arms → (scope : Scope) → GoodArms arms scope → arms_within (map scope_of_arm arms) scope ≡ true
  arms_inside [] h scope g = refl
  arms_inside (arm ∷ arms) h scope g =
      let fs = and_cases (FA arm) (all_of (map FA arms)) g.named in
      let ss = and_cases (arm_scoped arm scope) (all_of (map (λ (a : Scope → Bool). a scope) (map arm_scoped arms))) g.declared in
      let ks = and_cases (KA arm) (all_of (map KA arms)) g.known in
      let one : Reading = λ r a. arm_reads r a arm in
      let others : Reading = λ r a. any_of (map (arm_reads r a) arms) in
      and_from (scope_of_arm arm scope) (arms_within (map scope_of_arm arms) scope)
      (h.0 scope (record { typed = g.typed.0; named = fs.0; declared = ss.0; known = ks.0; held = holds_left one others g.held }))
      (arms_inside arms h.1 scope (record { typed = g.typed.1; named = fs.1; declared = ss.1; known = ks.1; held = holds_right one others g.held }))

  -- ---- each form

  behind_layer : (x : Stmt-F Stmt Arm) (scope : Scope) → (let w = judged.stmt_layer x in w.0.behind scope ≡ with_declared w.1.0.1.declares scope)
  behind_layer (stmt.Block body) scope = refl
  behind_layer (stmt.Clear l values) scope = refl
  behind_layer (stmt.Express e) scope = refl
  behind_layer (stmt.If e yes_part no_part) scope = refl
  behind_layer (stmt.While e body) scope = refl
  behind_layer (stmt.Do body e) scope = refl
  behind_layer (stmt.For first test step body) scope = refl
  behind_layer (stmt.Switch e arms) scope = refl
  behind_layer stmt.Break scope = refl
  behind_layer stmt.Continue scope = refl
  behind_layer (stmt.Return e) scope = refl

  abbrev reads_all : List Stmt → Reading
  reads_all body r a = any_of (map (stmt_reads r a) body)

  abbrev reads_arms : List Arm → Reading
  reads_arms arms r a = any_of (map (arm_reads r a) arms)

  -- an expression, and statements behind it
  tested : (e : Expr) (body : List Stmt) → Each S body → (scope : Scope) → IsTypedExpr p fn e → AllStmts p fn body → (N e && all_of (map F body)) ≡ true →
      (names_declared scope e && all_scoped (map stmt_scoped body) scope) ≡ true → ((K e && true) && all_of (map KS body)) ≡ true →
      Holds (λ r a. (R e r a || false) || reads_all body r a) → (I scope e && all_within (scopes body) scope) ≡ true
  tested e body h scope t ts f s k r =
      let fs = and_cases (N e) (all_of (map F body)) f in
      let ss = and_cases (names_declared scope e) (all_scoped (map stmt_scoped body) scope) s in
      let ks = first_known e (all_of (map KS body)) k in
      and_from (I scope e) (all_within (scopes body) scope) (expr scope e t fs.0 ss.0 ks.0 (first_held e (reads_all body) r))
      (all_inside body h scope (record { typed = ts; named = fs.1; declared = ss.1; known = ks.1; held = holds_right (λ r a. R e r a || false) (reads_all body) r }))

  -- what two lists of statements read between them
  both_held : (xs ys : List Stmt) → Holds (λ r a. any_of (map (stmt_reads r a) xs ++ map (stmt_reads r a) ys)) → Holds (reads_all xs) × Holds (reads_all ys)
  both_held xs ys h =
      let whole : Reading = λ r a. any_of (map (stmt_reads r a) xs ++ map (stmt_reads r a) ys) in (
        holds_within (reads_all xs) whole (λ r a e. any_left (map (stmt_reads r a) xs) (map (stmt_reads r a) ys) e) h,
        holds_within (reads_all ys) whole (λ r a e. any_right (map (stmt_reads r a) xs) (map (stmt_reads r a) ys) e) h,
      )

  exprs_held : (xs ys : List Expr) → Holds (reads_of_all (xs ++ ys)) → Holds (reads_of_all xs) × Holds (reads_of_all ys)
  exprs_held xs ys h =
      let q : (r a : ℕ → Bool) → any_of (map (expr_reads r a) (xs ++ ys)) ≡ any_of (map (expr_reads r a) xs ++ map (expr_reads r a) ys) = λ r a. ap (λ bs. any_of bs) (map_append (expr_reads r a) xs ys) in (
        holds_within (reads_of_all xs) (reads_of_all (xs ++ ys)) (λ r a e. q r a ∙ any_left (map (expr_reads r a) xs) (map (expr_reads r a) ys) e) h,
        holds_within (reads_of_all ys) (reads_of_all (xs ++ ys)) (λ r a e. q r a ∙ any_right (map (expr_reads r a) xs) (map (expr_reads r a) ys) e) h,
      )

  layer : (x : Stmt-F Stmt Arm) → StmtChildren S A x → (scope : Scope) →
      (let w = judged.stmt_layer x in Good (HasTypedParts p fn x × StmtParts p fn x) w.1.0.0 (w.1.0.1.holds scope) w.1.1.0 w.1.1.1 → w.0.within scope ≡ true)
  layer (stmt.Block body) h scope g = all_inside body h scope (record { typed = g.typed.1; named = g.named; declared = g.declared; known = g.known; held = g.held })
  layer (stmt.Clear l values_of) h scope g =
      let names_itself = any_of (map (names_local l) values_of) in
      let apart = all_of (map (is_well_named p own locals sizes (but_for l)) values_of) in
      let f0 = and_cases (nat_lt l locals) (nat_le (length values_of) (words_of_size (sizes l)) && (all_of (map N values_of) && (names_itself || apart))) g.named in
      let f1 = and_cases (nat_le (length values_of) (words_of_size (sizes l))) (all_of (map N values_of) && (names_itself || apart)) f0.1 in
      let f2 = and_cases (all_of (map N values_of)) (names_itself || apart) f1.1 in
      let known = (and_cases (all_of (map K values_of)) true g.known).0 in
      let held = holds_left (reads_of_all values_of) (λ r a. false) g.held in
      let typed : (e : Expr) → IsTypedAt p fn g.typed.0.0 e → IsTypedExpr p fn e = λ e t. t.0 in
      and_from (nat_lt l locals) (all_exprs_within globals locals sizes values_of (cond names_itself (with_local l scope) scope)) f0.0 (by names_itself f2.1 known held typed f2.0)
    where
      by : (z : Bool) → (z || all_of (map (is_well_named p own locals sizes (but_for l)) values_of)) ≡ true → all_of (map K values_of) ≡ true →
          Holds (reads_of_all values_of) → ((e : Expr) → IsTypedAt p fn g.typed.0.0 e → IsTypedExpr p fn e) → all_of (map N values_of) ≡ true →
          all_exprs_within globals locals sizes values_of (cond z (with_local l scope) scope) ≡ true
      by true e known held typed named = values (λ k. true) (with_local l scope) (with_local l scope) (λ k f o. o) (IsTypedAt p fn g.typed.0.0) typed values_of g.typed.0.2 named g.declared known held
      by false e known held typed named = values (but_for l) (with_local l scope) scope (narrowed l scope) (IsTypedAt p fn g.typed.0.0) typed values_of g.typed.0.2 e g.declared known held
  layer (stmt.Express e) h scope g = expr scope e g.typed.0 g.named g.declared (first_known e true g.known).0 (first_held e (λ r a. false) g.held)
  layer (stmt.If e yes_part no_part) h scope g =
      let fs = and_cases (N e) (all_of (map F yes_part) && all_of (map F no_part)) g.named in
      let f1 = and_cases (all_of (map F yes_part)) (all_of (map F no_part)) fs.1 in
      let ss = and_cases (names_declared scope e) (all_scoped (map stmt_scoped yes_part) scope && all_scoped (map stmt_scoped no_part) scope) g.declared in
      let s1 = and_cases (all_scoped (map stmt_scoped yes_part) scope) (all_scoped (map stmt_scoped no_part) scope) ss.1 in
      let ks = first_known e (all_of (map KS yes_part ++ map KS no_part)) g.known in
      let k1 = all_apart (map KS yes_part) (map KS no_part) ks.1 in
      let inner : Reading = λ r a. any_of (map (stmt_reads r a) yes_part ++ map (stmt_reads r a) no_part) in
      let rs = both_held yes_part no_part (holds_right (λ r a. R e r a || false) inner g.held) in
      and_from (I scope e) (all_within (scopes yes_part) scope && all_within (scopes no_part) scope) (expr scope e g.typed.0 fs.0 ss.0 ks.0 (first_held e inner g.held))
      (and_from (all_within (scopes yes_part) scope) (all_within (scopes no_part) scope)
      (all_inside yes_part h.0 scope (record { typed = g.typed.1.0; named = f1.0; declared = s1.0; known = k1.0; held = rs.0 }))
      (all_inside no_part h.1 scope (record { typed = g.typed.1.1; named = f1.1; declared = s1.1; known = k1.1; held = rs.1 })))
  layer (stmt.While e body) h scope g = tested e body h scope g.typed.0 g.typed.1 g.named g.declared g.known g.held
  layer (stmt.Do body e) h scope g = tested e body h scope g.typed.0 g.typed.1 g.named g.declared g.known g.held
  layer (stmt.For first test step body) h scope g =
      let inner = scope_behind (map stmt_scoped first) scope in
      let n0 = and_cases (all_of (map F first)) (named_option p own locals sizes void test && (named_option p own locals sizes void step && all_of (map F body))) g.named in
      let n1 = and_cases (named_option p own locals sizes void test) (named_option p own locals sizes void step && all_of (map F body)) n0.1 in
      let n2 = and_cases (named_option p own locals sizes void step) (all_of (map F body)) n1.1 in
      let s0 = and_cases (all_scoped (map stmt_scoped first) scope) (option_declared inner test && (option_declared inner step && all_scoped (map stmt_scoped body) inner)) g.declared in
      let s1 = and_cases (option_declared inner test) (option_declared inner step && all_scoped (map stmt_scoped body) inner) s0.1 in
      let s2 = and_cases (option_declared inner step) (all_scoped (map stmt_scoped body) inner) s1.1 in
      let tests = option_to_list test in
      let steps = option_to_list step in
      let k0 = and_cases (all_of (map K (tests ++ steps))) (all_of (map KS first ++ map KS body)) g.known in
      let k1 = all_apart (map K tests) (map K steps) (sym (ap (λ bs. all_of bs) (map_append K tests steps)) ∙ k0.0) in
      let k2 = all_apart (map KS first) (map KS body) k0.1 in
      let rest : Reading = λ r a. any_of (map (stmt_reads r a) first ++ map (stmt_reads r a) body) in
      let r1 = exprs_held tests steps (holds_left (reads_of_all (tests ++ steps)) rest g.held) in
      let r2 = both_held first body (holds_right (reads_of_all (tests ++ steps)) rest g.held) in
      let after : Scope → Bool = λ d. optional_within globals locals sizes test d && (optional_within globals locals sizes step d && all_within (scopes body) d) in
      let there_after : after inner ≡ true =
      and_from (optional_within globals locals sizes test inner) (optional_within globals locals sizes step inner && all_within (scopes body) inner) (optional inner test g.typed.0.0 n1.0 s1.0 k1.0 r1.0)
      (and_from (optional_within globals locals sizes step inner) (all_within (scopes body) inner) (optional inner step g.typed.0.1 n2.0 s2.0 k1.1 r1.1)
      (all_inside body h.1 inner (record { typed = g.typed.1.1; named = n2.1; declared = s2.1; known = k2.1; held = r2.1 }))) in
      and_from (all_within (scopes first) scope) (after (all_behind (scopes first) scope))
      (all_inside first h.0 scope (record { typed = g.typed.1.0; named = n0.0; declared = s0.0; known = k2.0; held = r2.0 }))
      (ap (λ d. after d) (behind_all first h.0 scope) ∙ there_after)
  layer (stmt.Switch e arms) h scope g =
      let fs = and_cases (N e) (all_of (map FA arms)) g.named in
      let scoped_arms = all_of (map (λ (a : Scope → Bool). a scope) (map arm_scoped arms)) in
      let ss = and_cases (names_declared scope e) scoped_arms g.declared in
      let ks = first_known e (all_of (map KA arms)) g.known in
      and_from (I scope e) (arms_within (map scope_of_arm arms) scope) (expr scope e g.typed.0.0 fs.0 ss.0 ks.0 (first_held e (reads_arms arms) g.held))
      (arms_inside arms h scope (record { typed = g.typed.1; named = fs.1; declared = ss.1; known = ks.1; held = holds_right (λ r a. R e r a || false) (reads_arms arms) g.held }))
  layer stmt.Break h scope g = refl
  layer stmt.Continue h scope g = refl
  layer (stmt.Return None) h scope g = refl
  layer (stmt.Return (Some e)) h scope g = expr scope e g.typed.0.0 (and_cases (not void) (N e) g.named).1 g.declared (first_known e true g.known).0 (first_held e (λ r a. false) g.held)

  -- ---- by induction

  each_inside : (body : List Stmt) → Each S body
  each_inside =
      along_stmts judged Inside ArmInside
      (λ x h. record {
        within = λ scope g.
            layer x h scope (record {
              typed = (subst (HasTypedParts p fn) (out-roll-Stmt x) (stmt_node p fn (roll-Stmt x) g.typed), subst (StmtParts p fn) (out-roll-Stmt x) (stmt_parts p fn (roll-Stmt x) g.typed));
              named = g.named;
              declared = g.declared;
              known = g.known;
              held = g.held;
            });
        behind = behind_layer x;
      })
      (λ x h scope g.
      all_inside x.body h scope (record {
        typed = subst (λ (z : Arm-F Stmt Arm). AllStmts p fn z.body) (out-roll-Arm x) (arm_parts p fn (roll-Arm x) g.typed);
        named = g.named;
        declared = g.declared;
        known = g.known;
        held = g.held;
      }))

  -- The statements of a well-formed function.
  pub body_within : (body : List Stmt) (scope : Scope) → GoodBody body scope → all_within (scopes body) scope ≡ true
  body_within body scope g = all_inside body (each_inside body) scope g
