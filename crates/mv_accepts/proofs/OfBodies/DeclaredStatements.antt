-- That locals are named only where they are declared comes from the parts of a statement, from the scope before it to the scope behind it.
use Rattle.std.proofs.Common.{◌≡◌, ℕ, ◌⊎◌, inl, inr, Bool, true, false, ◌||◌, refl, sym, ◌∙◌, ap, subst, List, [], ◌∷◌, ◌++◌, map, length, Option, Some, None, nat_eq, if◌then◌else◌, arith}
use Rattle.std.specs.List.{AllByRecursion}
use Rattle.std.proofs.lemmas.Bool.{and_from, and_parts}
use Rattle.mv_ast.specs.declared.program.Arm.{Arm, fold_out-Arm}
use Rattle.mv_ast.specs.declared.program.Program.{Program}
use Rattle.mv_ast.specs.declared.program.Function.{Function}
use Rattle.mv_ast.specs.declared.program.Local.{Local}
use Rattle.mv_ast.specs.declared.program.Expr.{Expr}
use Rattle.mv_ast.specs.declared.program.Stmt.{Stmt, Stmt-F, map-Stmt, out-Stmt, fold_out-Stmt}
use Rattle.mv_ast.specs.declared.program.Stmt.TheVariants as stmt
use Rattle.mv_ast.specs.declared.program.Stmt.TheVariants.{outs-Block, outs-Clear, outs-Express, outs-If, outs-While, outs-Do, outs-For, outs-Switch, outs-Break, outs-Continue, outs-Return}
use Rattle.mv_ast.specs.declared.program.Stmt.TheOpen as open_stmt
use Rattle.mv_syntax.specs.declared.unit.Line.{Line}
use Rattle.mv_syntax.specs.declared.unit.Node.{Node}
use Rattle.mv_check_scope.specs.declared.meaning.Meaning.{Meaning}
use Rattle.mv_check_scope.specs.declared.meaning.Meaning.TheVariants as meaning
use Rattle.mv_check_scope.specs.declared.meaning.Storage.{Storage}
use Rattle.mv_check_scope.specs.declared.meaning.Storage.TheVariants as storage
use Rattle.mv_check_scope.specs.declared.scope.Scope.{Scope}
use Rattle.mv_check_scope.specs.declared.space.NameSpace.{NameSpace}
use Rattle.mv_check_scope.specs.Known.{known_function}
use Rattle.mv_check_scope.specs.Scopes.{sought}
use Rattle.mv_check_scope.specs.Conversions.{promotion, promoted, converted_to}
use Rattle.mv_check_scope.specs.Scoped.{unless_declared, meaning_of, declared, with_local, block_entered, block_left}
use Rattle.mv_check_expressions.specs.Judged.{Good}
use Rattle.mv_check_expressions.specs.Judgements.{value_judgement, effect_judgement}
use Rattle.mv_check_declarations.specs.Locals.{scalar_meaning, array_meaning}
use Rattle.mv_check_statements.specs.declared.arms.Arms.{Arms}
use Rattle.mv_check_statements.specs.SwitchBodies.{no_arm, has_statements, at_label, with_statement, arms_of}
use Rattle.mv_check_statements.specs.Statements.{body_judgement}
use Rattle.mv_source_forms.specs.Lists.{all_of}
use Rattle.mv_source_forms.specs.Scopes as scopes
use Rattle.mv_source_forms.specs.Scopes.{Scoped, with_declared, names_declared, option_declared, all_scoped, scope_behind, scoped_layer, arm_scoped_layer, stmt_scoped, arm_scoped}
use Rattle.mv_source_forms.specs.WellFormed.{parameters}
use Rattle.mv_accepts.specs.Expressions.Soundness.{Fits}
use Rattle.mv_accepts.specs.Statements.Bodies.{Keeps}
use Rattle.mv_accepts.proofs.OfStatements.Judging.{IfGood, by_good, of_good}
use Rattle.mv_accepts.proofs.OfStatements.Names.{declared_means, entered_means}
use Rattle.mv_accepts.proofs.OfStatements.Growing.{Enumerates}
use Rattle.mv_accepts.proofs.OfStatements.Property.{OfOption, MeansLocal, Passage}
use Rattle.mv_accepts.proofs.OfStatements.Bodies.{lines_have}
use Rattle.mv_accepts.proofs.OfStatements.Values.{initials_have}
use Rattle.mv_accepts.proofs.OfStatements.Lists.{all_last}
use Rattle.mv_accepts.specs.Bodies.Declared.{IsIn, IsCovered, Covers}
use Rattle.mv_accepts.proofs.OfBodies.DeclaredExpressions.{converted_declared, value_declared, effect_declared}

abbrev Set : Type 0
Set = ℕ → Bool

-- ---- what a scope names

same_covers : (s t : Scope) (D : Set) → t.names ≡ s.names → Covers D s → Covers D t
same_covers s t D n h name m q = h name m (ap (λ (x : NameSpace). unless_declared (sought x name) (known_function name)) (sym n) ∙ q)

entered_covers : (s : Scope) (D : Set) → Covers D s → Covers D (block_entered s)
entered_covers s D h name m q = h name m (sym (entered_means s name) ∙ q)

enumerated_covers : (s t : Scope) (D : Set) → Enumerates s t → Covers D s → Covers D t
enumerated_covers s t D e h name m q = by m (e.names name m q)
  where
    by : (m : Meaning) → (meaning_of s name ≡ Some m) ⊎ ((v : ℕ) × (m ≡ meaning.Enumerator v)) → IsCovered D m
    by m (inl r) = h name m r
    by m (inr r) = subst (IsCovered D) (sym r.1) tt

more_in : (D : Set) (l : ℕ) (s : Storage) → IsIn D s → IsIn (scopes.with_local l D) s
more_in D l (storage.Global g) h = tt
more_in D l (storage.Local k) h = by (nat_eq k l)
  where
    by : (b : Bool) → (b || D k) ≡ true
    by true = refl
    by false = h

more_covered : (D : Set) (l : ℕ) (m : Meaning) → IsCovered D m → IsCovered (scopes.with_local l D) m
more_covered D l (meaning.Object v) h = more_in D l v.storage h
more_covered D l (meaning.Array a) h = more_in D l a.storage h
more_covered D l (meaning.Function r) h = tt
more_covered D l (meaning.Enumerator v) h = tt
more_covered D l (meaning.Tag n) h = tt
more_covered D l (meaning.Known k) h = tt

own_in : (D : Set) (l : ℕ) → (nat_eq l l || D l) ≡ true
own_in D l = let q : nat_eq l l ≡ true = same l in rw q refl
  where
    same : (n : ℕ) → nat_eq n n ≡ true
    same n = grind arith

new_covered : (D : Set) (l : ℕ) (k : Local) (m : Meaning) → MeansLocal l k m → IsCovered (scopes.with_local l D) m
new_covered D l k m h = by h.1
  where
    by : (m ≡ scalar_meaning l k.ctype h.0) ⊎ (m ≡ array_meaning l k.ctype h.0) → IsCovered (scopes.with_local l D) m
    by (inl q) = subst (IsCovered (scopes.with_local l D)) (sym q) (own_in D l)
    by (inr q) = subst (IsCovered (scopes.with_local l D)) (sym q) (own_in D l)

local_covers : (s t : Scope) (name : List ℕ) (l : Local) (m : Meaning) (D : Set) → t.names ≡ s.names → MeansLocal (length t.locals) l m → Covers D s →
    Covers (scopes.with_local (length t.locals) D) (declared (with_local t l) name m)
local_covers s t name l m D n means h x k q = by (declared_means (with_local t l) name m x k q)
  where
    by : (meaning_of (with_local t l) x ≡ Some k) ⊎ (m ≡ k) → IsCovered (scopes.with_local (length t.locals) D) k
    by (inl r) = more_covered D (length t.locals) k (same_covers s t D n h x k r)
    by (inr r) = subst (IsCovered (scopes.with_local (length t.locals) D)) r (new_covered D (length t.locals) l m means)

-- ---- lists of statements

abbrev Holds : Set → List Stmt → Type 0
Holds D ss = all_scoped (map stmt_scoped ss) D ≡ true

abbrev behind : Set → List Stmt → Set
behind D ss = scope_behind (map stmt_scoped ss) D

joined_holds : (ss ts : List Stmt) (D : Set) → Holds D ss → Holds (behind D ss) ts → Holds D (ss ++ ts)
joined_holds [] ts D h k = k
joined_holds (s ∷ ss) ts D h k =
    let b = and_parts ((stmt_scoped s).holds D) (all_scoped (map stmt_scoped ss) (with_declared (stmt_scoped s).declares D)) h in
    and_from _ _ b.0 (joined_holds ss ts (with_declared (stmt_scoped s).declares D) b.1 k)

joined_behind : (ss ts : List Stmt) (D : Set) → behind D (ss ++ ts) ≡ behind (behind D ss) ts
joined_behind [] ts D = refl
joined_behind (s ∷ ss) ts D = joined_behind ss ts (with_declared (stmt_scoped s).declares D)

-- ---- what holds from one scope to a later one

abbrev OfStmt : Scope → Scope → Stmt → Type 0
OfStmt s t x = ((stmt_scoped x).declares ≡ None) × ((D : Set) → Covers D s → ((stmt_scoped x).holds D ≡ true) × Covers D t)

abbrev OfPart : Scope → Scope → List Stmt → Type 0
OfPart s t ss = (D : Set) → Covers D s → Holds D ss × Covers D t

abbrev OfLines : Scope → Scope → List Stmt → Type 0
OfLines s t ss = (D : Set) → Covers D s → Holds D ss × Covers (behind D ss) t

abbrev OfValue : Scope → Expr → Type 0
OfValue s e = (D : Set) → Covers D s → names_declared D e ≡ true

abbrev BodyHolds : Set → Arm → Type 0
BodyHolds D a = Holds D a.body

abbrev OfArms : Scope → Scope → Arms → Type 0
OfArms s t y = (D : Set) → Covers D s → AllByRecursion (BodyHolds D) y.done × Holds D y.last.body × (behind D y.last.body ≡ D) × Covers D t

abbrev layer_of : Stmt-F Stmt Arm → Scoped
layer_of z = scoped_layer (map-Stmt Stmt Arm Scoped ((ℕ → Bool) → Bool) stmt_scoped arm_scoped z)

one_behind : (x : Stmt) (D : Set) → (stmt_scoped x).declares ≡ None → behind D (x ∷ []) ≡ D
one_behind x D q = ap (λ o. with_declared o D) q

one_holds : (s t : Scope) (x : Stmt) → OfStmt s t x → (D : Set) → Covers D s → Holds D (x ∷ [])
one_holds s t x h D c = and_from ((stmt_scoped x).holds D) true (h.1 D c).0 refl

stmt_by : (s t : Scope) (w : Stmt) (z : Stmt-F Stmt Arm) → out-Stmt w ≡ z → (layer_of z).declares ≡ None →
    ((D : Set) → Covers D s → ((layer_of z).holds D ≡ true) × Covers D t) → OfStmt s t w
stmt_by s t w z o d h =
    let q : stmt_scoped w ≡ layer_of z = fold_out-Stmt Scoped ((ℕ → Bool) → Bool) scoped_layer arm_scoped_layer w ∙ ap layer_of o in
    (ap (λ (x : Scoped). x.declares) q ∙ d, λ D c. let k = h D c in (ap (λ (x : Scoped). x.holds D) q ∙ k.0, k.1))

-- ---- arms

arm_is : (a : Arm) (D : Set) → Holds D a.body → arm_scoped a D ≡ true
arm_is a D h = ap (λ (g : (ℕ → Bool) → Bool). g D) (fold_out-Arm Scoped ((ℕ → Bool) → Bool) scoped_layer arm_scoped_layer a) ∙ h

arms_are : (arms : List Arm) (D : Set) → AllByRecursion (BodyHolds D) arms → all_of (map (λ (g : (ℕ → Bool) → Bool). g D) (map arm_scoped arms)) ≡ true
arms_are [] D h = refl
arms_are (a ∷ arms) D h = and_from _ _ (arm_is a D h.0) (arms_are arms D h.1)

label_has : (s t : Scope) (y : Arms) → OfArms s t y → OfArms s t (at_label y)
unfolding at_label
label_has s t y h D c = by (has_statements y.last.body) (h D c)
  where
    by : (b : Bool) → AllByRecursion (BodyHolds D) y.done × Holds D y.last.body × (behind D y.last.body ≡ D) × Covers D t →
        (let z : Arms = if b then record y { done = y.done ++ y.last ∷ []; last = no_arm } else y in
        AllByRecursion (BodyHolds D) z.done × Holds D z.last.body × (behind D z.last.body ≡ D) × Covers D t)
    by true k = (all_last (BodyHolds D) y.done y.last k.0 k.1, refl, refl, k.3)
    by false k = k

more_has : (s t u : Scope) (x : Stmt) (y : Arms) → OfStmt t u x → OfArms s t y → OfArms s u (with_statement x y)
more_has s t u x y h k D c =
    let a = k D c in
    let e = h.1 D a.3 in (
      a.0,
      joined_holds y.last.body (x ∷ []) D a.1 (subst (λ E. Holds E (x ∷ [])) (sym a.2) (one_holds t u x h D a.3)),
      joined_behind y.last.body (x ∷ []) D ∙ (ap (λ E. behind E (x ∷ [])) a.2 ∙ one_behind x D h.0),
      e.1,
    )

-- ---- values

option_is : (s : Scope) (o : Option Expr) → OfOption (OfValue s) o → (D : Set) → Covers D s → option_declared D o ≡ true
option_is s None h D c = refl
option_is s (Some e) h D c = h D c

values_are : (s : Scope) (es : List Expr) → AllByRecursion (OfValue s) es → (D : Set) → Covers D s → all_of (map (names_declared D) es) ≡ true
values_are s [] h D c = refl
values_are s (e ∷ es) h D c = and_from _ _ (h.0 D c) (values_are s es h.1 D c)

value_is : (s : Scope) (n : Node) → IfGood (value_judgement s n) (OfValue s)
value_is s n = by_good (OfValue s) (value_judgement s n) (λ e q D c. of_good (λ y. names_declared D y ≡ true) (value_judgement s n) (value_declared D s c n) e q)

effect_is : (s : Scope) (n : Node) → IfGood (effect_judgement s n) (OfValue s)
effect_is s n = by_good (OfValue s) (effect_judgement s n) (λ e q D c. of_good (λ y. names_declared D y ≡ true) (effect_judgement s n) (effect_declared D s c n) e q)

-- ---- the declaration of a local

clear_has : (s t : Scope) (name : List ℕ) (l : Local) (m : Meaning) (es : List Expr) → t.names ≡ s.names → MeansLocal (length t.locals) l m →
    AllByRecursion (OfValue (declared (with_local t l) name m)) es → OfLines s (declared (with_local t l) name m) (stmt.Clear (length t.locals) es ∷ [])
clear_has s t name l m es n means h D c =
    let w : Stmt = stmt.Clear (length t.locals) es in
    let u : Scope = declared (with_local t l) name m in
    let more : Covers (scopes.with_local (length t.locals) D) u = local_covers s t name l m D n means c in
    let q : stmt_scoped w ≡ layer_of (open_stmt.Clear (length t.locals) es) =
    fold_out-Stmt Scoped ((ℕ → Bool) → Bool) scoped_layer arm_scoped_layer w ∙ ap layer_of (outs-Clear (length t.locals) es) in (
      and_from ((stmt_scoped w).holds D) true (ap (λ (x : Scoped). x.holds D) q ∙ values_are u es h (scopes.with_local (length t.locals) D) more) refl,
      subst (λ (x : Scoped). Covers (with_declared x.declares D) u) (sym q) more,
    )

-- ---- the property

module _ (p : Program) (f : Function) where
  abbrev declaring : Passage
  declaring = record {
    program = p;
    function = f;
    of_name = λ m. Unit {0};
    of_value = OfValue;
    of_values = λ s l es. AllByRecursion (OfValue s) es;
    of_stmt = λ b c s t x. OfStmt s t x;
    of_part = λ b c s t ss. OfPart s t ss;
    of_lines = λ b c s t ss. OfLines s t ss;
    of_arms = λ c s t y. OfArms s t y;
    enumerator = λ v. tt;
    scalar_local = λ n t fixed h. tt;
    array_local = λ n t size fixed h. tt;
    value = λ s k n. value_is s n;
    effect = λ s k n. effect_is s n;
    initials = λ s k d taken l. initials_have s (OfValue s) (value_is s) (λ t e. OfValue s e) (λ t e h q D c. converted_declared D t e (h D c)) d taken l;
    no_lines = λ b c s t e D h. (refl, enumerated_covers s t D e h);
    more_lines = λ b c s t u ss ts h k D e.
        let x = h D e in
        let y = k (behind D ss) x.1 in
        (joined_holds ss ts D x.0 y.0, subst (λ E. Covers E u) (sym (joined_behind ss ts D)) y.1);
    stmt_line = λ b c s t x h D e. (one_holds s t x h D e, subst (λ E. Covers E t) (sym (one_behind x D h.0)) (h.1 D e).1);
    clear_line = λ b c s t name l m es n k there h. clear_has s t name l m es n k h;
    no_part = λ b c s D e. (refl, e);
    stmt_part = λ b c s t x h D e. (one_holds s t x h D e, (h.1 D e).1);
    empty_form = λ b c s. stmt_by s s (stmt.Block []) (open_stmt.Block []) (outs-Block []) refl (λ D e. (refl, e));
    block_form = λ b c s t ss n h. stmt_by s (block_left t) (stmt.Block ss) (open_stmt.Block ss) (outs-Block ss) refl
        (λ D e. ((h D (entered_covers s D e)).0, same_covers s (block_left t) D n e));
    express_form = λ b c s e h. stmt_by s s (stmt.Express e) (open_stmt.Express e) (outs-Express e) refl (λ D k. (h D k, k));
    if_form = λ b c s t u e ss ts h i j. stmt_by s u (stmt.If e ss ts) (open_stmt.If e ss ts) (outs-If e ss ts) refl
        (λ D k. let x = i D k in let y = j D x.1 in (and_from _ _ (h D k) (and_from _ _ x.0 y.0), y.1));
    while_form = λ b c s t e ss h i. stmt_by s t (stmt.While e ss) (open_stmt.While e ss) (outs-While e ss) refl (λ D k. let x = i D k in (and_from _ _ (h D k) x.0, x.1));
    do_form = λ b c s t ss e i h. stmt_by s t (stmt.Do ss e) (open_stmt.Do ss e) (outs-Do ss e) refl (λ D k. let x = i D k in (and_from _ _ (h D x.1) x.0, x.1));
    for_form = λ b c s t u first test step ss n h i j k.
        stmt_by s (block_left u) (stmt.For first test step ss) (open_stmt.For first test step ss) (outs-For first test step ss) refl (λ D e.
        let x = h D (entered_covers s D e) in (
          and_from _ _ x.0 (and_from _ _ (option_is t test i (behind D first) x.1) (and_from _ _ (option_is t step j (behind D first) x.1) (k (behind D first) x.1).0)),
          same_covers s (block_left u) D n e,
        ));
    break_form = λ c s. stmt_by s s stmt.Break open_stmt.Break outs-Break refl (λ D e. (refl, e));
    continue_form = λ b s. stmt_by s s stmt.Continue open_stmt.Continue outs-Continue refl (λ D e. (refl, e));
    nothing_form = λ b c s q. stmt_by s s (stmt.Return None) (open_stmt.Return None) (outs-Return None) refl (λ D e. (refl, e));
    return_form = λ b c s e q k h. stmt_by s s (stmt.Return (Some (converted_to f.result e))) (open_stmt.Return (Some (converted_to f.result e))) (outs-Return (Some (converted_to f.result e))) refl
        (λ D i. (converted_declared D f.result e (h D i), i));
    switch_form = λ b c s t e y q h k. stmt_by s t (stmt.Switch (promoted e) (arms_of y)) (open_stmt.Switch (promoted e) (arms_of y)) (outs-Switch (promoted e) (arms_of y)) refl
        (λ D i. let x = k D i in (and_from _ _ (converted_declared D (promotion e.ctype) e (h D i)) (arms_are (arms_of y) D (all_last (BodyHolds D) y.done y.last x.0 x.1)), x.3));
    no_arm_form = λ c s D e. (tt, refl, refl, e);
    case_form = λ c s t v y h. label_has s t y h;
    default_form = λ c s t y q h. label_has s t y h;
    statement_form = λ c s t u x y h k. more_has s t u x y h k;
    arms_form = λ c s t y n h D e. let x = h D (entered_covers s D e) in (x.0, x.1, x.2, same_covers s (block_left t) D n e);
  }

  pub names_declared_hold : (body : Line) (s u : Scope) (ss : List Stmt) → body_judgement f.result body s ≡ Good (u, ss) → Keeps u.signatures p.signatures →
      Keeps u.locals f.locals → Fits p f s → Covers (parameters f) s → all_scoped (map stmt_scoped ss) (parameters f) ≡ true
  names_declared_hold body s u ss q signatures locals fits covers =
      ((lines_have declaring body s u ss q signatures locals (record { fits = fits; names = λ name m h. tt })).1 (parameters f) covers).0
