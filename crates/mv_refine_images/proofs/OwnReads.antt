-- A global that a function reads is one that it names: so a switch that an attributed function reads is its own.
use Rattle.std.proofs.Common.{◌≡◌, ℕ, Bool, true, false, ◌&&◌, ◌||◌, List, [], ◌∷◌, ◌++◌, map, All, refl, sym, subst}
use Rattle.std.proofs.lemmas.Bool.{eqb-true, or_right}
use Rattle.std.specs.Prelude.{nat_eq, option_to_list}
use Rattle.std.specs.List.{AllByRecursion}
use Rattle.std.proofs.lemmas.List.Elements.{All-append, All-head, All-tail, All-weaker}
use Rattle.mv_num.proofs.Booleans.{and_cases, from_falsity}
use Rattle.mv_num.specs.Lists.{is_among}
use Rattle.mv_ast.specs.declared.program.Program.{Program}
use Rattle.mv_ast.specs.declared.program.Function.{Function}
use Rattle.mv_ast.specs.declared.program.Expr.{Expr}
use Rattle.mv_ast.specs.declared.program.Form.{Form, Form-F}
use Rattle.mv_ast.specs.declared.program.Form.TheOpen as form
use Rattle.mv_ast.specs.declared.program.Target.{Target, Target-F}
use Rattle.mv_ast.specs.declared.program.Stmt.{Stmt, Stmt-F}
use Rattle.mv_ast.specs.declared.program.Stmt.TheOpen as stmt
use Rattle.mv_ast.specs.declared.program.Arm.{Arm}
use Rattle.mv_ast.specs.Names.{any_of}
use Rattle.mv_source_forms.specs.Lists.{all_of}
use Rattle.mv_source_forms.specs.Scopes.{form_in, layer_in}
use Rattle.mv_source_forms.specs.Uses.{is_own, target_is_own, all_layer, all_arm_layer, all_expressions, names_own}
use Rattle.mv_source_forms.proofs.ExpressionFolds.{ExprFolds, expr_fold, expr_folds, along_exprs}
use Rattle.mv_source_forms.proofs.ExpressionInduction.{FormChildren, TargetChildren}
use Rattle.mv_source_forms.proofs.StatementFolds.{StmtFolds, stmt_fold, stmt_folds, along_stmts}
use Rattle.mv_source_forms.proofs.StatementInduction.{StmtChildren}
use Rattle.mv_source_forms.proofs.Tests.{one_holds, two_hold, three_hold, all_apart, last_apart}
use Rattle.mv_ir.specs.Measures.{scalars_read, arrays_read}
use Rattle.mv_lower_spec.specs.Functions.{lower_function}
use Rattle.mv_lower_spec.specs.Shape.Law.{IsFunctionOf, LoweredReadNoMore}
use Rattle.mv_lower_spec.specs.Shape.Reads.{LvalueReads, lvalue_reads, reads_layer, inner_reads, stmt_reads_layer, arm_reads_layer, stmt_reads, none, reads_scalar, reads_array}
use Rattle.mv_select.specs.Bodies.SelectedBodies.{globals_read}

-- ---- one of two, one of some

module _ (Goal : Type 0) where
  -- what leads there from a test
  abbrev From : Bool → Type 0
  From b = b ≡ true → Goal

  either : (a b : Bool) → From a → From b → From (a || b)
  either true b h k q = h refl
  either false b h k q = k q

  apart : (xs ys : List Bool) → From (any_of xs) → From (any_of ys) → From (any_of (xs ++ ys))
  apart [] ys h k q = k q
  apart (true ∷ xs) ys h k q = h refl
  apart (false ∷ xs) ys h k q = apart xs ys h k q

-- ---- what is read is named

module _ (p : Program) (g : Function) (scalar array : ℕ → Bool) (Goal : Type 0) (scalar_is : (k : ℕ) → scalar k ≡ true → is_own p g k ≡ true → Goal) (array_is : (k : ℕ) → array k ≡ true → is_own p g k ≡ true → Goal) where
  abbrev both : ExprFolds (Bool × Bool) (LvalueReads × Bool) (Bool × Bool)
  both = expr_folds (expr_fold (reads_layer scalar array) (lvalue_reads scalar array) (inner_reads scalar array)) (expr_fold form_in (target_is_own p g) layer_in)

  abbrev P : Form → Bool × Bool → Type 0
  P f v = v.1 ≡ true → From Goal v.0

  abbrev Q : Target → LvalueReads × Bool → Type 0
  Q t v = v.1 ≡ true → From Goal v.0.itself × From Goal v.0.index

  abbrev S : Expr → Bool × Bool → Type 0
  S e v = v.1 ≡ true → From Goal v.0

  abbrev F : Form → Type 0
  F f = P f (both.form f)

  abbrev T : Target → Type 0
  T t = Q t (both.target t)

  abbrev E : Expr → Type 0
  E e = S e (both.expr e)

  abbrev reads : Expr → Bool
  reads e = (both.expr e).0

  abbrev names : Expr → Bool
  names e = (both.expr e).1

  abbrev target : Target → LvalueReads
  target t = (both.target t).0

  abbrev own : Target → Bool
  own t = (both.target t).1

  each : (es : List Expr) → AllByRecursion E es → all_of (map names es) ≡ true → From Goal (any_of (map reads es))
  each [] h q r = from_falsity r
  each (e ∷ es) h q r = let s = and_cases (names e) (all_of (map names es)) q in either Goal (reads e) (any_of (map reads es)) (h.0 s.0) (each es h.1 s.1) r

  read : (t : Target) → T t → own t ≡ true → From Goal ((target t).itself || (target t).index)
  read t h q = let u = h q in either Goal (target t).itself (target t).index u.0 u.1

  two : (a b : Expr) → E a × E b → all_of (names a ∷ names b ∷ []) ≡ true → From Goal (reads a || reads b)
  two a b h q = let s = two_hold (names a) (names b) q in either Goal (reads a) (reads b) (h.0 s.0) (h.1 s.1)

  layer : (x : Form-F Form Target Expr) → FormChildren F T E x → (both.form_layer x).1 ≡ true → From Goal (both.form_layer x).0
  layer (form.Number n) h q r = from_falsity r
  layer (form.Read t) h q r = read t h (one_holds (own t) q) r
  layer (form.Function f) h q r = from_falsity r
  layer (form.Unary op a) h q r = h (one_holds (names a) q) r
  layer (form.Binary op a b) h q r = two a b h q r
  layer (form.Both a b) h q r = two a b h q r
  layer (form.Either a b) h q r = two a b h q r
  layer (form.Choose c a b) h q r =
      let s = three_hold (names c) (names a) (names b) q in
      either Goal (reads c) (reads a || reads b) (h.0 s.0) (either Goal (reads a) (reads b) (h.1 s.1) (h.2 s.2)) r
  layer (form.Convert a) h q r = h (one_holds (names a) q) r
  layer (form.Set t a) h q r = let s = two_hold (own t) (names a) q in either Goal (target t).index (reads a) (h.0 s.0).1 (h.1 s.1) r
  layer (form.Change op kind t a) h q r =
      let s = two_hold (own t) (names a) q in either Goal ((target t).itself || (target t).index) (reads a) (read t h.0 s.0) (h.1 s.1) r
  layer (form.After up t) h q r = read t h (one_holds (own t) q) r
  layer (form.Direct f args) h q r = each args h q r
  layer (form.Through args e) h q r =
      let s = last_apart (map names args) (names e) q in either Goal (any_of (map reads args)) (reads e) (each args h.0 s.0) (h.1 s.1) r
  layer (form.Known k args) h q r = each args h q r

  target_layer : (x : Target-F Form Target Expr) → TargetChildren F T E x → (both.target_layer x).1 ≡ true → From Goal (both.target_layer x).0.itself × From Goal (both.target_layer x).0.index
  target_layer (form.Global k) h q = ((λ r. scalar_is k r q), (λ r. from_falsity r))
  target_layer (form.Local l) h q = ((λ r. from_falsity r), (λ r. from_falsity r))
  target_layer (form.GlobalAt k e) h q = let s = and_cases (is_own p g k) (names e) q in ((λ r. array_is k r s.0), h s.1)
  target_layer (form.LocalAt l e) h q = ((λ r. from_falsity r), h q)

  in_expr : (e : Expr) → E e
  in_expr = along_exprs both P Q S (λ x h. layer x h) (λ x h. target_layer x h) (λ x h. h)

  all_in : (es : List Expr) → AllByRecursion E es
  all_in [] = tt
  all_in (e ∷ es) = (in_expr e, all_in es)

  -- ---- statements

  abbrev stmts : StmtFolds (Bool × Bool) (Bool × Bool)
  stmts = stmt_folds (stmt_fold (stmt_reads_layer scalar array) (arm_reads_layer scalar array)) (stmt_fold (all_layer names) all_arm_layer)

  abbrev PS : Stmt → Bool × Bool → Type 0
  PS s v = v.1 ≡ true → From Goal v.0

  abbrev PA : Arm → Bool × Bool → Type 0
  PA a v = v.1 ≡ true → From Goal v.0

  abbrev SS : Stmt → Type 0
  SS s = PS s (stmts.stmt s)

  abbrev SA : Arm → Type 0
  SA a = PA a (stmts.arm a)

  abbrev stmt_names : Stmt → Bool
  stmt_names s = (stmts.stmt s).1

  abbrev read_in : Stmt → Bool
  read_in s = (stmts.stmt s).0

  abbrev arm_names : Arm → Bool
  arm_names a = (stmts.arm a).1

  abbrev read_in_arm : Arm → Bool
  read_in_arm a = (stmts.arm a).0

  body_reads : (body : List Stmt) → AllByRecursion SS body → all_of (map stmt_names body) ≡ true → From Goal (any_of (map read_in body))
  body_reads [] h q r = from_falsity r
  body_reads (s ∷ body) h q r =
      let t = and_cases (stmt_names s) (all_of (map stmt_names body)) q in either Goal (read_in s) (any_of (map read_in body)) (h.0 t.0) (body_reads body h.1 t.1) r

  arms_read : (arms : List Arm) → AllByRecursion SA arms → all_of (map arm_names arms) ≡ true → From Goal (any_of (map read_in_arm arms))
  arms_read [] h q r = from_falsity r
  arms_read (a ∷ arms) h q r =
      let t = and_cases (arm_names a) (all_of (map arm_names arms)) q in either Goal (read_in_arm a) (any_of (map read_in_arm arms)) (h.0 t.0) (arms_read arms h.1 t.1) r

  bodies_read : (a b : List Stmt) → AllByRecursion SS a × AllByRecursion SS b → all_of (map stmt_names a ++ map stmt_names b) ≡ true → From Goal (any_of (map read_in a ++ map read_in b))
  bodies_read a b h q =
      let t = all_apart (map stmt_names a) (map stmt_names b) q in apart Goal (map read_in a) (map read_in b) (body_reads a h.0 t.0) (body_reads b h.1 t.1)

  -- the expressions that stand directly in a statement, and the parts
  direct : (es : List Expr) (parts tests : List Bool) → (all_of tests ≡ true → From Goal (any_of parts)) → (all_of (map names es) && all_of tests) ≡ true → From Goal (any_of (map reads es) || any_of parts)
  direct es parts tests h q = let s = and_cases (all_of (map names es)) (all_of tests) q in either Goal (any_of (map reads es)) (any_of parts) (each es (all_in es) s.0) (h s.1)

  alone : all_of [] ≡ true → From Goal (any_of [])
  alone q r = from_falsity r

  stmt_layer : (x : Stmt-F Stmt Arm) → StmtChildren SS SA x → (stmts.stmt_layer x).1 ≡ true → From Goal (stmts.stmt_layer x).0
  stmt_layer (stmt.Block body) h q r = direct [] (map read_in body) (map stmt_names body) (body_reads body h) q r
  stmt_layer (stmt.Clear l values) h q r = direct values [] [] alone q r
  stmt_layer (stmt.Express e) h q r = direct (e ∷ []) [] [] alone q r
  stmt_layer (stmt.If e a b) h q r = direct (e ∷ []) (map read_in a ++ map read_in b) (map stmt_names a ++ map stmt_names b) (bodies_read a b h) q r
  stmt_layer (stmt.While e body) h q r = direct (e ∷ []) (map read_in body) (map stmt_names body) (body_reads body h) q r
  stmt_layer (stmt.Do body e) h q r = direct (e ∷ []) (map read_in body) (map stmt_names body) (body_reads body h) q r
  stmt_layer (stmt.For first test step body) h q r =
      direct (option_to_list test ++ option_to_list step) (map read_in first ++ map read_in body) (map stmt_names first ++ map stmt_names body) (bodies_read first body h) q r
  stmt_layer (stmt.Switch e arms) h q r = direct (e ∷ []) (map read_in_arm arms) (map arm_names arms) (arms_read arms h) q r
  stmt_layer stmt.Break h q r = direct [] [] [] alone q r
  stmt_layer stmt.Continue h q r = direct [] [] [] alone q r
  stmt_layer (stmt.Return e) h q r = direct (option_to_list e) [] [] alone q r

  in_body : all_of (map (all_expressions (names_own p g)) g.body) ≡ true → From Goal (any_of (map (stmt_reads scalar array) g.body))
  in_body q r = body_reads g.body (along_stmts stmts PS PA (λ x h. stmt_layer x h) (λ x h. body_reads x.body h) g.body) q r

-- ---- a function

module _ (p : Program) (g : Function) (named : all_of (map (all_expressions (names_own p g)) g.body) ≡ true) (x : ℕ) where
  abbrev IsOwn : Type 0
  IsOwn = is_own p g x ≡ true

  same : (k : ℕ) → nat_eq x k ≡ true → is_own p g k ≡ true → IsOwn
  same k e h = subst (λ z. is_own p g z ≡ true) (sym (eqb-true x k e)) h

  of_none : (k : ℕ) → none k ≡ true → is_own p g k ≡ true → IsOwn
  of_none k e h = from_falsity e

  scalar_own : reads_scalar g x ≡ true → IsOwn
  scalar_own = in_body p g (nat_eq x) none IsOwn same of_none named

  array_own : reads_array g x ≡ true → IsOwn
  array_own = in_body p g none (nat_eq x) IsOwn of_none same named

  read_own : (reads_array g x || reads_scalar g x) ≡ true → IsOwn
  read_own = either IsOwn (reads_array g x) (reads_scalar g x) array_own scalar_own

-- what holds of each element holds of what is among them
among_all : (P : ℕ → Type 0) (xs : List ℕ) (x : ℕ) → All P xs → is_among x xs ≡ true → P x
among_all P [] x all e = from_falsity e
among_all P (k ∷ xs) x all e = by (among_all P xs x (All-tail P k xs all)) (nat_eq x k) refl e
  where
    by : (is_among x xs ≡ true → P x) → (b : Bool) → nat_eq x k ≡ b → (b || is_among x xs) ≡ true → P x
    by rest true q h = subst P (sym (eqb-true x k q)) (All-head P k xs all)
    by rest false q h = rest h

-- An attributed function's lowered code reads no switch but the function's own.
pub own_read : LoweredReadNoMore → (p : Program) (f : ℕ) (g : Function) → IsFunctionOf p f g → g.attributed ≡ true → (x : ℕ) → is_among x (globals_read (lower_function p g).code) ≡ true → is_own p g x ≡ true
own_read reads_no_more p f g is attributed x =
    let named = (is.formed.functions f g is.there).switches attributed in
    let read = reads_no_more p f g is in
    let code = (lower_function p g).code in
    let Read : ℕ → Type 0 = λ k. (reads_array g k || reads_scalar g k) ≡ true in
    let all : All Read (globals_read code) =
    All-append Read (scalars_read code) (arrays_read code) (All-weaker (λ k. reads_scalar g k ≡ true) Read (λ k h. or_right (reads_array g k) (reads_scalar g k) h) (scalars_read code) read.scalars) read.arrays in
    λ among. read_own p g named x (among_all Read (globals_read code) x all among)
