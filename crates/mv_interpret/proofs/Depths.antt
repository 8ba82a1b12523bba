-- The measure of the evaluation: what a bound is worth, and below it the depth of a statement with its expressions.
use Rattle.std.proofs.Common.{◌≡◌, ℕ, zero, suc, ◌+◌, ◌-◌, ◌*◌, ◌<◌, ◌≤◌, max, List, [], ◌∷◌, ◌++◌, map, length, get_or, drop, arith, refl, ap, ◌∙◌, Option, Some, slice_get}
use Rattle.std.specs.Prelude.{option_to_list}
use denote.Param.Weighed.{most, at_most, most-append}
use Rattle.mv_ast.specs.declared.program.Program.{Program}
use Rattle.mv_ast.specs.declared.program.Function.{Function}
use Rattle.mv_ast.specs.declared.program.Expr.{Expr, size-Expr}
use Rattle.mv_ast.specs.declared.program.Stmt.{Stmt, Stmt-F, out-Stmt, map-Stmt, fold-Stmt, fold_out-Stmt}
use Rattle.mv_ast.specs.declared.program.Stmt.TheOpen as stmt
use Rattle.mv_ast.specs.declared.program.Arm.{Arm, Arm-F, fold-Arm, fold_out-Arm}
use Rattle.mv_ast.specs.Layers.{stmt_parts, stmt_expressions}

-- the greatest depth of some expressions
abbrev pub exprs_depth : List Expr → ℕ
exprs_depth = most size-Expr

abbrev pub same_number : ℕ → ℕ
same_number n = n

abbrev pub stmt_depth_step : Stmt-F ℕ ℕ → ℕ
stmt_depth_step s = 1 + max (exprs_depth (stmt_expressions s)) (most same_number (stmt_parts s))

abbrev pub arm_depth_step : Arm-F ℕ ℕ → ℕ
arm_depth_step a = most same_number a.body

abbrev pub stmt_depth : Stmt → ℕ
stmt_depth = fold-Stmt ℕ ℕ stmt_depth_step arm_depth_step

abbrev pub arm_depth : Arm → ℕ
arm_depth = fold-Arm ℕ ℕ stmt_depth_step arm_depth_step

abbrev pub stmts_depth : List Stmt → ℕ
stmts_depth = most stmt_depth

abbrev pub arms_depth : List Arm → ℕ
arms_depth = most arm_depth

abbrev pub optional_depth : Option Expr → ℕ
optional_depth e = exprs_depth (option_to_list e)

-- what a loop goes down from
abbrev pub loop_depth : List Expr → List Stmt → ℕ
loop_depth es body = max (exprs_depth es) (stmts_depth body)

most-map : {A : Type 0} (μ : A → ℕ) (xs : List A) → most same_number (map μ xs) ≡ most μ xs
most-map μ [] = refl
most-map μ (x ∷ xs) = ap (max (μ x)) (most-map μ xs)

depth_lem : (s : Stmt) (x : Stmt-F Stmt Arm) → out-Stmt s ≡ x → stmt_depth s ≡ stmt_depth_step (map-Stmt Stmt Arm ℕ ℕ stmt_depth arm_depth x)
depth_lem s x h =
    fold_out-Stmt ℕ ℕ stmt_depth_step arm_depth_step s ∙
    ap (λ y. stmt_depth_step (map-Stmt Stmt Arm ℕ ℕ stmt_depth arm_depth y)) h

pub arm_depth_lem : (a : Arm) → arm_depth a ≡ stmts_depth a.body
arm_depth_lem a = fold_out-Arm ℕ ℕ stmt_depth_step arm_depth_step a ∙ most-map stmt_depth a.body

-- ---- a statement is deeper than its parts

pub below-Block : (s : Stmt) (body : List Stmt) → out-Stmt s ≡ stmt.Block body → stmts_depth body < stmt_depth s
below-Block s body h =
    let e = depth_lem s _ h in
    omega (arith, most-map stmt_depth body, e)

pub below-Clear : (s : Stmt) (l : ℕ) (values : List Expr) → out-Stmt s ≡ stmt.Clear l values → exprs_depth values < stmt_depth s
below-Clear s l values h =
    let e = depth_lem s _ h in
    omega (arith, e)

pub below-Express : (s : Stmt) (e : Expr) → out-Stmt s ≡ stmt.Express e → size-Expr e < stmt_depth s
below-Express s e h =
    let d = depth_lem s _ h in
    omega (arith, d)

pub below-If : (s : Stmt) (e : Expr) (yes_part no_part : List Stmt) → out-Stmt s ≡ stmt.If e yes_part no_part →
    (size-Expr e < stmt_depth s) × (stmts_depth yes_part < stmt_depth s) × (stmts_depth no_part < stmt_depth s)
below-If s e yes_part no_part h =
    let d = depth_lem s _ h in
    let m = most-append same_number (map stmt_depth yes_part) (map stmt_depth no_part) in
    let y = most-map stmt_depth yes_part in
    let n = most-map stmt_depth no_part in
    (omega (arith, d), omega (arith, d, m, y, n), omega (arith, d, m, y, n))

pub below-While : (s : Stmt) (e : Expr) (body : List Stmt) → out-Stmt s ≡ stmt.While e body → loop_depth (e ∷ []) body < stmt_depth s
below-While s e body h =
    let d = depth_lem s _ h in
    omega (arith, d, most-map stmt_depth body)

pub below-Do : (s : Stmt) (body : List Stmt) (e : Expr) → out-Stmt s ≡ stmt.Do body e → loop_depth (e ∷ []) body < stmt_depth s
below-Do s body e h =
    let d = depth_lem s _ h in
    omega (arith, d, most-map stmt_depth body)

pub below-For : (s : Stmt) (first : List Stmt) (test step : Option Expr) (body : List Stmt) → out-Stmt s ≡ stmt.For first test step body →
    (stmts_depth first < stmt_depth s) × (loop_depth (option_to_list test ++ option_to_list step) body < stmt_depth s)
below-For s first test step body h =
    let d = depth_lem s _ h in
    let m = most-append same_number (map stmt_depth first) (map stmt_depth body) in
    let y = most-map stmt_depth first in
    let n = most-map stmt_depth body in
    (omega (arith, d, m, y, n), omega (arith, d, m, y, n))

pub below-Switch : (s : Stmt) (e : Expr) (arms : List Arm) → out-Stmt s ≡ stmt.Switch e arms →
    (size-Expr e < stmt_depth s) × (arms_depth arms < stmt_depth s)
below-Switch s e arms h =
    let d = depth_lem s _ h in
    let m = most-map arm_depth arms in
    (omega (arith, d), omega (arith, d, m))

pub below-Return : (s : Stmt) (e : Option Expr) → out-Stmt s ≡ stmt.Return e → optional_depth e < stmt_depth s
below-Return s e h =
    let d = depth_lem s _ h in
    omega (arith, d)

-- ---- bounds

abbrev pub body_depth : Function → ℕ
body_depth g = stmts_depth g.body

abbrev pub greatest_depth : Program → ℕ
greatest_depth p = most body_depth p.functions

-- what a bound is worth: more than the depth of any body
abbrev pub spent : Program → ℕ → ℕ
spent p bound = bound * (2 + 3 * greatest_depth p)

pub at_most_read : {X : Type 0} (μ : X → ℕ) (xs : List X) (i : ℕ) (x : X) → slice_get xs i ≡ Some x → μ x ≤ most μ xs
at_most_read μ [] i x e = cc
at_most_read μ (y ∷ ys) zero x e = let h : y ≡ x = cc in let k : μ y ≡ μ x = ap μ h in omega arith
at_most_read μ (y ∷ ys) (suc i) x e = let h = at_most_read μ ys i x e in omega arith

pub less_spent : (p : Program) (bound f : ℕ) (g : Function) → (bound ≡ 0 → ⊥) → slice_get p.functions f ≡ Some g →
    spent p (bound - 1) + (3 * body_depth g + 1) < spent p bound
less_spent p zero f g ne e = absurd (ne refl)
less_spent p (suc k) f g ne e =
    let le : body_depth g ≤ greatest_depth p = at_most_read body_depth p.functions f g e in
    grind (arith, le)

pub spent_less : (p : Program) (j k : ℕ) → j ≤ k → spent p j ≤ spent p k
spent_less p j k le = grind (arith, le)

most-drop : {X : Type 0} (μ : X → ℕ) (n : ℕ) (xs : List X) → most μ (drop n xs) ≤ most μ xs
most-drop μ zero xs = omega arith
most-drop μ (suc n) [] = omega arith
most-drop μ (suc n) (x ∷ xs) = let h = most-drop μ n xs in omega arith

-- an arm is no deeper than all
pub arm_within : (arms : List Arm) (i : ℕ) (a : Arm) → i < length arms → a ≡ get_or arms i a → stmts_depth a.body ≤ arms_depth arms
arm_within arms i a lt e =
    let at : arm_depth (get_or arms i a) ≤ arms_depth arms = at_most arm_depth arms i a lt in
    let same : arm_depth a ≡ arm_depth (get_or arms i a) = ap arm_depth e in
    omega (arith, at, same, arm_depth_lem a)

-- and so are those from one on
pub arms_within : (arms : List Arm) (first : ℕ) → arms_depth (drop first arms) ≤ arms_depth arms
arms_within arms first = most-drop arm_depth first arms

-- a statement is no deeper than all
pub stmt_within : (body : List Stmt) (i : ℕ) (s : Stmt) → i < length body → s ≡ get_or body i s → stmt_depth s ≤ stmts_depth body
stmt_within body i s lt e =
    let at : stmt_depth (get_or body i s) ≤ stmts_depth body = at_most stmt_depth body i s lt in
    let same : stmt_depth s ≡ stmt_depth (get_or body i s) = ap stmt_depth e in
    omega (arith, at, same)
