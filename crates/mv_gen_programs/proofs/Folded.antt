-- What folds make of the trees of generated programs, form by form.
use Rattle.std.proofs.Common.{◌≡◌, ℕ, Bool, List, map, Option, ap, ◌∙◌}
use Rattle.mv_ast.specs.declared.program.Arm.{Arm, Arm-F, fold-Arm}
use Rattle.mv_ast.specs.declared.program.Expr.{Expr, Expr-F, fold-Expr, fold_out-Expr}
use Rattle.mv_ast.specs.declared.program.Form.{Form, Form-F, out-Form, map-Form, fold-Form, fold_out-Form}
use Rattle.mv_ast.specs.declared.program.Form.TheOpen as open_form
use Rattle.mv_ast.specs.declared.program.Form.TheVariants as form
use Rattle.mv_ast.specs.declared.program.Known.{Known}
use Rattle.mv_ast.specs.declared.program.Stmt.{Stmt, Stmt-F, out-Stmt, map-Stmt, fold-Stmt, fold_out-Stmt}
use Rattle.mv_ast.specs.declared.program.Stmt.TheOpen as open_stmt
use Rattle.mv_ast.specs.declared.program.Stmt.TheVariants as stmt
use Rattle.mv_ast.specs.declared.program.Target.{Target, Target-F, map-Target, fold-Target, fold_out-Target}
use Rattle.mv_ast.specs.declared.program.Target.TheVariants as target
use Rattle.mv_check_scope.specs.Conversions.{int, typed}
use Rattle.mv_gen_programs.proofs.Values.{read_local, read_global, constant, binary, choose}

-- what expressions come to, from what a form, a target and an expression come to by what stands in them
module _ {A : Type 0} (f : Form-F A A A → A) (g : Target-F A A A → A) (h : Expr-F A A A → A) where
  abbrev pub total : Expr → A
  total = fold-Expr A A A f g h

  abbrev of_form : Form → A
  of_form = fold-Form A A A f g h

  abbrev of_target : Target → A
  of_target = fold-Target A A A f g h

  abbrev layer : Form-F Form Target Expr → A
  layer x = f (map-Form Form Target Expr A A A of_form of_target total x)

  abbrev pub of_int : A → A
  of_int n = h (record { ctype = int; what = n })

  by : (w : Form) (x : Form-F Form Target Expr) → out-Form w ≡ x → total (typed int w) ≡ of_int (layer x)
  by w x e = fold_out-Expr A A A f g h (typed int w) ∙ ap of_int (fold_out-Form A A A f g h w ∙ ap layer e)

  global_is : (n : ℕ) → of_target (target.Global n) ≡ g (open_form.Global n)
  global_is n = fold_out-Target A A A f g h (target.Global n) ∙ ap (λ (y : Target-F Form Target Expr). g (map-Target Form Target Expr A A A of_form of_target total y)) (target.outs-Global n)

  local_is : (n : ℕ) → of_target (target.Local n) ≡ g (open_form.Local n)
  local_is n = fold_out-Target A A A f g h (target.Local n) ∙ ap (λ (y : Target-F Form Target Expr). g (map-Target Form Target Expr A A A of_form of_target total y)) (target.outs-Local n)

  pub of_constant : (n : ℕ) → total (constant n) ≡ of_int (f (open_form.Number n))
  of_constant n = by (form.Number n) _ (form.outs-Number n)

  pub of_local : (n : ℕ) → total (read_local n) ≡ of_int (f (open_form.Read (g (open_form.Local n))))
  of_local n = by (form.Read (target.Local n)) _ (form.outs-Read (target.Local n)) ∙ ap (λ k. of_int (f (open_form.Read k))) (local_is n)

  pub of_global : (n : ℕ) → total (read_global n) ≡ of_int (f (open_form.Read (g (open_form.Global n))))
  of_global n = by (form.Read (target.Global n)) _ (form.outs-Read (target.Global n)) ∙ ap (λ k. of_int (f (open_form.Read k))) (global_is n)

  pub of_binary : (op : ℕ) (a b : Expr) → total (binary op a b) ≡ of_int (f (open_form.Binary op (total a) (total b)))
  of_binary op a b = by (form.Binary op a b) _ (form.outs-Binary op a b)

  pub of_choose : (c a b : Expr) → total (choose c a b) ≡ of_int (f (open_form.Choose (total c) (total a) (total b)))
  of_choose c a b = by (form.Choose c a b) _ (form.outs-Choose c a b)

  pub of_set_global : (n : ℕ) (a : Expr) → total (typed int (form.Set (target.Global n) a)) ≡ of_int (f (open_form.Set (g (open_form.Global n)) (total a)))
  of_set_global n a = by (form.Set (target.Global n) a) _ (form.outs-Set (target.Global n) a) ∙ ap (λ k. of_int (f (open_form.Set k (total a)))) (global_is n)

  pub of_set_local : (n : ℕ) (a : Expr) → total (typed int (form.Set (target.Local n) a)) ≡ of_int (f (open_form.Set (g (open_form.Local n)) (total a)))
  of_set_local n a = by (form.Set (target.Local n) a) _ (form.outs-Set (target.Local n) a) ∙ ap (λ k. of_int (f (open_form.Set k (total a)))) (local_is n)

  pub of_after : (up : Bool) (n : ℕ) → total (typed int (form.After up (target.Local n))) ≡ of_int (f (open_form.After up (g (open_form.Local n))))
  of_after up n = by (form.After up (target.Local n)) _ (form.outs-After up (target.Local n)) ∙ ap (λ k. of_int (f (open_form.After up k))) (local_is n)

  pub of_direct : (n : ℕ) (args : List Expr) → total (typed int (form.Direct n args)) ≡ of_int (f (open_form.Direct n (map total args)))
  of_direct n args = by (form.Direct n args) _ (form.outs-Direct n args)

  pub of_known : (k : Known) (args : List Expr) → total (typed int (form.Known k args)) ≡ of_int (f (open_form.Known k (map total args)))
  of_known k args = by (form.Known k args) _ (form.outs-Known k args)

-- and one of statements
module _ (s : Stmt-F ℕ ℕ → ℕ) (r : Arm-F ℕ ℕ → ℕ) where
  abbrev pub sum_of : Stmt → ℕ
  sum_of = fold-Stmt ℕ ℕ s r

  abbrev of_arm : Arm → ℕ
  of_arm = fold-Arm ℕ ℕ s r

  by_act : (x : Stmt) (y : Stmt-F Stmt Arm) → out-Stmt x ≡ y → sum_of x ≡ s (map-Stmt Stmt Arm ℕ ℕ sum_of of_arm y)
  by_act x y e = fold_out-Stmt ℕ ℕ s r x ∙ ap (λ (z : Stmt-F Stmt Arm). s (map-Stmt Stmt Arm ℕ ℕ sum_of of_arm z)) e

  pub of_block : (xs : List Stmt) → sum_of (stmt.Block xs) ≡ s (open_stmt.Block (map sum_of xs))
  of_block xs = by_act (stmt.Block xs) _ (stmt.outs-Block xs)

  pub of_clear : (l : ℕ) (es : List Expr) → sum_of (stmt.Clear l es) ≡ s (open_stmt.Clear l es)
  of_clear l es = by_act (stmt.Clear l es) _ (stmt.outs-Clear l es)

  pub of_express : (e : Expr) → sum_of (stmt.Express e) ≡ s (open_stmt.Express e)
  of_express e = by_act (stmt.Express e) _ (stmt.outs-Express e)

  pub of_if : (e : Expr) (xs ys : List Stmt) → sum_of (stmt.If e xs ys) ≡ s (open_stmt.If e (map sum_of xs) (map sum_of ys))
  of_if e xs ys = by_act (stmt.If e xs ys) _ (stmt.outs-If e xs ys)

  pub of_for : (xs : List Stmt) (test step : Option Expr) (ys : List Stmt) → sum_of (stmt.For xs test step ys) ≡ s (open_stmt.For (map sum_of xs) test step (map sum_of ys))
  of_for xs test step ys = by_act (stmt.For xs test step ys) _ (stmt.outs-For xs test step ys)

  pub of_return : (e : Option Expr) → sum_of (stmt.Return e) ≡ s (open_stmt.Return e)
  of_return e = by_act (stmt.Return e) _ (stmt.outs-Return e)
