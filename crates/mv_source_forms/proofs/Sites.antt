-- The call sites of a function are its direct calls, and its calls through pointer switches counted twice.
use Rattle.std.proofs.Common.{◌≡◌, ℕ, ◌+◌, ◌*◌, List, [], ◌∷◌, ◌++◌, map, option_to_list, refl, arith}
use Rattle.std.specs.Prelude.{sum}
use Rattle.std.specs.List.{AllByRecursion}
use Rattle.mv_ast.specs.declared.program.Program.{Program}
use Rattle.mv_ast.specs.declared.program.Function.{Function}
use Rattle.mv_ast.specs.declared.program.Expr.{Expr}
use Rattle.mv_ast.specs.declared.program.Stmt.{Stmt, Stmt-F}
use Rattle.mv_ast.specs.declared.program.Stmt.TheOpen as stmt
use Rattle.mv_ast.specs.declared.program.Arm.{Arm, Arm-F}
use Rattle.mv_ast.specs.Counts.{stmt_sum, arm_sum, stmt_total, arm_total, expr_calls, expr_calls_through, expr_sites, is_pointer, calls, calls_through, call_sites}
use Rattle.mv_num.proofs.Lists.{sum_cons, sum_append}
use Rattle.mv_source_forms.proofs.StatementFolds.{StmtFolds, stmt_fold, stmt_folds, along_stmts}
use Rattle.mv_source_forms.proofs.StatementInduction.{StmtChildren}

sum_of_both : {A : Type 0} (whole once twice : A → ℕ) (xs : List A) → AllByRecursion (λ x. whole x ≡ once x + 2 * twice x) xs →
    sum (map whole xs) ≡ sum (map once xs) + 2 * sum (map twice xs)
sum_of_both whole once twice [] h = refl
sum_of_both whole once twice (x ∷ xs) h =
    let rest = sum_of_both whole once twice xs h.1 in
    omega (arith, h.0, rest, sum_cons (whole x) (map whole xs), sum_cons (once x) (map once xs), sum_cons (twice x) (map twice xs))

module _ (whole once twice : Expr → ℕ) (are_both : (e : Expr) → whole e ≡ once e + 2 * twice e) where
  each : (es : List Expr) → AllByRecursion (λ e. whole e ≡ once e + 2 * twice e) es
  each [] = tt
  each (e ∷ es) = (are_both e, each es)

  values : (es : List Expr) → sum (map whole es) ≡ sum (map once es) + 2 * sum (map twice es)
  values es = sum_of_both whole once twice es (each es)

  abbrev in_stmt : (Expr → ℕ) → Stmt → ℕ
  in_stmt of = stmt_total of (λ s. 0) (λ a. 0)

  abbrev in_arm : (Expr → ℕ) → Arm → ℕ
  in_arm of = arm_total of (λ s. 0) (λ a. 0)

  abbrev fold_of : (Expr → ℕ) → StmtFolds ℕ ℕ
  fold_of of = stmt_fold (stmt_sum of (λ s. 0) (λ a. 0)) (arm_sum of (λ s. 0) (λ a. 0))

  abbrev all : StmtFolds (ℕ × (ℕ × ℕ)) (ℕ × (ℕ × ℕ))
  all = stmt_folds (fold_of whole) (stmt_folds (fold_of once) (fold_of twice))

  abbrev S : Stmt → Type 0
  S s = in_stmt whole s ≡ in_stmt once s + 2 * in_stmt twice s

  abbrev R : Arm → Type 0
  R a = in_arm whole a ≡ in_arm once a + 2 * in_arm twice a

  bodies : (a : List Stmt) → AllByRecursion S a → sum (map (in_stmt whole) a) ≡ sum (map (in_stmt once) a) + 2 * sum (map (in_stmt twice) a)
  bodies = sum_of_both (in_stmt whole) (in_stmt once) (in_stmt twice)

  two_bodies : (a b : List Stmt) → AllByRecursion S a → AllByRecursion S b →
      sum (map (in_stmt whole) a ++ map (in_stmt whole) b) ≡ sum (map (in_stmt once) a ++ map (in_stmt once) b) + 2 * sum (map (in_stmt twice) a ++ map (in_stmt twice) b)
  two_bodies a b h k = omega (
    arith,
    bodies a h,
    bodies b k,
    sum_append (map (in_stmt whole) a) (map (in_stmt whole) b),
    sum_append (map (in_stmt once) a) (map (in_stmt once) b),
    sum_append (map (in_stmt twice) a) (map (in_stmt twice) b),
  )

  layer : (x : Stmt-F Stmt Arm) → StmtChildren S R x → (all.stmt_layer x).0 ≡ (all.stmt_layer x).1.0 + 2 * (all.stmt_layer x).1.1
  layer (stmt.Block body) h = omega (arith, bodies body h)
  layer (stmt.Clear l vs) h = omega (arith, values vs)
  layer (stmt.Express e) h = omega (arith, values (e ∷ []))
  layer (stmt.If e a b) h = omega (arith, values (e ∷ []), two_bodies a b h.0 h.1)
  layer (stmt.While e body) h = omega (arith, values (e ∷ []), bodies body h)
  layer (stmt.Do body e) h = omega (arith, values (e ∷ []), bodies body h)
  layer (stmt.For first test step body) h = omega (arith, values (option_to_list test ++ option_to_list step), two_bodies first body h.0 h.1)
  layer (stmt.Switch e arms) h = omega (arith, values (e ∷ []), sum_of_both (in_arm whole) (in_arm once) (in_arm twice) arms h)
  layer stmt.Break h = omega arith
  layer stmt.Continue h = omega arith
  layer (stmt.Return e) h = omega (arith, values (option_to_list e))

  arm_layer : (x : Arm-F Stmt Arm) → AllByRecursion S x.body → (all.arm_layer x).0 ≡ (all.arm_layer x).1.0 + 2 * (all.arm_layer x).1.1
  arm_layer x h = omega (arith, bodies x.body h)

  of_bodies : (body : List Stmt) → sum (map (in_stmt whole) body) ≡ sum (map (in_stmt once) body) + 2 * sum (map (in_stmt twice) body)
  of_bodies body = bodies body (along_stmts all (λ s n. n.0 ≡ n.1.0 + 2 * n.1.1) (λ a n. n.0 ≡ n.1.0 + 2 * n.1.1) layer arm_layer body)

pub sites_are : (p : Program) (g : Function) → call_sites p g ≡ calls p g + 2 * calls_through (is_pointer p) g
sites_are p g = of_bodies (expr_sites p) (expr_calls p) (expr_calls_through (is_pointer p)) (λ e. refl) g.body
