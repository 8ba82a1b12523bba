-- Totals over lists, and the nodes of each form of statement.
use Rattle.std.proofs.Common.{◌≡◌, ℕ, ◌+◌, refl, ◌∙◌, ap, arith, Option, Some, None, List, [], ◌∷◌, ◌++◌, map, length}
use Rattle.std.specs.Prelude.{sum, option_to_list}
use Rattle.std.proofs.lemmas.List.Sums.{sum_by-cons, sum_by-append}
use Rattle.mv_ast.specs.declared.program.Arm.{Arm, fold_out-Arm}
use Rattle.mv_ast.specs.declared.program.Expr.{Expr}
use Rattle.mv_ast.specs.declared.program.Stmt.{Stmt, Stmt-F, out-Stmt, map-Stmt, fold_out-Stmt}
use Rattle.mv_ast.specs.declared.program.Stmt.TheVariants as stmt
use Rattle.mv_ast.specs.declared.program.Stmt.TheVariants.{outs-Block, outs-Clear, outs-Express, outs-If, outs-While, outs-Do, outs-For, outs-Switch, outs-Break, outs-Continue, outs-Return}
use Rattle.mv_ast.specs.Counts.{expr_nodes, stmt_nodes_step, arm_nodes_step, stmt_nodes, arm_nodes}

module _ {A : Type 0} (f : A → ℕ) where
  abbrev pub total : List A → ℕ
  total [] = 0
  total (x ∷ xs) = f x + total xs

  pub sum_total : (xs : List A) → sum (map f xs) ≡ total xs
  sum_total [] = refl
  sum_total (x ∷ xs) = omega (arith, sum_by-cons (λ n. n) (f x) (map f xs), sum_total xs)

  pub total_append : (xs ys : List A) → total (xs ++ ys) ≡ total xs + total ys
  total_append [] ys = omega arith
  total_append (x ∷ xs) ys = omega (arith, total_append xs ys)

  pub sum_both : (xs ys : List A) → sum (map f xs ++ map f ys) ≡ total xs + total ys
  sum_both xs ys = omega (arith, sum_by-append (λ n. n) (map f xs) (map f ys), sum_total xs, sum_total ys)

abbrev layer_of : Stmt-F Stmt Arm → ℕ
layer_of x = stmt_nodes_step (map-Stmt Stmt Arm ℕ ℕ stmt_nodes arm_nodes x)

by_stmt : (s : Stmt) (x : Stmt-F Stmt Arm) → out-Stmt s ≡ x → stmt_nodes s ≡ layer_of x
by_stmt s x o = fold_out-Stmt ℕ ℕ stmt_nodes_step arm_nodes_step s ∙ ap layer_of o

abbrev pub stmts_nodes : List Stmt → ℕ
stmts_nodes = total stmt_nodes

-- an expression that may be left out
abbrev pub optional_weight : Option Expr → ℕ
optional_weight None = 0
optional_weight (Some e) = expr_nodes e

optional_sum : (o : Option Expr) → sum (map expr_nodes (option_to_list o)) ≡ optional_weight o
optional_sum None = refl
optional_sum (Some e) = omega arith

optional_sums : (o p : Option Expr) → sum (map expr_nodes (option_to_list o ++ option_to_list p)) ≡ optional_weight o + optional_weight p
optional_sums None None = refl
optional_sums None (Some g) = omega arith
optional_sums (Some e) None = omega arith
optional_sums (Some e) (Some g) = omega arith

pub nodes_block : (ss : List Stmt) → stmt_nodes (stmt.Block ss) ≡ 1 + stmts_nodes ss
nodes_block ss = let h = by_stmt _ _ (outs-Block ss) in omega (arith, h, sum_total stmt_nodes ss)

pub nodes_clear : (l : ℕ) (es : List Expr) → stmt_nodes (stmt.Clear l es) ≡ 1 + (length es + total expr_nodes es)
nodes_clear l es = let h = by_stmt _ _ (outs-Clear l es) in omega (arith, h, sum_total expr_nodes es)

pub nodes_express : (e : Expr) → stmt_nodes (stmt.Express e) ≡ 1 + expr_nodes e
nodes_express e = let h = by_stmt _ _ (outs-Express e) in omega (arith, h)

pub nodes_if : (e : Expr) (ss ts : List Stmt) → stmt_nodes (stmt.If e ss ts) ≡ 1 + (expr_nodes e + (stmts_nodes ss + stmts_nodes ts))
nodes_if e ss ts = let h = by_stmt _ _ (outs-If e ss ts) in omega (arith, h, sum_both stmt_nodes ss ts)

pub nodes_while : (e : Expr) (ss : List Stmt) → stmt_nodes (stmt.While e ss) ≡ 1 + (expr_nodes e + stmts_nodes ss)
nodes_while e ss = let h = by_stmt _ _ (outs-While e ss) in omega (arith, h, sum_total stmt_nodes ss)

pub nodes_do : (ss : List Stmt) (e : Expr) → stmt_nodes (stmt.Do ss e) ≡ 1 + (expr_nodes e + stmts_nodes ss)
nodes_do ss e = let h = by_stmt _ _ (outs-Do ss e) in omega (arith, h, sum_total stmt_nodes ss)

pub nodes_for : (first : List Stmt) (test step : Option Expr) (ss : List Stmt) →
    stmt_nodes (stmt.For first test step ss) ≡ 1 + ((optional_weight test + optional_weight step) + (stmts_nodes first + stmts_nodes ss))
nodes_for first test step ss =
    let h = by_stmt _ _ (outs-For first test step ss) in omega (arith, h, optional_sums test step, sum_both stmt_nodes first ss)

pub nodes_switch : (e : Expr) (arms : List Arm) → stmt_nodes (stmt.Switch e arms) ≡ 1 + (expr_nodes e + total arm_nodes arms)
nodes_switch e arms = let h = by_stmt _ _ (outs-Switch e arms) in omega (arith, h, sum_total arm_nodes arms)

pub nodes_break : stmt_nodes stmt.Break ≡ 1
nodes_break = let h = by_stmt _ _ outs-Break in omega (arith, h)

pub nodes_continue : stmt_nodes stmt.Continue ≡ 1
nodes_continue = let h = by_stmt _ _ outs-Continue in omega (arith, h)

pub nodes_return : (o : Option Expr) → stmt_nodes (stmt.Return o) ≡ 1 + optional_weight o
nodes_return o = let h = by_stmt _ _ (outs-Return o) in omega (arith, h, optional_sum o)

pub nodes_arm : (a : Arm) → arm_nodes a ≡ length a.labels + stmts_nodes a.body
nodes_arm a = let h = fold_out-Arm ℕ ℕ stmt_nodes_step arm_nodes_step a in omega (arith, h, sum_total stmt_nodes a.body)
