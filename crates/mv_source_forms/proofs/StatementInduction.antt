-- Induction over the source's statements.
use Rattle.std.proofs.Common.{List, [], ◌∷◌, map, subst}
use Rattle.std.specs.List.{AllByRecursion}
use Rattle.mv_ast.specs.declared.program.Stmt.{Stmt, Stmt-F, ind-Stmt, map-Stmt, roll-Stmt}
use Rattle.mv_ast.specs.declared.program.Stmt.TheOpen as stmt
use Rattle.mv_ast.specs.declared.program.Arm.{Arm, Arm-F, roll-Arm}

module _ (P : Stmt → Type 0) (Q : Arm → Type 0) where
  abbrev S : Type 0
  S = (s : Stmt) × P s

  abbrev A : Type 0
  A = (a : Arm) × Q a

  abbrev pub StmtChildren : Stmt-F Stmt Arm → Type 0
  StmtChildren (stmt.Block body) = AllByRecursion P body
  StmtChildren (stmt.If e a b) = AllByRecursion P a × AllByRecursion P b
  StmtChildren (stmt.While e body) = AllByRecursion P body
  StmtChildren (stmt.Do body e) = AllByRecursion P body
  StmtChildren (stmt.For first test step body) = AllByRecursion P first × AllByRecursion P body
  StmtChildren (stmt.Switch e arms) = AllByRecursion Q arms
  StmtChildren _ = Unit {0}

  each_of : (xs : List S) → AllByRecursion P (map (λ e. e.0) xs)
  each_of [] = tt
  each_of (x ∷ xs) = (x.1, each_of xs)

  each_arm : (xs : List A) → AllByRecursion Q (map (λ e. e.0) xs)
  each_arm [] = tt
  each_arm (x ∷ xs) = (x.1, each_arm xs)

  children : (y : Stmt-F S A) → StmtChildren (map-Stmt S A Stmt Arm (λ a. a.0) (λ a. a.0) y)
  children (stmt.Block body) = each_of body
  children (stmt.Clear l values) = tt
  children (stmt.Express e) = tt
  children (stmt.If e a b) = (each_of a, each_of b)
  children (stmt.While e body) = each_of body
  children (stmt.Do body e) = each_of body
  children (stmt.For first test step body) = (each_of first, each_of body)
  children (stmt.Switch e arms) = each_arm arms
  children stmt.Break = tt
  children stmt.Continue = tt
  children (stmt.Return e) = tt

  pub stmt_ind : ((x : Stmt-F Stmt Arm) → StmtChildren x → P (roll-Stmt x)) → ((x : Arm-F Stmt Arm) → AllByRecursion P x.body → Q (roll-Arm x)) → (s : Stmt) → P s
  stmt_ind f g s = ind-Stmt P Q (λ x y q. f x (subst StmtChildren q (children y))) (λ x y q. g x (subst (λ (z : Arm-F Stmt Arm). AllByRecursion P z.body) q (each_of y.body))) s

  pub stmts_ind : ((x : Stmt-F Stmt Arm) → StmtChildren x → P (roll-Stmt x)) → ((x : Arm-F Stmt Arm) → AllByRecursion P x.body → Q (roll-Arm x)) →
      (body : List Stmt) → AllByRecursion P body
  stmts_ind f g [] = tt
  stmts_ind f g (s ∷ body) = (stmt_ind f g s, stmts_ind f g body)
