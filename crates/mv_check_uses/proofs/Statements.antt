-- What statements name, form by form.
use Rattle.std.proofs.Common.{◌≡◌, ℕ, ◌+◌, ◌<◌, Bool, List, [], ◌++◌, map, take, length, get_or, Option, refl, ap, ◌∙◌, append-nil}
use Rattle.std.specs.Prelude.{option_to_list}
use Rattle.std.specs.List.{concat}
use Rattle.std.proofs.lemmas.List.{map-append}
use Rattle.std.proofs.lemmas.List.Folds.{concat-append}
use Rattle.mv_ast.specs.declared.program.Expr.{Expr}
use Rattle.mv_ast.specs.declared.program.Stmt.{Stmt, Stmt-F, out-Stmt, map-Stmt, fold_out-Stmt}
use Rattle.mv_ast.specs.declared.program.Stmt as at
use Rattle.mv_ast.specs.declared.program.Stmt.TheVariants.{outs-Block, outs-Clear, outs-Express, outs-If, outs-While, outs-Do, outs-For, outs-Switch, outs-Break, outs-Continue, outs-Return}
use Rattle.mv_ast.specs.declared.program.Arm.{Arm, fold_out-Arm}
use Rattle.mv_ast.specs.Flags.{flagged}
use Rattle.mv_ast.proofs.Flags.{flagged_both}
use Rattle.mv_check_uses.specs.Uses.{expr_globals, stmt_layer, arm_layer, stmt_globals}
use Rattle.mv_check_uses.specs.Flags.{exprs_globals, optional_globals, stmts_globals, arm_globals, arms_globals}
use Rattle.mv_check_uses.proofs.Flagging.{flagged_push}

-- ---- lists

pub stmts_push : (body : List Stmt) (i : ℕ) (s : Stmt) (flags : List Bool) → i < length body → s ≡ get_or body i s → flagged (stmts_globals (take (i + 1) body)) flags ≡ flagged (stmt_globals s) (flagged (stmts_globals (take i body)) flags)
stmts_push body i s flags h is = flagged_push stmt_globals body i s flags h is

pub stmts_none : (flags : List Bool) → flagged (stmts_globals []) flags ≡ flags
stmts_none flags = refl

pub ruleset pushes = (stmts_push, stmts_none)

pub arm_is : (a : Arm) → arm_globals a ≡ stmts_globals a.body
unfolding arm_globals stmt_globals
arm_is a = fold_out-Arm (List ℕ) (List ℕ) stmt_layer arm_layer a

pub arms_push : (arms : List Arm) (i : ℕ) (a : Arm) (flags : List Bool) → i < length arms → a ≡ get_or arms i a → flagged (arms_globals (take (i + 1) arms)) flags ≡ flagged (stmts_globals a.body) (flagged (arms_globals (take i arms)) flags)
arms_push arms i a flags h is = flagged_push arm_globals arms i a flags h is ∙ ap (λ l. flagged l (flagged (arms_globals (take i arms)) flags)) (arm_is a)

pub arms_none : (flags : List Bool) → flagged (arms_globals []) flags ≡ flags
arms_none flags = refl

pub ruleset arm_pushes = (arms_push, arms_none)

-- ---- statements

abbrev pub of_layer : Stmt-F Stmt Arm → List ℕ
of_layer x = stmt_layer (map-Stmt Stmt Arm (List ℕ) (List ℕ) stmt_globals arm_globals x)

pub stmt_is : (s : Stmt) (x : Stmt-F Stmt Arm) → out-Stmt s ≡ x → stmt_globals s ≡ of_layer x
unfolding arm_globals stmt_globals
stmt_is s x e = fold_out-Stmt (List ℕ) (List ℕ) stmt_layer arm_layer s ∙ ap of_layer e

lists_both : {A : Type 0} (f : A → List ℕ) (xs ys : List A) → concat (map f (xs ++ ys)) ≡ concat (map f xs) ++ concat (map f ys)
lists_both f xs ys = ap concat (map-append f xs ys) ∙ concat-append (map f xs) (map f ys)

module _ (flags : List Bool) where
  by : (s : Stmt) (x : Stmt-F Stmt Arm) → out-Stmt s ≡ x → flagged (stmt_globals s) flags ≡ flagged (of_layer x) flags
  by s x e = ap (λ l. flagged l flags) (stmt_is s x e)

  -- an expression, and then other parts
  then : (e : Expr) (rest : List ℕ) → flagged ((expr_globals e ++ []) ++ rest) flags ≡ flagged rest (flagged (expr_globals e) flags)
  then e rest = ap (λ l. flagged (l ++ rest) flags) (append-nil (expr_globals e)) ∙ flagged_both (expr_globals e) rest flags

  pub stmt_block : (body : List Stmt) → flagged (stmt_globals (at.Block body)) flags ≡ flagged (stmts_globals body) flags
  stmt_block body = by _ _ (outs-Block body)

  pub stmt_clear : (l : ℕ) (values : List Expr) → flagged (stmt_globals (at.Clear l values)) flags ≡ flagged (exprs_globals values) flags
  stmt_clear l values = by _ _ (outs-Clear l values) ∙ ap (λ ns. flagged ns flags) (append-nil (exprs_globals values))

  pub stmt_express : (e : Expr) → flagged (stmt_globals (at.Express e)) flags ≡ flagged (expr_globals e) flags
  stmt_express e = by _ _ (outs-Express e) ∙ then e []

  pub stmt_if : (e : Expr) (a b : List Stmt) → flagged (stmt_globals (at.If e a b)) flags ≡ flagged (stmts_globals b) (flagged (stmts_globals a) (flagged (expr_globals e) flags))
  stmt_if e a b =
      by _ _ (outs-If e a b) ∙
      (then e (concat (map stmt_globals a ++ map stmt_globals b)) ∙
      (ap (λ l. flagged l (flagged (expr_globals e) flags)) (concat-append (map stmt_globals a) (map stmt_globals b)) ∙ flagged_both (stmts_globals a) (stmts_globals b) (flagged (expr_globals e) flags)))

  pub stmt_while : (e : Expr) (body : List Stmt) → flagged (stmt_globals (at.While e body)) flags ≡ flagged (stmts_globals body) (flagged (expr_globals e) flags)
  stmt_while e body = by _ _ (outs-While e body) ∙ then e (stmts_globals body)

  pub stmt_do : (body : List Stmt) (e : Expr) → flagged (stmt_globals (at.Do body e)) flags ≡ flagged (stmts_globals body) (flagged (expr_globals e) flags)
  stmt_do body e = by _ _ (outs-Do body e) ∙ then e (stmts_globals body)

  pub stmt_for : (first : List Stmt) (test step : Option Expr) (body : List Stmt) →
      flagged (stmt_globals (at.For first test step body)) flags ≡ flagged (stmts_globals body) (flagged (stmts_globals first) (flagged (optional_globals step) (flagged (optional_globals test) flags)))
  stmt_for first test step body =
      let parts = concat (map stmt_globals first ++ map stmt_globals body) in
      let marked = flagged (optional_globals step) (flagged (optional_globals test) flags) in
      by _ _ (outs-For first test step body) ∙
      (flagged_both (concat (map expr_globals (option_to_list test ++ option_to_list step))) parts flags ∙
      (ap (λ l. flagged parts (flagged l flags)) (lists_both expr_globals (option_to_list test) (option_to_list step)) ∙
      (ap (λ fs. flagged parts fs) (flagged_both (optional_globals test) (optional_globals step) flags) ∙
      (ap (λ l. flagged l marked) (concat-append (map stmt_globals first) (map stmt_globals body)) ∙ flagged_both (stmts_globals first) (stmts_globals body) marked))))

  pub stmt_switch : (e : Expr) (arms : List Arm) → flagged (stmt_globals (at.Switch e arms)) flags ≡ flagged (arms_globals arms) (flagged (expr_globals e) flags)
  stmt_switch e arms = by _ _ (outs-Switch e arms) ∙ then e (arms_globals arms)

  pub stmt_break : flagged (stmt_globals at.Break) flags ≡ flags
  stmt_break = by _ _ outs-Break

  pub stmt_continue : flagged (stmt_globals at.Continue) flags ≡ flags
  stmt_continue = by _ _ outs-Continue

  pub stmt_return : (e : Option Expr) → flagged (stmt_globals (at.Return e)) flags ≡ flagged (optional_globals e) flags
  stmt_return e = by _ _ (outs-Return e) ∙ ap (λ ns. flagged ns flags) (append-nil (optional_globals e))

pub ruleset statements = (stmt_block, stmt_clear, stmt_express, stmt_if, stmt_while, stmt_do, stmt_for, stmt_switch, stmt_break, stmt_continue, stmt_return)
