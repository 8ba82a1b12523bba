-- The statements of a function name its own switches alone.
use Rattle.std.proofs.Common.{◌≡◌, ℕ, Bool, true, false, not, ◌&&◌, ◌||◌, refl, sym, ◌∙◌, ap, subst, List, ◌++◌, map}
use Rattle.std.specs.List.{concat}
use Rattle.std.proofs.lemmas.List.{map-append}
use Rattle.mv_ast.specs.declared.program.Program.{Program}
use Rattle.mv_ast.specs.declared.program.Function.{Function}
use Rattle.mv_ast.specs.declared.program.Expr.{Expr}
use Rattle.mv_ast.specs.declared.program.Stmt.{Stmt, Stmt-F, map-Stmt}
use Rattle.mv_ast.specs.declared.program.Stmt.TheOpen as stmt
use Rattle.mv_ast.specs.declared.program.Arm.{Arm, fold-Arm}
use Rattle.mv_ast.specs.Layers.{stmt_parts, stmt_expressions}
use Rattle.mv_num.specs.Lists.{is_among}
use Rattle.mv_ast.specs.Switches.{switch_global}
use Rattle.std.specs.List.{AllByRecursion}
use Rattle.mv_source_forms.specs.Lists.{all_of}
use Rattle.mv_source_forms.specs.Uses.{all_layer, all_arm_layer, all_expressions, is_switch, is_own, names_own}
use Rattle.mv_source_forms.proofs.StatementFolds.{stmt_fold, stmt_folds, along_stmts}
use Rattle.mv_source_forms.proofs.StatementInduction.{StmtChildren}
use Rattle.mv_check_uses.specs.Uses.{expr_globals, stmt_layer, arm_layer, stmt_globals, switches_named}
use Rattle.mv_check_uses.specs.Flags.{arm_globals}
use Rattle.mv_check_uses.proofs.Owning.{own_switch}
use Rattle.mv_accepts_programs.proofs.SwitchLists.{joined, each_all, own_both, own_concat, same_tests, all_among}
use Rattle.mv_accepts_programs.proofs.SwitchExpressions.{own, S, expr_owns}

module _ (p : Program) (f : Function) where
  abbrev stmt_test : Stmt → Bool
  stmt_test = all_expressions (names_own p f)

  abbrev arm_test : Arm → Bool
  arm_test = fold-Arm Bool Bool (all_layer (names_own p f)) all_arm_layer

  abbrev P : Stmt → Type 0
  P s = stmt_test s ≡ own p f (stmt_globals s)

  abbrev Q : Arm → Type 0
  Q a = arm_test a ≡ own p f (arm_globals a)

  abbrev tests : Stmt-F Stmt Arm → Stmt-F Bool Bool
  tests = map-Stmt Stmt Arm Bool Bool stmt_test arm_test

  abbrev names : Stmt-F Stmt Arm → Stmt-F (List ℕ) (List ℕ)
  names = map-Stmt Stmt Arm (List ℕ) (List ℕ) stmt_globals arm_globals

  same_expressions : (x : Stmt-F Stmt Arm) → stmt_expressions (tests x) ≡ stmt_expressions (names x)
  same_expressions (stmt.Block body) = refl
  same_expressions (stmt.Clear l values) = refl
  same_expressions (stmt.Express e) = refl
  same_expressions (stmt.If e a b) = refl
  same_expressions (stmt.While e body) = refl
  same_expressions (stmt.Do body e) = refl
  same_expressions (stmt.For first test step body) = refl
  same_expressions (stmt.Switch e arms) = refl
  same_expressions stmt.Break = refl
  same_expressions stmt.Continue = refl
  same_expressions (stmt.Return e) = refl

  stmts : (ss : List Stmt) → AllByRecursion P ss → map stmt_test ss ≡ map (own p f) (map stmt_globals ss)
  stmts ss h = same_tests (is_own p f) stmt_test stmt_globals ss h

  both_parts : (ss ts : List Stmt) → AllByRecursion P ss → AllByRecursion P ts → (map stmt_test ss ++ map stmt_test ts) ≡ map (own p f) (map stmt_globals ss ++ map stmt_globals ts)
  both_parts ss ts h k = joined _ _ _ _ (stmts ss h) (stmts ts k) ∙ sym (map-append (own p f) (map stmt_globals ss) (map stmt_globals ts))

  parts : (x : Stmt-F Stmt Arm) → StmtChildren P Q x → stmt_parts (tests x) ≡ map (own p f) (stmt_parts (names x))
  parts (stmt.Block body) h = stmts body h
  parts (stmt.Clear l values) h = refl
  parts (stmt.Express e) h = refl
  parts (stmt.If e a b) h = both_parts a b h.0 h.1
  parts (stmt.While e body) h = stmts body h
  parts (stmt.Do body e) h = stmts body h
  parts (stmt.For first test step body) h = both_parts first body h.0 h.1
  parts (stmt.Switch e arms) h = same_tests (is_own p f) arm_test arm_globals arms h
  parts stmt.Break h = refl
  parts stmt.Continue h = refl
  parts (stmt.Return e) h = refl

  exprs : (es : List Expr) → all_of (map (names_own p f) es) ≡ own p f (concat (map expr_globals es))
  exprs es =
      ap all_of (same_tests (is_own p f) (names_own p f) expr_globals es (each_all (S p f) (expr_owns p f) es)) ∙
      sym (own_concat (is_own p f) (map expr_globals es))

  layer : (x : Stmt-F Stmt Arm) → StmtChildren P Q x → all_layer (names_own p f) (tests x) ≡ own p f (stmt_layer (names x))
  layer x h =
      ap (λ es. all_of (map (names_own p f) es) && all_of (stmt_parts (tests x))) (same_expressions x) ∙
      (ap (λ b. b && all_of (stmt_parts (tests x))) (exprs (stmt_expressions (names x))) ∙
      (ap (λ b. own p f (concat (map expr_globals (stmt_expressions (names x)))) && b)
      (ap all_of (parts x h) ∙ sym (own_concat (is_own p f) (stmt_parts (names x)))) ∙
      sym (own_both (is_own p f) (concat (map expr_globals (stmt_expressions (names x)))) (concat (stmt_parts (names x))))))

  each_owns : (body : List Stmt) → AllByRecursion P body
  unfolding arm_globals stmt_globals
  each_owns =
      along_stmts (stmt_folds (stmt_fold (all_layer (names_own p f)) all_arm_layer) (stmt_fold stmt_layer arm_layer)) (λ s v. v.0 ≡ own p f v.1) (λ a v. v.0 ≡ own p f v.1) layer
      (λ x h. ap all_of (stmts x.body h) ∙ sym (own_concat (is_own p f) (map stmt_globals x.body)))

  -- ---- the switches of the function

  named_is_own : f.switches ≡ switches_named p.switches f.body → (g : ℕ) → is_among g (concat (map stmt_globals f.body)) ≡ true → is_own p f g ≡ true
  named_is_own q g named = by (is_switch p g) refl
    where
      by : (b : Bool) → is_switch p g ≡ b → is_own p f g ≡ true
      by false e = ap (λ b. not b || is_among g (map (switch_global p) f.switches)) e
      by true e =
          ap (λ b. not b || is_among g (map (switch_global p) f.switches)) e ∙
          subst (λ ns. is_among g (map (switch_global p) ns) ≡ true) (sym q) (own_switch p.switches f.body g named e)

  pub body_owns : f.switches ≡ switches_named p.switches f.body → all_of (map (all_expressions (names_own p f)) f.body) ≡ true
  body_owns q =
      ap all_of (stmts f.body (each_owns f.body)) ∙
      (sym (own_concat (is_own p f) (map stmt_globals f.body)) ∙
      all_among (is_own p f) (concat (map stmt_globals f.body)) (named_is_own q))
