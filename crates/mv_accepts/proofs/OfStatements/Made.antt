-- How well-typed statements are built.
use Rattle.std.proofs.Common.{◌≡◌, ℕ, refl, sym, ◌∙◌, ap, ap₂, subst, List, [], ◌∷◌, map, Option, Some, slice_get}
use Rattle.std.specs.List.{AllByRecursion}
use Rattle.std.proofs.lemmas.List.Elements.{All-from_recursion}
use Rattle.mv_ast.specs.declared.program.Arm.{Arm, Arm-F, every_made-Arm}
use Rattle.mv_ast.specs.declared.program.CType.{CType}
use Rattle.mv_ast.specs.declared.program.Program.{Program}
use Rattle.mv_ast.specs.declared.program.Function.{Function}
use Rattle.mv_ast.specs.declared.program.Expr.{Expr}
use Rattle.mv_ast.specs.declared.program.Stmt.{Stmt, Stmt-F, map-Stmt, roll-Stmt, out-Stmt, roll-out-Stmt, every_made-Stmt}
use Rattle.mv_ast.specs.declared.program.Stmt.TheVariants as stmt
use Rattle.mv_ast.specs.declared.program.Stmt.TheVariants.{outs-Block, outs-Clear, outs-Express, outs-If, outs-While, outs-Do, outs-For, outs-Switch, outs-Break, outs-Continue, outs-Return}
use Rattle.mv_ast.specs.declared.program.Stmt.TheOpen as open_stmt
use Rattle.mv_source_forms.specs.Typing.{IsInteger, IsTypedExpr, IsTypedAt, IsTypedOption, ReturnsTyped, HasTypedParts, IsTypedStmt}
use Rattle.mv_source_forms.proofs.TypedParts.{TypedArm, StmtTyped, ArmTyped}

module _ {A : Type 0} (P : A → Type 0) where
  abbrev pub paired : (xs : List A) → AllByRecursion P xs → List ((x : A) × P x)
  paired [] h = []
  paired (x ∷ xs) h = (x, h.0) ∷ paired xs h.1

  pub paired_plain : (xs : List A) (h : AllByRecursion P xs) → map (λ (x : (x : A) × P x). x.0) (paired xs h) ≡ xs
  paired_plain [] h = refl
  paired_plain (x ∷ xs) h = ap (λ l. x ∷ l) (paired_plain xs h.1)

module _ (p : Program) (f : Function) where
  abbrev pub Typed : Stmt → Type 0
  Typed = IsTypedStmt p f

  abbrev pub AllTyped : List Stmt → Type 0
  AllTyped = AllByRecursion Typed

  made : (w : Stmt) (z : Stmt-F Stmt Arm) → out-Stmt w ≡ z → (y : Stmt-F (StmtTyped p f) (ArmTyped p f)) → map-Stmt (StmtTyped p f) (ArmTyped p f) Stmt Arm (λ a. a.0) (λ a. a.0) y ≡ z → HasTypedParts p f z → Typed w
  made w z o y e h = subst Typed (sym (ap roll-Stmt o) ∙ roll-out-Stmt w) (every_made-Stmt (HasTypedParts p f) (λ a. Unit {0}) z y e h)

  pub block_made : (ss : List Stmt) → AllTyped ss → Typed (stmt.Block ss)
  block_made ss h = made (stmt.Block ss) (open_stmt.Block ss) (outs-Block ss) (open_stmt.Block (paired Typed ss h)) (ap (λ l. open_stmt.Block l) (paired_plain Typed ss h)) tt

  pub clear_made : (l : ℕ) (t : CType) (values : List Expr) → slice_get (map (λ x. x.ctype) f.locals) l ≡ Some t → AllByRecursion (IsTypedAt p f t) values → Typed (stmt.Clear l values)
  clear_made l t values h k =
      made (stmt.Clear l values) (open_stmt.Clear l values) (outs-Clear l values) (open_stmt.Clear l values) refl (t, h, All-from_recursion (IsTypedAt p f t) values k)

  pub express_made : (e : Expr) → IsTypedExpr p f e → Typed (stmt.Express e)
  express_made e h = made (stmt.Express e) (open_stmt.Express e) (outs-Express e) (open_stmt.Express e) refl h

  pub if_made : (e : Expr) (ss ts : List Stmt) → IsTypedExpr p f e → AllTyped ss → AllTyped ts → Typed (stmt.If e ss ts)
  if_made e ss ts h i j =
      made (stmt.If e ss ts) (open_stmt.If e ss ts) (outs-If e ss ts) (open_stmt.If e (paired Typed ss i) (paired Typed ts j))
      (ap₂ (λ k l. open_stmt.If e k l) (paired_plain Typed ss i) (paired_plain Typed ts j)) h

  pub while_made : (e : Expr) (ss : List Stmt) → IsTypedExpr p f e → AllTyped ss → Typed (stmt.While e ss)
  while_made e ss h i =
      made (stmt.While e ss) (open_stmt.While e ss) (outs-While e ss) (open_stmt.While e (paired Typed ss i)) (ap (λ l. open_stmt.While e l) (paired_plain Typed ss i)) h

  pub do_made : (ss : List Stmt) (e : Expr) → AllTyped ss → IsTypedExpr p f e → Typed (stmt.Do ss e)
  do_made ss e i h =
      made (stmt.Do ss e) (open_stmt.Do ss e) (outs-Do ss e) (open_stmt.Do (paired Typed ss i) e) (ap (λ l. open_stmt.Do l e) (paired_plain Typed ss i)) h

  pub for_made : (first : List Stmt) (test step : Option Expr) (ss : List Stmt) → AllTyped first → IsTypedOption p f test → IsTypedOption p f step → AllTyped ss →
      Typed (stmt.For first test step ss)
  for_made first test step ss g h i j =
      made (stmt.For first test step ss) (open_stmt.For first test step ss) (outs-For first test step ss) (open_stmt.For (paired Typed first g) test step (paired Typed ss j))
      (ap₂ (λ k l. open_stmt.For k test step l) (paired_plain Typed first g) (paired_plain Typed ss j)) (h, i)

  pub break_made : Typed stmt.Break
  break_made = made stmt.Break open_stmt.Break outs-Break open_stmt.Break refl tt

  pub continue_made : Typed stmt.Continue
  continue_made = made stmt.Continue open_stmt.Continue outs-Continue open_stmt.Continue refl tt

  pub return_made : (e : Option Expr) → ReturnsTyped p f e → Typed (stmt.Return e)
  return_made e h = made (stmt.Return e) (open_stmt.Return e) (outs-Return e) (open_stmt.Return e) refl h

  -- ---- the arms of a `switch`

  arm_made : (a : Arm) → AllTyped a.body → TypedArm p f a
  arm_made a h =
      every_made-Arm (HasTypedParts p f) (λ a. Unit {0}) (record { labels = a.labels; other = a.other; body = a.body })
      (record { labels = a.labels; other = a.other; body = paired Typed a.body h }) (ap with_body (paired_plain Typed a.body h)) tt
    where
      with_body : List Stmt → Arm-F Stmt Arm
      with_body ss = record { labels = a.labels; other = a.other; body = ss }

  arms_made : (arms : List Arm) → AllByRecursion (λ (a : Arm). AllTyped a.body) arms → AllByRecursion (TypedArm p f) arms
  arms_made [] h = tt
  arms_made (a ∷ arms) h = (arm_made a h.0, arms_made arms h.1)

  pub switch_made : (e : Expr) (arms : List Arm) → IsTypedExpr p f e → IsInteger e.ctype → AllByRecursion (λ (a : Arm). AllTyped a.body) arms → Typed (stmt.Switch e arms)
  switch_made e arms h i j =
      let k : AllByRecursion (TypedArm p f) arms = arms_made arms j in
      made (stmt.Switch e arms) (open_stmt.Switch e arms) (outs-Switch e arms) (open_stmt.Switch e (paired (TypedArm p f) arms k))
      (ap (λ l. open_stmt.Switch e l) (paired_plain (TypedArm p f) arms k)) (h, i)
