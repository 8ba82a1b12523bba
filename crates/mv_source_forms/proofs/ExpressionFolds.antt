-- Folds over the source's expressions, several at once, and induction along them: only the layers are to be shown.
use Rattle.std.proofs.Common.{◌≡◌, sym, subst}
use Rattle.mv_ast.specs.declared.program.Expr.{Expr, Expr-F, roll-Expr, map-Expr, fold-Expr, fold-roll-Expr}
use Rattle.mv_ast.specs.declared.program.Form.{Form, Form-F, roll-Form, map-Form, fold-Form, fold-roll-Form}
use Rattle.mv_ast.specs.declared.program.Target.{Target, Target-F, roll-Target, map-Target, fold-Target, fold-roll-Target}
use Rattle.mv_source_forms.proofs.ExpressionInduction.{FormChildren, TargetChildren, expr_ind}

-- what each node comes to, and what its layer makes of what the parts come to
pub record ExprFolds (A B C : Type 0) : Type 0 where
  pub form : Form → A
  pub target : Target → B
  pub expr : Expr → C
  pub form_layer : Form-F Form Target Expr → A
  pub target_layer : Target-F Form Target Expr → B
  pub expr_layer : Expr-F Form Target Expr → C
  pub form_roll : (x : Form-F Form Target Expr) → form (roll-Form x) ≡ form_layer x
  pub target_roll : (x : Target-F Form Target Expr) → target (roll-Target x) ≡ target_layer x
  pub expr_roll : (x : Expr-F Form Target Expr) → expr (roll-Expr x) ≡ expr_layer x

abbrev pub expr_fold : {A B C : Type 0} → (Form-F A B C → A) → (Target-F A B C → B) → (Expr-F A B C → C) → ExprFolds A B C
expr_fold {A = A} {B = B} {C = C} f g h = record {
  form = fold-Form A B C f g h;
  target = fold-Target A B C f g h;
  expr = fold-Expr A B C f g h;
  form_layer = λ x. f (map-Form Form Target Expr A B C (fold-Form A B C f g h) (fold-Target A B C f g h) (fold-Expr A B C f g h) x);
  target_layer = λ x. g (map-Target Form Target Expr A B C (fold-Form A B C f g h) (fold-Target A B C f g h) (fold-Expr A B C f g h) x);
  expr_layer = λ x. h (map-Expr Form Target Expr A B C (fold-Form A B C f g h) (fold-Target A B C f g h) (fold-Expr A B C f g h) x);
  form_roll = fold-roll-Form A B C f g h;
  target_roll = fold-roll-Target A B C f g h;
  expr_roll = fold-roll-Expr A B C f g h;
}

-- two at once
abbrev pub expr_folds : {A B C X Y Z : Type 0} → ExprFolds A B C → ExprFolds X Y Z → ExprFolds (A × X) (B × Y) (C × Z)
expr_folds u v = record {
  form = λ f. (u.form f, v.form f);
  target = λ t. (u.target t, v.target t);
  expr = λ e. (u.expr e, v.expr e);
  form_layer = λ x. (u.form_layer x, v.form_layer x);
  target_layer = λ x. (u.target_layer x, v.target_layer x);
  expr_layer = λ x. (u.expr_layer x, v.expr_layer x);
  form_roll = λ x i. (u.form_roll x i, v.form_roll x i);
  target_roll = λ x i. (u.target_roll x i, v.target_roll x i);
  expr_roll = λ x i. (u.expr_roll x i, v.expr_roll x i);
}

-- one for each of a family
abbrev pub expr_family : {I A B C : Type 0} → (I → ExprFolds A B C) → ExprFolds (I → A) (I → B) (I → C)
expr_family u = record {
  form = λ f k. (u k).form f;
  target = λ t k. (u k).target t;
  expr = λ e k. (u k).expr e;
  form_layer = λ x k. (u k).form_layer x;
  target_layer = λ x k. (u k).target_layer x;
  expr_layer = λ x k. (u k).expr_layer x;
  form_roll = λ x i k. (u k).form_roll x i;
  target_roll = λ x i k. (u k).target_roll x i;
  expr_roll = λ x i k. (u k).expr_roll x i;
}

module _ {A B C : Type 0} (u : ExprFolds A B C) (P : Form → A → Type 0) (Q : Target → B → Type 0) (S : Expr → C → Type 0) where
  abbrev F : Form → Type 0
  F f = P f (u.form f)

  abbrev T : Target → Type 0
  T t = Q t (u.target t)

  abbrev E : Expr → Type 0
  E e = S e (u.expr e)

  pub along_exprs : ((x : Form-F Form Target Expr) → FormChildren F T E x → P (roll-Form x) (u.form_layer x)) → ((x : Target-F Form Target Expr) → TargetChildren F T E x → Q (roll-Target x) (u.target_layer x)) →
      ((x : Expr-F Form Target Expr) → F x.what → S (roll-Expr x) (u.expr_layer x)) → (e : Expr) → S e (u.expr e)
  along_exprs f g h = expr_ind F T E
      (λ x k. subst (P (roll-Form x)) (sym (u.form_roll x)) (f x k))
      (λ x k. subst (Q (roll-Target x)) (sym (u.target_roll x)) (g x k))
      (λ x k. subst (S (roll-Expr x)) (sym (u.expr_roll x)) (h x k))
