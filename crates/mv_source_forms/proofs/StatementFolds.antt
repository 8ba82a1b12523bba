-- Folds over the source's statements, several at once, and induction along them: only the layers are to be shown.
use Rattle.std.proofs.Common.{◌≡◌, List, sym, subst}
use Rattle.std.specs.List.{AllByRecursion}
use Rattle.mv_ast.specs.declared.program.Stmt.{Stmt, Stmt-F, map-Stmt, roll-Stmt, fold-Stmt, fold-roll-Stmt}
use Rattle.mv_ast.specs.declared.program.Arm.{Arm, Arm-F, map-Arm, roll-Arm, fold-Arm, fold-roll-Arm}
use Rattle.mv_source_forms.proofs.StatementInduction.{StmtChildren, stmts_ind}

-- what each statement and each arm comes to, and what its layer makes of what the parts come to
pub record StmtFolds (A B : Type 0) : Type 0 where
  pub stmt : Stmt → A
  pub arm : Arm → B
  pub stmt_layer : Stmt-F Stmt Arm → A
  pub arm_layer : Arm-F Stmt Arm → B
  pub stmt_roll : (x : Stmt-F Stmt Arm) → stmt (roll-Stmt x) ≡ stmt_layer x
  pub arm_roll : (x : Arm-F Stmt Arm) → arm (roll-Arm x) ≡ arm_layer x

abbrev pub stmt_fold : {A B : Type 0} → (Stmt-F A B → A) → (Arm-F A B → B) → StmtFolds A B
stmt_fold {A = A} {B = B} f g = record {
  stmt = fold-Stmt A B f g;
  arm = fold-Arm A B f g;
  stmt_layer = λ x. f (map-Stmt Stmt Arm A B (fold-Stmt A B f g) (fold-Arm A B f g) x);
  arm_layer = λ x. g (map-Arm Stmt Arm A B (fold-Stmt A B f g) (fold-Arm A B f g) x);
  stmt_roll = fold-roll-Stmt A B f g;
  arm_roll = fold-roll-Arm A B f g;
}

-- two at once
abbrev pub stmt_folds : {A B X Y : Type 0} → StmtFolds A B → StmtFolds X Y → StmtFolds (A × X) (B × Y)
stmt_folds u v = record {
  stmt = λ s. (u.stmt s, v.stmt s);
  arm = λ a. (u.arm a, v.arm a);
  stmt_layer = λ x. (u.stmt_layer x, v.stmt_layer x);
  arm_layer = λ x. (u.arm_layer x, v.arm_layer x);
  stmt_roll = λ x i. (u.stmt_roll x i, v.stmt_roll x i);
  arm_roll = λ x i. (u.arm_roll x i, v.arm_roll x i);
}

-- one for each of a family
abbrev pub stmt_family : {I A B : Type 0} → (I → StmtFolds A B) → StmtFolds (I → A) (I → B)
stmt_family u = record {
  stmt = λ s k. (u k).stmt s;
  arm = λ a k. (u k).arm a;
  stmt_layer = λ x k. (u k).stmt_layer x;
  arm_layer = λ x k. (u k).arm_layer x;
  stmt_roll = λ x i k. (u k).stmt_roll x i;
  arm_roll = λ x i k. (u k).arm_roll x i;
}

module _ {A B : Type 0} (u : StmtFolds A B) (P : Stmt → A → Type 0) (Q : Arm → B → Type 0) where
  abbrev S : Stmt → Type 0
  S s = P s (u.stmt s)

  abbrev R : Arm → Type 0
  R a = Q a (u.arm a)

  pub along_stmts : ((x : Stmt-F Stmt Arm) → StmtChildren S R x → P (roll-Stmt x) (u.stmt_layer x)) → ((x : Arm-F Stmt Arm) → AllByRecursion S x.body → Q (roll-Arm x) (u.arm_layer x)) →
      (body : List Stmt) → AllByRecursion S body
  along_stmts f g = stmts_ind S R
      (λ x k. subst (P (roll-Stmt x)) (sym (u.stmt_roll x)) (f x k))
      (λ x k. subst (Q (roll-Arm x)) (sym (u.arm_roll x)) (g x k))
