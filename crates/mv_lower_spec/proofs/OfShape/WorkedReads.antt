-- What the statements `a = b[c]; d++;` read: an element of b, c and d, and not a.
use Rattle.std.proofs.Common.{◌≡◌, ℕ, Bool, true, false, [], ◌∷◌, refl}
use Rattle.mv_num.specs.declared.kind.Kind.TheVariants.{Int}
use Rattle.mv_ast.specs.declared.program.CType.TheVariants.{Void, Scalar}
use Rattle.mv_ast.specs.declared.program.Function.{Function}
use Rattle.mv_ast.specs.declared.program.Expr.{Expr, Expr-F, roll-Expr, fold-roll-Expr}
use Rattle.mv_ast.specs.declared.program.Form.{Form, Form-F, roll-Form, map-Form, fold-roll-Form}
use Rattle.mv_ast.specs.declared.program.Form.TheOpen as form
use Rattle.mv_ast.specs.declared.program.Target.{Target, Target-F, roll-Target, map-Target, fold-roll-Target}
use Rattle.mv_ast.specs.declared.program.Stmt.{Stmt, Stmt-F, roll-Stmt, map-Stmt, fold-roll-Stmt}
use Rattle.mv_ast.specs.declared.program.Stmt.TheOpen as stmt
use Rattle.mv_ast.specs.declared.program.Arm.{Arm}
use Rattle.mv_lower_spec.specs.Shape.Reads.{LvalueReads, reads_layer, lvalue_reads, inner_reads, form_reads, target_reads, expr_reads, stmt_reads_layer, arm_reads_layer, stmt_reads, arm_reads, reads_scalar, reads_array}

abbrev node : Form-F Form Target Expr → Expr
node f = roll-Expr (record { ctype = Scalar Int; what = roll-Form f })

abbrev scalar : ℕ → Target
scalar g = roll-Target (form.Global g)

abbrev element : Expr
element = node (form.Read (roll-Target (form.GlobalAt 1 (node (form.Read (scalar 2))))))

abbrev f : Function
f = record {
  name = [];
  attributed = false;
  result = Void;
  params = 0;
  locals = [];
  switches = [];
  body = roll-Stmt (stmt.Express (node (form.Set (scalar 0) element))) ∷ roll-Stmt (stmt.Express (node (form.After true (scalar 3)))) ∷ [];
}

module _ (s a : ℕ → Bool) where
  expr_at : (x : Expr-F Form Target Expr) → expr_reads s a (roll-Expr x) ≡ form_reads s a x.what
  expr_at x = fold-roll-Expr Bool LvalueReads Bool (reads_layer s a) (lvalue_reads s a) (inner_reads s a) x

  form_at : (x : Form-F Form Target Expr) → form_reads s a (roll-Form x) ≡ reads_layer s a (map-Form Form Target Expr Bool LvalueReads Bool (form_reads s a) (target_reads s a) (expr_reads s a) x)
  form_at x = fold-roll-Form Bool LvalueReads Bool (reads_layer s a) (lvalue_reads s a) (inner_reads s a) x

  target_at : (x : Target-F Form Target Expr) → target_reads s a (roll-Target x) ≡ lvalue_reads s a (map-Target Form Target Expr Bool LvalueReads Bool (form_reads s a) (target_reads s a) (expr_reads s a) x)
  target_at x = fold-roll-Target Bool LvalueReads Bool (reads_layer s a) (lvalue_reads s a) (inner_reads s a) x

  stmt_at : (x : Stmt-F Stmt Arm) → stmt_reads s a (roll-Stmt x) ≡ stmt_reads_layer s a (map-Stmt Stmt Arm Bool Bool (stmt_reads s a) (arm_reads s a) x)
  stmt_at x = fold-roll-Stmt Bool Bool (stmt_reads_layer s a) (arm_reads_layer s a) x

stored : reads_scalar f 0 ≡ false
stored = simp (stmt_at, expr_at, form_at, target_at) refl

indexed : reads_array f 1 ≡ true
indexed = simp (stmt_at, expr_at, form_at, target_at) refl

no_scalar : reads_scalar f 1 ≡ false
no_scalar = simp (stmt_at, expr_at, form_at, target_at) refl

index : reads_scalar f 2 ≡ true
index = simp (stmt_at, expr_at, form_at, target_at) refl

stepped : reads_scalar f 3 ≡ true
stepped = simp (stmt_at, expr_at, form_at, target_at) refl
