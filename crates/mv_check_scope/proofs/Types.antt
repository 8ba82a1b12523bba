-- A type is the same as itself; a constant's type is that of its expression.
use Rattle.std.proofs.Common.{◌≡◌, ℕ, true, refl, Option, ap, eq-eqb}
use Rattle.mv_num.specs.Kinds.{kind_number}
use Rattle.mv_ast.specs.declared.program.CType.{CType}
use Rattle.mv_ast.specs.declared.program.CType.TheVariants.{Void, Scalar, Pointer}
use Rattle.mv_ast.specs.declared.program.Expr.{Expr, fold_out-Expr}
use Rattle.mv_check_scope.specs.Constants.{Evaluated, value_form, value_target, value_expr, evaluated}
use Rattle.mv_check_scope.specs.Conversions.{same_type}

pub type_same : (t : CType) → same_type t t ≡ true
type_same Void = refl
type_same (Scalar k) = eq-eqb (kind_number k) (kind_number k) refl
type_same (Pointer s) = eq-eqb s s refl

pub type_of : (e : Expr) → (evaluated e).ctype ≡ e.ctype
type_of e = ap (λ s. s.ctype) (fold_out-Expr (CType → Option ℕ) (Unit {0}) Evaluated value_form value_target value_expr e)
