-- Values that convert to a type, and integers after promotion, are well typed.
use Rattle.std.proofs.Common.{◌≡◌, true, sym, subst}
use Rattle.mv_ast.specs.declared.program.CType.{CType}
use Rattle.mv_ast.specs.declared.program.Program.{Program}
use Rattle.mv_ast.specs.declared.program.Function.{Function}
use Rattle.mv_ast.specs.declared.program.Expr.{Expr}
use Rattle.mv_check_scope.specs.Conversions.{promotion, promoted, converted_to}
use Rattle.mv_check_scope.specs.Constants.{converts}
use Rattle.mv_source_forms.specs.Typing.{IsInteger, IsTypedExpr, IsTypedAt}
use Rattle.mv_accepts.proofs.OfExpressions.Types.{promotion_integer}
use Rattle.mv_accepts.proofs.OfExpressions.Converted.{converted_type, converts_is, converted_typed, integer_converts}

module _ (p : Program) (f : Function) where
  -- a value that converts to a type
  pub converted_at : (t : CType) (e : Expr) → IsTypedExpr p f e → converts e t ≡ true → IsTypedAt p f t (converted_to t e)
  converted_at t e h k = (converted_typed p f t e h (converts_is p e t k), converted_type t e)

  -- an integer after promotion
  pub promoted_at : (e : Expr) → IsTypedExpr p f e → IsInteger e.ctype → IsTypedExpr p f (promoted e) × IsInteger (promoted e).ctype
  promoted_at e h k =
      let i = promotion_integer e.ctype k in
      (converted_typed p f (promotion e.ctype) e h (integer_converts p (promotion e.ctype) e i k), subst IsInteger (sym (converted_type (promotion e.ctype) e)) i)
