use Rattle.std.proofs.Common.{List, ◌+◌, ◌≤◌, arith, take, subst}
use Rattle.mv_ast.specs.declared.program.Expr.{Expr}
use Rattle.mv_lower_expressions.specs.Expressions.{expr_size, exprs_size}
use Rattle.mv_lower_expressions.proofs.Sizes.{sum_before}
use Rattle.mv_lower_expressions.proofs.expression.lower_each.Goals as goal

pub lower_expr-requires : goal.lower_expr-requires
lower_expr-requires c =
    let i = c.loop-e.e-index in
    let x = c.e-item.result in
    let b : exprs_size (take i c.args.es.now) + expr_size x ≤ exprs_size c.args.es.now = subst
    (λ (xs : List Expr). exprs_size (take i xs) + expr_size x ≤ exprs_size xs) c.as_slice-e-items.ensures
    (sum_before expr_size c.as_slice-e-items.result.now i x c.loop-e-test.true c.e-item.is) in
    omega (arith, b)
