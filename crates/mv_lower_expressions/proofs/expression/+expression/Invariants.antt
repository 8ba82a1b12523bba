use Rattle.std.proofs.Common.{◌≡◌, ◌+◌, ◌*◌, ◌≤◌, map, take}
use Rattle.mv_lower_expressions.specs.Values.{seen}
use Rattle.mv_lower_expressions.specs.Expressions.{exprs_at, expr_size, form_size, target_size, exprs_size}
use Rattle.mv_lower_expressions.proofs.expression.+expression.Given as goal

abbrev pub invariant-lower_exprs-loop-e : goal.invariant-lower_exprs-loop-e
invariant-lower_exprs-loop-e l = (l.at ≡ l.n + l.e-index) × (l.e-index ≤ exprs_size (take l.e-index l.es)) × (map seen l.values ≡ exprs_at l.pointers (take l.e-index l.es) l.n)

abbrev pub decreases-lower_expr : goal.decreases-lower_expr
decreases-lower_expr l = 6 * expr_size l.e.now

abbrev pub decreases-lower_boxed : goal.decreases-lower_boxed
decreases-lower_boxed l = 6 * expr_size l.e.now + 1

abbrev pub decreases-lower_exprs : goal.decreases-lower_exprs
decreases-lower_exprs l = 6 * exprs_size l.es.now + 1

abbrev pub decreases-lower_with_callee : goal.decreases-lower_with_callee
decreases-lower_with_callee l = 6 * (exprs_size l.args.now + expr_size l.callee.now) + 2

abbrev pub decreases-lower_target : goal.decreases-lower_target
decreases-lower_target l = 6 * target_size l.target.now + 2

abbrev pub decreases-lower_form : goal.decreases-lower_form
decreases-lower_form l = 6 * form_size l.form.now + 4

abbrev pub decreases-lower_read : goal.decreases-lower_read
decreases-lower_read l = 6 * target_size l.target.now + 3

abbrev pub decreases-lower_after : goal.decreases-lower_after
decreases-lower_after l = 6 * target_size l.target.now + 3

abbrev pub decreases-lower_unary : goal.decreases-lower_unary
decreases-lower_unary l = 6 * expr_size l.a.now + 3

abbrev pub decreases-lower_converted : goal.decreases-lower_converted
decreases-lower_converted l = 6 * expr_size l.a.now + 3

abbrev pub decreases-lower_binary : goal.decreases-lower_binary
decreases-lower_binary l = 6 * (expr_size l.a.now + expr_size l.b.now) + 3

abbrev pub decreases-lower_both : goal.decreases-lower_both
decreases-lower_both l = 6 * (expr_size l.a.now + expr_size l.b.now) + 3

abbrev pub decreases-lower_either : goal.decreases-lower_either
decreases-lower_either l = 6 * (expr_size l.a.now + expr_size l.b.now) + 3

abbrev pub decreases-lower_choice : goal.decreases-lower_choice
decreases-lower_choice l = 6 * (expr_size l.c.now + (expr_size l.a.now + expr_size l.b.now)) + 3

abbrev pub decreases-lower_set : goal.decreases-lower_set
decreases-lower_set l = 6 * (target_size l.target.now + expr_size l.a.now) + 3

abbrev pub decreases-lower_change : goal.decreases-lower_change
decreases-lower_change l = 6 * (target_size l.target.now + expr_size l.a.now) + 3

abbrev pub decreases-lower_direct : goal.decreases-lower_direct
decreases-lower_direct l = 6 * exprs_size l.args.now + 3

abbrev pub decreases-lower_known : goal.decreases-lower_known
decreases-lower_known l = 6 * exprs_size l.args.now + 3

abbrev pub decreases-lower_through : goal.decreases-lower_through
decreases-lower_through l = 6 * (exprs_size l.args.now + expr_size l.callee.now) + 3
