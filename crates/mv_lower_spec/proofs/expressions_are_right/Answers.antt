use Rattle.mv_lower_spec.proofs.Expressions.{expr_correct}
use Rattle.mv_lower_spec.proofs.ExpressionDepths.{expr_is_shallow}
use Rattle.mv_lower_spec.proofs.expressions_are_right.Goals as goal

pub returns-clause-right : goal.returns-clause-right
returns-clause-right c = λ scene bound free context frees room strict calls knows switched e named. expr_correct scene.ground scene.held bound free frees context room strict calls knows switched e named scene.floor scene.scratch

pub returns-clause-shallow : goal.returns-clause-shallow
returns-clause-shallow c = expr_is_shallow
