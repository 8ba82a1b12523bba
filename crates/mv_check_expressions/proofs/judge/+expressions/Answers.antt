use Rattle.std.proofs.Common.{rules, ◌≡◌, Err, ap, ◌∙◌}
use Rattle.mv_syntax.specs.declared.unit.What.{out-What}
use Rattle.mv_syntax.specs.declared.unit.What.TheVariants.{outs-Call, outs-Cast}
use Rattle.mv_check_expressions.proofs.Equations.{judged-Call, judged-Cast}
use Rattle.mv_check_expressions.proofs.Steps.{then_ok, then_err, judged_as}
use Rattle.mv_check_expressions.proofs.judge.+expressions.Goals as goal

pub judge-returns-in_err-args-in-Call : goal.judge-returns-in_err-args-in-Call
judge-returns-in_err-args-in-Call t c =
    let r : c.from_residual-in_err-args-in-Call.result ≡ Err c.in_err-args-in-Call.field-0.0 = search rules in
    rw r (judged_as (judged-Call c.args.scope.now c.args.node.now c.args.used c.in-Call.f c.in-Call.args
    (ap out-What c.in-Call.is ∙ outs-Call c.in-Call.f c.in-Call.args))
    (then_ok _ _ (rw c.get-in-Call.ensures at c.in_ok-callee-in-Call.ensures)
    (then_err _ _ _ (rw (c.as_slice.ensures, c.argument_use.ensures) at c.in_err-args-in-Call.ensures))))

pub judge-returns-in_ok-args-in-Call : goal.judge-returns-in_ok-args-in-Call
judge-returns-in_ok-args-in-Call t c =
    judged_as (judged-Call c.args.scope.now c.args.node.now c.args.used c.in-Call.f c.in-Call.args
    (ap out-What c.in-Call.is ∙ outs-Call c.in-Call.f c.in-Call.args))
    (then_ok _ _ (rw c.get-in-Call.ensures at c.in_ok-callee-in-Call.ensures)
    (then_ok _ _ (rw (c.as_slice.ensures, c.argument_use.ensures) at c.in_ok-args-in-Call.ensures) c.call.ensures))

pub judge-returns-in_err-to-in-Cast : goal.judge-returns-in_err-to-in-Cast
judge-returns-in_err-to-in-Cast t c =
    let r : c.from_residual-in_err-to-in-Cast.result ≡ Err c.in_err-to-in-Cast.field-0.0 = search rules in
    rw r (judged_as (judged-Cast c.args.scope.now c.args.node.now c.args.used c.in-Cast.specs c.in-Cast.a
    (ap out-What c.in-Cast.is ∙ outs-Cast c.in-Cast.specs c.in-Cast.a))
    (then_err _ _ _ c.in_err-to-in-Cast.ensures))

pub judge-returns-in_err-a-in-Cast : goal.judge-returns-in_err-a-in-Cast
judge-returns-in_err-a-in-Cast t c =
    let r : c.from_residual-in_err-a-in-Cast.result ≡ Err c.in_err-a-in-Cast.field-0.0 = search rules in
    rw r (judged_as (judged-Cast c.args.scope.now c.args.node.now c.args.used c.in-Cast.specs c.in-Cast.a
    (ap out-What c.in-Cast.is ∙ outs-Cast c.in-Cast.specs c.in-Cast.a))
    (then_ok _ _ c.in_ok-to-in-Cast.ensures
    (then_err _ _ _ (rw (c.get-in-Cast.ensures, c.cast_use.ensures) at c.in_err-a-in-Cast.ensures))))

pub judge-returns-in_ok-a-in-Cast : goal.judge-returns-in_ok-a-in-Cast
judge-returns-in_ok-a-in-Cast t c =
    judged_as (judged-Cast c.args.scope.now c.args.node.now c.args.used c.in-Cast.specs c.in-Cast.a
    (ap out-What c.in-Cast.is ∙ outs-Cast c.in-Cast.specs c.in-Cast.a))
    (then_ok _ _ c.in_ok-to-in-Cast.ensures
    (then_ok _ _ (rw (c.get-in-Cast.ensures, c.cast_use.ensures) at c.in_ok-a-in-Cast.ensures) c.cast.ensures))
