use Rattle.std.proofs.Common.{arith, subst}
use Rattle.std.proofs.lemmas.Result.{err_from_is_err_and}
use Rattle.mv_actions.specs.Operator.{IsRefusedFor}
use Rattle.mv_top.proofs.Few.{few_switches}
use Rattle.mv_top.proofs.Causes.{all_fit, build_cause, item_cause}
use Rattle.mv_check_limits.proofs.Orders.{none_exceeded}
use Rattle.mv_top.proofs.run.prepare.Goals as goal

pub actions_of-requires-clause-few : goal.actions_of-requires-clause-few
actions_of-requires-clause-few c = omega (
  arith,
  few_switches c.in_ok-built.built.program
      (none_exceeded c.in_ok-built.ensures.built.program.unit c.in_ok-built.built.program c.in_ok-built.ensures.built.program.within),
)

pub returns-in-Ok-clause-fit : goal.returns-in-Ok-clause-fit
returns-in-Ok-clause-fit c = all_fit c.args.text.now c.in_ok-built.built c.in-Ok.actions.items c.in_ok-built.ensures.built c.in-Ok.ensures.fit

pub returns-in_err-built-clause-err : goal.returns-in_err-built-clause-err
returns-in_err-built-clause-err c =
    let p = err_from_is_err_and c.from_residual.result c.from_residual.ensures.1 in
    rw (p.1, p.2) (build_cause c.args.text.now c.args.items.now c.in_err-built.field-0.0 c.in_err-built.ensures.refused)

pub returns-in-Err-Refused-clause-err : goal.returns-in-Err-Refused-clause-err
returns-in-Err-Refused-clause-err c =
    item_cause c.args.text.now c.args.items.now c.in_ok-built.built c.in-Err-Refused.item c.counted.result c.counted.ensures c.in_ok-built.ensures.built
    (subst (IsRefusedFor c.in_ok-built.built.program c.args.items.now) c.in-Err-Refused.field-0-is c.in-Err-Refused.ensures.refused)
