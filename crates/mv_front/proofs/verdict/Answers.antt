use Rattle.std.proofs.lemmas.Result.{err_from_is_err_and}
use Rattle.mv_front.proofs.Causes.{checked_program, checking_cause}
use Rattle.mv_front.proofs.verdict.Goals as goal

pub returns-clause-ok : goal.returns-clause-ok
returns-clause-ok c = checked_program c.args.text.now c.in_ok-unit.unit c.in_ok-unit.ensures.ok c.in_ok-check.field-0 c.in_ok-check.ensures

pub returns-in_err-check-clause-err : goal.returns-in_err-check-clause-err
returns-in_err-check-clause-err c =
    let p = err_from_is_err_and c.from_residual-in_err-check.result c.from_residual-in_err-check.ensures.1 in
    rw (p.1, p.2) (checking_cause c.args.text.now c.in_ok-unit.unit c.in_ok-unit.ensures.ok c.in_err-check.field-0.0 c.in_err-check.ensures)
