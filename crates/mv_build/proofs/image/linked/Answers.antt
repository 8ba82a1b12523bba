use Rattle.std.proofs.lemmas.Result.{err_from_is_err_and}
use Rattle.mv_build.proofs.Limits.{cause_told}
use Rattle.mv_build.proofs.image.linked.Goals as goal

pub returns-in_err-image-clause-err : goal.returns-in_err-image-clause-err
returns-in_err-image-clause-err c =
    let p = err_from_is_err_and c.from_residual.result c.from_residual.ensures.1 in
    rw (p.1, p.2) (cause_told c.args.parts.now c.in_err-image.field-0.0 c.in_err-image.ensures)
