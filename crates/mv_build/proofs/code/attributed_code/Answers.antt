use Rattle.std.proofs.lemmas.Result.{err_from_is_err_and}
use Rattle.mv_build.proofs.Limits.{varying_refused}
use Rattle.mv_build.proofs.code.attributed_code.Goals as goal

pub returns-in_err-variants-clause-err : goal.returns-in_err-variants-clause-err
returns-in_err-variants-clause-err c =
    let p = err_from_is_err_and c.from_residual-in_err-variants.result c.from_residual-in_err-variants.ensures.1 in
    rw (p.1, p.2) (varying_refused c.args.program.now c.args.size c.requires.within c.in_err-variants.field-0.0 c.in_err-variants.ensures.limit)
