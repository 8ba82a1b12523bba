use Rattle.std.proofs.lemmas.Result.{err_from_is_err_and}
use Rattle.mv_build.proofs.Verdicts.{front_cause, built, cause}
use Rattle.mv_build.proofs.verdict.Goals as goal

pub returns-in_err-program-clause-err : goal.returns-in_err-program-clause-err
returns-in_err-program-clause-err c =
    let p = err_from_is_err_and c.from_residual.result c.from_residual.ensures.1 in
    rw (p.1, p.2) (front_cause c.args.text.now c.in_err-program.field-0.0 c.in_err-program.ensures.refused)

pub compiled-requires-clause-formed : goal.compiled-requires-clause-formed
compiled-requires-clause-formed c = c.programs_of_texts_are_well_formed.ensures c.args.text.now c.in_ok-program.program c.in_ok-program.ensures.accepted

pub compiled-requires-clause-facts : goal.compiled-requires-clause-facts
compiled-requires-clause-facts c = c.programs_of_texts_have_table_facts.ensures c.args.text.now c.in_ok-program.program c.in_ok-program.ensures.accepted

pub returns-clause-ok : goal.returns-clause-ok
returns-clause-ok c = built c.args.text.now c.in_ok-program.program c.in_ok-program.ensures.accepted c.compiled.result c.compiled.ensures.ok

pub returns-clause-err : goal.returns-clause-err
returns-clause-err c = cause c.args.text.now c.in_ok-program.program c.in_ok-program.ensures.accepted c.compiled.result c.compiled.ensures.err
