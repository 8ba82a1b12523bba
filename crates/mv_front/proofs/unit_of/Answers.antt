use Rattle.std.proofs.lemmas.Result.{err_from_is_err_and}
use Rattle.mv_front.proofs.Causes.{accepted_unit, lexing_cause, parsing_cause}
use Rattle.mv_front.proofs.unit_of.Goals as goal

pub returns-in_err-tokens-clause-err : goal.returns-in_err-tokens-clause-err
returns-in_err-tokens-clause-err c =
    let p = err_from_is_err_and c.from_residual.result c.from_residual.ensures.1 in
    rw (p.1, p.2) (lexing_cause c.args.text.now c.in_err-tokens.field-0.0 c.in_err-tokens.ensures.err)

pub returns-in_err-parse-clause-err : goal.returns-in_err-parse-clause-err
returns-in_err-parse-clause-err c =
    let p = err_from_is_err_and c.from_residual-in_err-parse.result c.from_residual-in_err-parse.ensures.1 in
    rw (p.1, p.2) (parsing_cause c.args.text.now c.in_ok-tokens.tokens c.in_err-parse.field-0.0 c.in_ok-tokens.ensures.ok c.in_err-parse.ensures.err)

pub returns-clause-ok : goal.returns-clause-ok
returns-clause-ok c = accepted_unit c.args.text.now c.in_ok-tokens.tokens c.in_ok-parse.field-0 c.in_ok-tokens.ensures.ok c.in_ok-parse.ensures.ok
