use Rattle.std.proofs.Common.{refl, sym}
use Rattle.std.proofs.lemmas.Result.{err_from_is_err_and}
use Rattle.mv_parse_nodes.proofs.Answers.{given_ok, then_ok, then_err}
use Rattle.mv_parse_statements.proofs.local.local.Goals as goal

pub returns-in_err-names-clause-reads : goal.returns-in_err-names-clause-reads
returns-in_err-names-clause-reads c = λ n. let p = err_from_is_err_and c.from_residual-in_err-names.result c.from_residual-in_err-names.ensures.1 in rw (p.1, p.2)
    (then_ok _ (c.in_ok-specs.ensures.reads n) (then_err _ (c.in_err-names.ensures.reads n)))

pub returns-in_err-rest-clause-reads : goal.returns-in_err-rest-clause-reads
returns-in_err-rest-clause-reads c = λ n. let p = err_from_is_err_and c.from_residual-in_err-rest.result c.from_residual-in_err-rest.ensures.1 in rw (p.1, p.2)
    (then_ok _ (c.in_ok-specs.ensures.reads n) (then_ok _ (c.in_ok-names.ensures.reads n) (then_err _ (c.in_err-rest.ensures.reads c.args.text.now))))

pub returns-clause-reads : goal.returns-clause-reads
returns-clause-reads c = λ n. then_ok _ (c.in_ok-specs.ensures.reads n) (then_ok _ (c.in_ok-names.ensures.reads n)
    (then_ok _ (c.in_ok-rest.ensures.reads c.args.text.now) (given_ok _ _ _ (sym c.in_ok-line.ensures) refl)))
