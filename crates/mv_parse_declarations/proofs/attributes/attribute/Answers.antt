use Rattle.std.proofs.Common.{refl}
use Rattle.std.proofs.lemmas.Result.{err_from_is_err_and}
use Rattle.mv_parse_nodes.proofs.Answers.{given_ok, then_ok, then_err}
use Rattle.mv_parse_declarations.proofs.attributes.attribute.Goals as goal

pub returns-in_err-first-clause-reads : goal.returns-in_err-first-clause-reads
returns-in_err-first-clause-reads c = λ n. let p = err_from_is_err_and c.from_residual.result c.from_residual.ensures.1 in rw (p.1, p.2)
    (then_err _ (c.in_err-first.ensures.reads c.args.text.now))

pub returns-in_err-outer-clause-reads : goal.returns-in_err-outer-clause-reads
returns-in_err-outer-clause-reads c = λ n. let p = err_from_is_err_and c.from_residual-in_err-outer.result c.from_residual-in_err-outer.ensures.1 in rw (p.1, p.2)
    (then_ok _ (c.in_ok-first.ensures.reads c.args.text.now) (then_err _ (c.in_err-outer.ensures.reads c.args.text.now)))

pub returns-in_err-inner-clause-reads : goal.returns-in_err-inner-clause-reads
returns-in_err-inner-clause-reads c = λ n. let p = err_from_is_err_and c.from_residual-in_err-inner.result c.from_residual-in_err-inner.ensures.1 in rw (p.1, p.2)
    (then_ok _ (c.in_ok-first.ensures.reads c.args.text.now) (then_ok _ (c.in_ok-outer.ensures.reads c.args.text.now) (then_err _ (c.in_err-inner.ensures.reads c.args.text.now))))

pub returns-in_err-rest-clause-reads : goal.returns-in_err-rest-clause-reads
returns-in_err-rest-clause-reads c = λ n. let p = err_from_is_err_and c.from_residual-in_err-rest.result c.from_residual-in_err-rest.ensures.1 in rw (p.1, p.2)
    (then_ok _ (c.in_ok-first.ensures.reads c.args.text.now) (then_ok _ (c.in_ok-outer.ensures.reads c.args.text.now)
    (then_ok _ (c.in_ok-inner.ensures.reads c.args.text.now) (then_err _ (c.in_err-rest.ensures.reads)))))

pub returns-in_err-values-clause-reads : goal.returns-in_err-values-clause-reads
returns-in_err-values-clause-reads c = λ n. let p = err_from_is_err_and c.from_residual-in_err-values.result c.from_residual-in_err-values.ensures.1 in rw (p.1, p.2)
    (then_ok _ (c.in_ok-first.ensures.reads c.args.text.now) (then_ok _ (c.in_ok-outer.ensures.reads c.args.text.now)
    (then_ok _ (c.in_ok-inner.ensures.reads c.args.text.now) (then_ok _ (c.in_ok-rest.ensures.reads) (then_err _ (c.in_err-values.ensures.reads n))))))

pub returns-in_err-outer-2-clause-reads : goal.returns-in_err-outer-2-clause-reads
returns-in_err-outer-2-clause-reads c = λ n. let p = err_from_is_err_and c.from_residual-in_err-outer-2.result c.from_residual-in_err-outer-2.ensures.1 in rw (p.1, p.2)
    (then_ok _ (c.in_ok-first.ensures.reads c.args.text.now) (then_ok _ (c.in_ok-outer.ensures.reads c.args.text.now)
    (then_ok _ (c.in_ok-inner.ensures.reads c.args.text.now) (then_ok _ (c.in_ok-rest.ensures.reads) (then_ok _ (c.in_ok-values.ensures.reads n)
    (then_err _ (c.in_err-outer-2.ensures.reads c.args.text.now)))))))

pub returns-in_err-rest-2-clause-reads : goal.returns-in_err-rest-2-clause-reads
returns-in_err-rest-2-clause-reads c = λ n. let p = err_from_is_err_and c.from_residual-in_err-rest-2.result c.from_residual-in_err-rest-2.ensures.1 in rw (p.1, p.2)
    (then_ok _ (c.in_ok-first.ensures.reads c.args.text.now) (then_ok _ (c.in_ok-outer.ensures.reads c.args.text.now)
    (then_ok _ (c.in_ok-inner.ensures.reads c.args.text.now) (then_ok _ (c.in_ok-rest.ensures.reads) (then_ok _ (c.in_ok-values.ensures.reads n)
    (then_ok _ (c.in_ok-outer-2.ensures.reads c.args.text.now) (then_err _ (c.in_err-rest-2.ensures.reads c.args.text.now))))))))

pub returns-clause-reads : goal.returns-clause-reads
returns-clause-reads c = λ n. (then_ok _ (c.in_ok-first.ensures.reads c.args.text.now) (then_ok _ (c.in_ok-outer.ensures.reads c.args.text.now)
    (then_ok _ (c.in_ok-inner.ensures.reads c.args.text.now) (then_ok _ (c.in_ok-rest.ensures.reads) (then_ok _ (c.in_ok-values.ensures.reads n)
    (then_ok _ (c.in_ok-outer-2.ensures.reads c.args.text.now) (then_ok _ (c.in_ok-rest-2.ensures.reads c.args.text.now) (given_ok _ _ _ refl refl))))))))
