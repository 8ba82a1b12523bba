use Rattle.std.proofs.Common.{Some, refl, sym, ap, ◌∙◌}
use Rattle.std.proofs.lemmas.Result.{err_from_is_err_and}
use Rattle.mv_parse_grammar.specs.Declarations.{declarator_of, pointer_shape}
use Rattle.mv_parse_nodes.proofs.Answers.{given_ok, then_ok, then_err}
use Rattle.mv_parse_declarations.proofs.declarator.pointer.Goals as goal

pub returns-in_err-open-clause-reads : goal.returns-in_err-open-clause-reads
returns-in_err-open-clause-reads c = λ n. let p = err_from_is_err_and c.from_residual.result c.from_residual.ensures.1 in rw (p.1, p.2)
    (then_err _ (c.in_err-open.ensures.reads c.args.text.now))

pub returns-in_err-rest-clause-reads : goal.returns-in_err-rest-clause-reads
returns-in_err-rest-clause-reads c = λ n. let p = err_from_is_err_and c.from_residual-in_err-rest.result c.from_residual-in_err-rest.ensures.1 in rw (p.1, p.2)
    (then_ok _ (c.in_ok-open.ensures.reads c.args.text.now) (then_err _ (c.in_err-rest.ensures.reads c.args.text.now)))

pub returns-in_err-name-clause-reads : goal.returns-in_err-name-clause-reads
returns-in_err-name-clause-reads c = λ n. let p = err_from_is_err_and c.from_residual-in_err-name.result c.from_residual-in_err-name.ensures.1 in rw (p.1, p.2)
    (then_ok _ (c.in_ok-open.ensures.reads c.args.text.now) (then_ok _ (c.in_ok-rest.ensures.reads c.args.text.now)
    (then_ok _ (c.constant-fixed.ensures.reads c.args.text.now) (then_err _ (c.in_err-name.ensures.reads c.args.text.now)))))

pub returns-in_err-extent-clause-reads : goal.returns-in_err-extent-clause-reads
returns-in_err-extent-clause-reads c = λ n. let p = err_from_is_err_and c.from_residual-in_err-extent.result c.from_residual-in_err-extent.ensures.1 in rw (p.1, p.2)
    (then_ok _ (c.in_ok-open.ensures.reads c.args.text.now) (then_ok _ (c.in_ok-rest.ensures.reads c.args.text.now)
    (then_ok _ (c.constant-fixed.ensures.reads c.args.text.now) (then_ok _ (c.in_ok-name.ensures.reads c.args.text.now) (then_err _ (c.in_err-extent.ensures.reads n))))))

pub returns-in_err-rest-2-clause-reads : goal.returns-in_err-rest-2-clause-reads
returns-in_err-rest-2-clause-reads c = λ n. let p = err_from_is_err_and c.from_residual-in_err-rest-2.result c.from_residual-in_err-rest-2.ensures.1 in rw (p.1, p.2)
    (then_ok _ (c.in_ok-open.ensures.reads c.args.text.now) (then_ok _ (c.in_ok-rest.ensures.reads c.args.text.now)
    (then_ok _ (c.constant-fixed.ensures.reads c.args.text.now) (then_ok _ (c.in_ok-name.ensures.reads c.args.text.now) (then_ok _ (c.in_ok-extent.ensures.reads n)
    (then_err _ (c.in_err-rest-2.ensures.reads c.args.text.now)))))))

pub returns-in_err-params-clause-reads : goal.returns-in_err-params-clause-reads
returns-in_err-params-clause-reads c = λ n. let p = err_from_is_err_and c.from_residual-in_err-params.result c.from_residual-in_err-params.ensures.1 in rw (p.1, p.2)
    (then_ok _ (c.in_ok-open.ensures.reads c.args.text.now) (then_ok _ (c.in_ok-rest.ensures.reads c.args.text.now)
    (then_ok _ (c.constant-fixed.ensures.reads c.args.text.now) (then_ok _ (c.in_ok-name.ensures.reads c.args.text.now) (then_ok _ (c.in_ok-extent.ensures.reads n)
    (then_ok _ (c.in_ok-rest-2.ensures.reads c.args.text.now) (then_err _ (c.in_err-params.ensures.reads n))))))))

pub returns-clause-reads : goal.returns-clause-reads
returns-clause-reads c =
    let place = c.in_ok-open.open.now.place in
    let shape = pointer_shape c.constant-fixed.result.0 c.in_ok-extent.extent c.in_ok-params.params in
    let same = ap (λ s. declarator_of place (Some s) shape) (sym c.in_ok-text_of.ensures)
    ∙ (ap (λ x. declarator_of place (Some c.in_ok-text_of.field-0) x) (sym c.pointer_shape-shape.ensures) ∙ sym c.in_ok-declarator.ensures) in
    λ n. then_ok _ (c.in_ok-open.ensures.reads c.args.text.now) (then_ok _ (c.in_ok-rest.ensures.reads c.args.text.now) (then_ok _ (c.constant-fixed.ensures.reads c.args.text.now)
    (then_ok _ (c.in_ok-name.ensures.reads c.args.text.now) (then_ok _ (c.in_ok-extent.ensures.reads n) (then_ok _ (c.in_ok-rest-2.ensures.reads c.args.text.now)
    (then_ok _ (c.in_ok-params.ensures.reads n) (given_ok _ _ _ same refl)))))))
