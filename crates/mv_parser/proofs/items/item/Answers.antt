use Rattle.std.proofs.Common.{None, refl, sym, ap, ◌∙◌}
use Rattle.std.proofs.lemmas.Result.{err_from_is_err_and}
use Rattle.mv_parse_grammar.specs.Units.{item_of}
use Rattle.mv_parse_nodes.proofs.Answers.{given_ok, then_ok, then_err, token_ok, choice_yes, choice_no}
use Rattle.mv_parser.proofs.items.item.Goals as goal

pub returns-in_err-specs-clause-reads : goal.returns-in_err-specs-clause-reads
returns-in_err-specs-clause-reads c = λ n. let p = err_from_is_err_and c.from_residual.result c.from_residual.ensures.1 in rw (p.1, p.2)
    (then_err _ (c.in_err-specs.ensures.reads n))

pub returns-in-Some-clause-reads : goal.returns-in-Some-clause-reads
returns-in-Some-clause-reads c = λ n.
    let h = c.in-Some.ensures.next c.args.text.now in
    then_ok _ (c.in_ok-specs.ensures.reads n) (choice_yes _ _ h (token_ok _ h
    (given_ok _ _ _ (ap (λ names. item_of c.in_ok-specs.specs names None) (sym c.new.ensures) ∙ sym c.in_ok-item.ensures) refl)))

pub returns-in_err-first-clause-reads : goal.returns-in_err-first-clause-reads
returns-in_err-first-clause-reads c = λ n. let p = err_from_is_err_and c.from_residual-in_err-first.result c.from_residual-in_err-first.ensures.1 in rw (p.1, p.2)
    (then_ok _ (c.in_ok-specs.ensures.reads n) (choice_no _ _ _ (c.in_default.ensures.next c.args.text.now) (then_err _ (c.in_err-first.ensures.reads n))))

pub returns-clause-reads : goal.returns-clause-reads
returns-clause-reads c = λ n.
    then_ok _ (c.in_ok-specs.ensures.reads n) (choice_no _ _ _ (c.in_default.ensures.next c.args.text.now) (then_ok _ (c.in_ok-first.ensures.reads n) (c.after_declarator.ensures.reads n)))
