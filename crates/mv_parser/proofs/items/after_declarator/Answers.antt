use Rattle.std.proofs.Common.{refl, sym}
use Rattle.std.proofs.lemmas.Result.{err_from_is_err_and}
use Rattle.mv_parse_grammar.specs.Terminals.{terminals}
use Rattle.mv_parse_grammar.specs.ExpressionReader.{read}
use Rattle.mv_parse_grammar.specs.DeclarationReader.{with_init}
use Rattle.mv_parse_nodes.proofs.Answers.{given_ok, then_ok, then_err, choice_yes, choice_no, regrouped, same_read}
use Rattle.mv_parser.proofs.items.after_declarator.Goals as goal

pub returns-in_err-body-clause-reads : goal.returns-in_err-body-clause-reads
returns-in_err-body-clause-reads c = λ n. let p = err_from_is_err_and c.from_residual.result c.from_residual.ensures.1 in rw (p.1, p.2)
    (choice_yes _ _ (c.in-Some.ensures.next c.args.text.now) (then_err _ (c.in_err-body.ensures.reads n)))

pub returns-in-Some-clause-reads : goal.returns-in-Some-clause-reads
returns-in-Some-clause-reads c = λ n. choice_yes _ _ (c.in-Some.ensures.next c.args.text.now) (then_ok _ (c.in_ok-body.ensures.reads n) (given_ok _ _ _ (sym c.in_ok-item.ensures) refl))

pub returns-in_err-names-clause-reads : goal.returns-in_err-names-clause-reads
returns-in_err-names-clause-reads c = λ n. let p = err_from_is_err_and c.from_residual-in_err-names.result c.from_residual-in_err-names.ensures.1 in rw (p.1, p.2)
    (choice_no _ _ _ (c.in_default.ensures.next c.args.text.now)
    (same_read (regrouped _ _ (with_init n (read n) c.args.first (terminals c.args.text.now c.args.tokens.now))) (then_err _ (c.in_err-names.ensures.reads n))))

pub returns-in_err-rest-clause-reads : goal.returns-in_err-rest-clause-reads
returns-in_err-rest-clause-reads c = λ n. let p = err_from_is_err_and c.from_residual-in_err-rest.result c.from_residual-in_err-rest.ensures.1 in rw (p.1, p.2)
    (choice_no _ _ _ (c.in_default.ensures.next c.args.text.now)
    (same_read (regrouped _ _ (with_init n (read n) c.args.first (terminals c.args.text.now c.args.tokens.now)))
    (then_ok _ (c.in_ok-names.ensures.reads n) (then_err _ (c.in_err-rest.ensures.reads c.args.text.now)))))

pub returns-clause-reads : goal.returns-clause-reads
returns-clause-reads c = λ n.
    choice_no _ _ _ (c.in_default.ensures.next c.args.text.now)
    (same_read (regrouped _ _ (with_init n (read n) c.args.first (terminals c.args.text.now c.args.tokens.now)))
    (then_ok _ (c.in_ok-names.ensures.reads n) (then_ok _ (c.in_ok-rest.ensures.reads c.args.text.now) (given_ok _ _ _ (sym c.in_ok-item-2.ensures) refl))))
