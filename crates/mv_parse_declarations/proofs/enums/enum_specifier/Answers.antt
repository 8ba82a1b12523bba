use Rattle.std.proofs.Common.{refl}
use Rattle.std.proofs.lemmas.Result.{err_from_is_err_and}
use Rattle.mv_parse_nodes.proofs.Answers.{given_ok, then_ok, then_err, token_ok, choice_yes, choice_no}
use Rattle.mv_parse_declarations.proofs.enums.enum_specifier.Goals as goal

pub returns-in-Some-clause-reads : goal.returns-in-Some-clause-reads
returns-in-Some-clause-reads c = λ n. then_ok _ (c.in_ok-rest.ensures.reads c.args.text.now)
    (choice_yes _ _ (c.in-Some.ensures.next c.args.text.now) (token_ok _ (c.in-Some.ensures.next c.args.text.now) (c.after_tag.ensures.reads n)))

pub returns-in_err-members-clause-reads : goal.returns-in_err-members-clause-reads
returns-in_err-members-clause-reads c = λ n. let p = err_from_is_err_and c.from_residual-in_err-members.result c.from_residual-in_err-members.ensures.1 in rw (p.1, p.2)
    (then_ok _ (c.in_ok-rest.ensures.reads c.args.text.now) (choice_no _ _ _ (c.in_default.ensures.next c.args.text.now) (then_err _ (c.in_err-members.ensures.reads n))))

pub returns-clause-reads : goal.returns-clause-reads
returns-clause-reads c = λ n. then_ok _ (c.in_ok-rest.ensures.reads c.args.text.now)
    (choice_no _ _ _ (c.in_default.ensures.next c.args.text.now) (then_ok _ (c.in_ok-members.ensures.reads n) (given_ok _ _ _ refl refl)))
