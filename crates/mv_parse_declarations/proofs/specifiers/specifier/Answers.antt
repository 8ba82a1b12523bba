use Rattle.std.proofs.Common.{refl, sym}
use Rattle.std.proofs.lemmas.Result.{err_from_is_err_and}
use Rattle.mv_parse_nodes.proofs.Answers.{given_ok, then_ok, then_err, choice_yes, choice_no}
use Rattle.mv_parse_declarations.proofs.specifiers.specifier.Goals as goal

pub returns-in_err-tag-clause-reads : goal.returns-in_err-tag-clause-reads
returns-in_err-tag-clause-reads c = λ n. let p = err_from_is_err_and c.from_residual-in_err-tag.result c.from_residual-in_err-tag.ensures.1 in rw (p.1, p.2)
    (choice_no _ _ _ (c.in_default.ensures.next c.args.text.now) (choice_no _ _ _ (c.in_default-next_keyword.ensures.next c.args.text.now)
    (choice_no _ _ _ (c.in_default-next_type_word.ensures.next c.args.text.now)
    (choice_yes _ _ (c.in-Some-next_keyword-2.ensures.next c.args.text.now) (then_err _ (c.in_err-tag.ensures.reads n))))))

pub returns-in_err-mark-clause-reads : goal.returns-in_err-mark-clause-reads
returns-in_err-mark-clause-reads c = λ n. let p = err_from_is_err_and c.from_residual-in_err-mark.result c.from_residual-in_err-mark.ensures.1 in rw (p.1, p.2)
    (choice_no _ _ _ (c.in_default.ensures.next c.args.text.now) (choice_no _ _ _ (c.in_default-next_keyword.ensures.next c.args.text.now)
    (choice_no _ _ _ (c.in_default-next_type_word.ensures.next c.args.text.now)
    (choice_no _ _ _ (c.in_default-next_keyword-2.ensures.next c.args.text.now) (then_err _ (c.in_err-mark.ensures.reads n))))))

pub returns-clause-reads : goal.returns-clause-reads
returns-clause-reads c = λ n. choice_no _ _ _ (c.in_default.ensures.next c.args.text.now) (choice_no _ _ _ (c.in_default-next_keyword.ensures.next c.args.text.now)
    (choice_no _ _ _ (c.in_default-next_type_word.ensures.next c.args.text.now)
    (choice_no _ _ _ (c.in_default-next_keyword-2.ensures.next c.args.text.now) (then_ok _ (c.in_ok-mark.ensures.reads n) (given_ok _ _ _ (sym c.in_ok-add_mark.ensures) refl)))))
