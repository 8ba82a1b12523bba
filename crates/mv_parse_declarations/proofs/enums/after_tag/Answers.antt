use Rattle.std.proofs.Common.{Some, refl, sym, ap}
use Rattle.std.proofs.lemmas.Result.{err_from_is_err_and}
use Rattle.mv_syntax.specs.declared.unit.EnumSpec.{roll-EnumSpec}
use Rattle.mv_parse_nodes.proofs.Answers.{given_ok, then_ok, then_err, choice_yes}
use Rattle.mv_parse_declarations.proofs.enums.after_tag.Goals as goal

pub returns-in_err-members-clause-reads : goal.returns-in_err-members-clause-reads
returns-in_err-members-clause-reads c = λ n. let p = err_from_is_err_and c.from_residual-in_err-members.result c.from_residual-in_err-members.ensures.1 in rw (p.1, p.2)
    (choice_yes _ _ (c.in-Some.ensures.next c.args.text.now) (then_err _ (c.in_err-members.ensures.reads n)))

pub returns-clause-reads : goal.returns-clause-reads
returns-clause-reads c =
    let same = ap (λ s. roll-EnumSpec (record { tag = Some s; members = Some c.in_ok-members.members })) (sym c.in_ok-text_of.ensures) in
    λ n. choice_yes _ _ (c.in-Some.ensures.next c.args.text.now) (then_ok _ (c.in_ok-members.ensures.reads n) (given_ok _ _ _ same refl))
