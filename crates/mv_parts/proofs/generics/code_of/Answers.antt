use Rattle.std.proofs.lemmas.Result.{MatchResult-weaker}
use Rattle.mv_parts.proofs.Compiling.{suitable, refused, has_code}
use Rattle.mv_parts.proofs.generics.code_of.Goals as goal

pub select-requires : goal.select-requires
select-requires c =
    let forms = c.lowered_forms_are_right.ensures in
    suitable forms.shallow forms.well_formed c.args.program.now c.requires.formed c.args.number c.args.body.now c.requires.generic c.code_has_words.ensures

pub returns-clause-ok : goal.returns-clause-ok
returns-clause-ok c =
    let forms = c.lowered_forms_are_right.ensures in
    MatchResult-weaker c.select.result c.select.ensures
    (has_code forms.shallow forms.well_formed c.args.program.now c.requires.formed c.args.number c.args.body.now c.requires.generic c.code_has_words.ensures c.is_attributed.result
    c.is_attributed.ensures)
    (λ e h. tt)

pub returns-clause-err : goal.returns-clause-err
returns-clause-err c =
    let forms = c.lowered_forms_are_right.ensures in
    MatchResult-weaker c.select.result c.select.ensures (λ code h. tt)
    (refused forms.shallow forms.well_formed c.args.program.now c.requires.formed c.args.number c.args.body.now c.requires.generic c.code_has_words.ensures)

pub returns-clause-words : goal.returns-clause-words
returns-clause-words c = MatchResult-weaker c.select.result c.select.ensures (λ code h. c.code_has_words.ensures) (λ e h. tt)
