use Rattle.std.proofs.Common.{[], sym, ◌∙◌, refl}
use Rattle.std.proofs.lemmas.List.{get_or-append_right}
use Rattle.mv_lexer.specs.Tables as spec
use Rattle.mv_lexer.proofs.table.punctuator.Goals as goal

pub returns-else-index-lt23 : goal.returns-else-index-lt23
returns-else-index-lt23 c = c.longer_punctuator.ensures ∙ sym (get_or-append_right spec.single_punctuators spec.longer_punctuators 23 c.args.index [] refl c.if-index-lt23.false)
