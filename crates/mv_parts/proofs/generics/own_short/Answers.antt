use Rattle.std.proofs.Common.{◌∙◌, sym}
use Rattle.std.proofs.lemmas.Result.{MatchResult-weaker}
use Rattle.mv_parts.proofs.Functions.{whole_at, formed_at, short_is}
use Rattle.mv_parts.proofs.generics.own_short.Goals as goal

pub short_of-requires-clause-whole : goal.short_of-requires-clause-whole
short_of-requires-clause-whole c = whole_at c.args.program.now c.lowered_forms_are_right.ensures.whole c.requires.formed c.args.number c.args.body.now c.requires.lowered

pub short_of-requires-clause-formed : goal.short_of-requires-clause-formed
short_of-requires-clause-formed c = formed_at c.args.program.now c.lowered_forms_are_right.ensures.well_formed c.requires.formed c.args.number c.args.body.now c.requires.lowered

pub returns-else-is_attributed : goal.returns-else-is_attributed
returns-else-is_attributed c =
    let plain = sym c.is_attributed.ensures ∙ c.if-is_attributed.false in
    MatchResult-weaker c.short_of.result c.short_of.ensures (short_is c.args.program.now c.args.number c.args.body.now c.requires.lowered plain) (λ e h. tt)
