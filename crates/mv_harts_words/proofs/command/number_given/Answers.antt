use Rattle.std.proofs.Common.{◌∙◌, ap, sym}
use Rattle.std.specs.Option.{option_copied}
use Rattle.mv_harts_words.proofs.Reading.{too_small}
use Rattle.mv_harts_words.proofs.command.number_given.Goals as goal

pub returns-then-number-least : goal.returns-then-number-least
returns-then-number-least c =
    too_small c.args.name.now c.args.least c.args.most _ c.in_ok-given.field-0.now c.in_ok-number.number c.requires (sym c.given.ensures ∙ ap option_copied c.in_ok-given.was) c.in_ok-number.ensures.0
    (sym c.as_bytes.ensures.value ∙ c.in_ok-number.ensures.1) c.if-number-least.true
