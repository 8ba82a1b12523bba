use Rattle.std.proofs.Common.{[], refl, sym, ◌∙◌}
use Rattle.std.proofs.lemmas.List.{get_or-append_right}
use Rattle.mv_asmtext.specs.Registers.{calling_low, calling_high}
use Rattle.mv_asmtext.proofs.Turns.{entry_front}
use Rattle.mv_asmtext.proofs.register.calling_name.Goals as goal

pub returns-then-index-lt16 : goal.returns-then-index-lt16
returns-then-index-lt16 c = c.calling_low.ensures ∙ sym (entry_front calling_low calling_high c.args.index [] c.if-index-lt16.true)

pub returns-else-index-lt16 : goal.returns-else-index-lt16
returns-else-index-lt16 c = c.calling_high.ensures ∙ sym (get_or-append_right calling_low calling_high 16 c.args.index [] refl c.if-index-lt16.false)
