use Rattle.std.proofs.Common.{[], refl, sym, ◌∙◌}
use Rattle.std.proofs.lemmas.List.{get_or-append_right}
use Rattle.mv_asmtext.specs.Registers.{calling_names, numbered_names}
use Rattle.mv_asmtext.proofs.Turns.{entry_front}
use Rattle.mv_asmtext.proofs.register.name.Goals as goal

pub returns-then-index-lt32 : goal.returns-then-index-lt32
returns-then-index-lt32 c = c.calling_name.ensures ∙ sym (entry_front calling_names numbered_names c.args.index [] c.if-index-lt32.true)

pub returns-else-index-lt32 : goal.returns-else-index-lt32
returns-else-index-lt32 c = c.numbered_name.ensures ∙ sym (get_or-append_right calling_names numbered_names 32 c.args.index [] refl c.if-index-lt32.false)
