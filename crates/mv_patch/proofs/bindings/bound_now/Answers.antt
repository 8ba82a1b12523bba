use Rattle.std.proofs.Common.{◌∙◌}
use Rattle.mv_patch.proofs.Padded.{none_now, some_now}
use Rattle.mv_patch.proofs.bindings.bound_now.Goals as goal

pub returns-in-None : goal.returns-in-None
returns-in-None c =
    c.free.ensures
    ∙ none_now c.args.image.now c.args.memory.now.held c.args.group.function c.args.row.now c.requires.row.count c.has_width.ensures c.switch_words-values.result c.switch_words-values.ensures c.in-None.ensures

pub returns-in-Some : goal.returns-in-Some
returns-in-Some c =
    some_now c.args.image.now c.args.memory.now.held c.args.group.function c.args.row.now c.requires.row.count c.has_width.ensures c.switch_words-values.result c.switch_words-values.ensures c.in-Some.field-0 c.in-Some.ensures
