use Rattle.std.proofs.Common.{◌∙◌, sym, ap}
use Rattle.mv_image.specs.Rules.{is_outside_four}
use Rattle.mv_descriptors.proofs.Below.{each_below-none, each_below-more, each_below-fails}
use Rattle.mv_image.proofs.rules.no_entry_in_four.Goals as goal

pub loop-f-init : goal.loop-f-init
loop-f-init c = each_below-none _

pub returns-then-not-is_outside_four : goal.returns-then-not-is_outside_four
returns-then-not-is_outside_four c = sym (each_below-fails _ _ c.loop-f.f c.loop-f-test.true (ap (is_outside_four c.args.point) (sym c.function_field.ensures) ∙ sym c.is_outside_four.ensures ∙ c.if-not-is_outside_four.true))

pub loop-f-preserved : goal.loop-f-preserved
loop-f-preserved c = each_below-more _ c.loop-f.f c.loop-f.invariant (ap (is_outside_four c.args.point) (sym c.function_field.ensures) ∙ sym c.is_outside_four.ensures ∙ c.if-not-is_outside_four.false)
