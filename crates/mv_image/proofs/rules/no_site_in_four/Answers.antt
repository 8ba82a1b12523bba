use Rattle.std.proofs.Common.{◌∙◌, sym, ap}
use Rattle.mv_image.specs.Rules.{is_outside_four}
use Rattle.mv_descriptors.proofs.Below.{each_below-none, each_below-more, each_below-fails}
use Rattle.mv_image.proofs.rules.no_site_in_four.Goals as goal

pub loop-k-init : goal.loop-k-init
loop-k-init c = each_below-none _

pub returns-then-not-is_outside_four : goal.returns-then-not-is_outside_four
returns-then-not-is_outside_four c = sym (each_below-fails _ _ c.loop-k.k c.loop-k-test.true (ap (is_outside_four c.args.point) (sym c.site_field.ensures) ∙ sym c.is_outside_four.ensures ∙ c.if-not-is_outside_four.true))

pub loop-k-preserved : goal.loop-k-preserved
loop-k-preserved c = each_below-more _ c.loop-k.k c.loop-k.invariant (ap (is_outside_four c.args.point) (sym c.site_field.ensures) ∙ sym c.is_outside_four.ensures ∙ c.if-not-is_outside_four.false)
