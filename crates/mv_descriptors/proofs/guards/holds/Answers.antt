use Rattle.std.proofs.Common.{◌∙◌, sym}
use Rattle.mv_descriptors.specs.Guards.{holds, value_fits}
use Rattle.mv_descriptors.proofs.Below.{each_below-none, each_below-more, each_below-fails}
use Rattle.mv_descriptors.proofs.guards.holds.Goals as goal

pub loop-i-init : goal.loop-i-init
loop-i-init c = each_below-none _

pub returns-then-not-is_between : goal.returns-then-not-is_between
unfolding holds
returns-then-not-is_between c =
    sym (each_below-fails (value_fits c.args.kinds.now c.args.values.now c.args.row.now) _ c.loop-i.i c.loop-i-test.true (sym c.is_between.ensures ∙ c.if-not-is_between.true))

pub loop-i-preserved : goal.loop-i-preserved
loop-i-preserved c = each_below-more _ c.loop-i.i c.loop-i.invariant (sym c.is_between.ensures ∙ c.if-not-is_between.false)
