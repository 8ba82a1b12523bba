use Rattle.mv_variants.proofs.Grouped.{rows_step}
use Rattle.mv_variants.proofs.grouping.guards_of.Goals as goal

pub loop-guard-preserved : goal.loop-guard-preserved
loop-guard-preserved c =
    rows_step c.args.guards.now c.loop-guard.guard-index c.args.place _ c.loop-guard.rows c.push_led.new.rows c.loop-guard-test.true c.loop-guard.invariant c.in_ok-push_led.ensures
