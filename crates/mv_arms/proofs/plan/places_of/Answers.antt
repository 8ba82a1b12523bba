use Rattle.mv_arms.proofs.Walked.{are_next}
use Rattle.mv_arms.proofs.plan.places_of.Goals as goal

pub loop-arm-preserved : goal.loop-arm-preserved
loop-arm-preserved c =
    let a = c.arm-item.result in
    are_next c.args.temp c.in-Some.i c.loop-arm.places c.push.new.self c.args.arms.now c.loop-arm.arm-index a a c.loop-arm-test.true c.arm-item.is c.loop-arm.invariant c.in-Some.ensures
    c.in_ok-push.ensures.ok
