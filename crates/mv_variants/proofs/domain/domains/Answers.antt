use Rattle.mv_variants.proofs.Domains.{domain_push}
use Rattle.mv_variants.proofs.domain.domains.Goals as goal

pub loop-switch-preserved : goal.loop-switch-preserved
loop-switch-preserved c =
    domain_push c.args.program.now c.args.switches.now c.loop-switch.switch-index 0 c.loop-switch-test.true c.loop-switch.domains c.push.new.self c.in_ok-domain.field-0 c.loop-switch.invariant
    c.in_ok-domain.ensures c.in_ok-push.ensures.ok
