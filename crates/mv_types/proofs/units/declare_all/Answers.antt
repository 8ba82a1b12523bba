use Rattle.std.proofs.Common.{rules, ◌≡◌, Err}
use Rattle.mv_types.specs.Units.{declarator_judgement}
use Rattle.mv_types.proofs.Turns.{part_failed}
use Rattle.mv_types.proofs.units.declare_all.Goals as goal

pub returns-in_err-declare_once : goal.returns-in_err-declare_once
returns-in_err-declare_once c =
    let r : c.from_residual.result ≡ Err c.in_err-declare_once.field-0.0 = search rules in
    rw r (part_failed (declarator_judgement c.args.known.now c.args.base.now c.args.body.now) _ c.args.names.now c.loop-declarator.declarator-index c.loop-declarator.contents
    c.loop-declarator.invariant.rest c.declarator-item.result c.in_err-declare_once.field-0.0 _ _ c.loop-declarator-test.true c.declarator-item.is c.in_err-declare_once.ensures.judged)
