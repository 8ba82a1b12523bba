use Rattle.std.proofs.Common.{rules, ◌≡◌, Err}
use Rattle.mv_types.specs.Units.{item_judgement}
use Rattle.mv_types.proofs.Turns.{part_failed}
use Rattle.mv_types.proofs.units.judge_items.Goals as goal

pub returns-in_err-judge_item : goal.returns-in_err-judge_item
returns-in_err-judge_item c =
    let r : c.from_residual.result ≡ Err c.in_err-judge_item.field-0.0 = search rules in
    rw r (part_failed (item_judgement c.args.known.now) _ c.args.items.now c.loop-item.item-index c.loop-item.contents c.loop-item.invariant.rest c.item-item.result c.in_err-judge_item.field-0.0
    _ _ c.loop-item-test.true c.item-item.is c.in_err-judge_item.ensures)
