use Rattle.mv_expand.proofs.Counting.{costs_more}
use Rattle.mv_expand.proofs.measures.+cost.Goals as goal

pub straight_cost-loop-stm-preserved : goal.straight_cost-loop-stm-preserved
straight_cost-loop-stm-preserved t c =
    costs_more c.loop-stm.stm-index c.loop-stm.cost c.stm_cost.result c.saturating_add-cost.result c.as_slice-stm-items.result.now c.args.code.now c.stm-item.result
    c.as_slice-stm-items.ensures c.loop-stm-test.true c.stm-item.is c.loop-stm.invariant c.stm_cost.ensures c.saturating_add-cost.ensures
