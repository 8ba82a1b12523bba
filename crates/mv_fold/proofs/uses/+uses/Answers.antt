use Rattle.mv_fold.specs.Needed.{stm_uses}
use Rattle.mv_fold.proofs.Growing.{grown}
use Rattle.mv_fold.proofs.uses.+uses.Goals as goal

pub add_code-loop-stm-preserved : goal.add_code-loop-stm-preserved
add_code-loop-stm-preserved t c =
    grown stm_uses c.args.uses.now c.loop-stm.uses c.add_stm.new.uses c.args.code.now c.as_slice-stm-items.result.now c.loop-stm.stm-index
    c.stm-item.result c.as_slice-stm-items.ensures c.loop-stm-test.true c.stm-item.is c.loop-stm.invariant c.in_ok-add_stm.ensures
