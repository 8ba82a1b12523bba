use Rattle.std.proofs.Common.{sym}
use Rattle.mv_carry.proofs.Writing.{none_unwritten, forgotten_more}
use Rattle.mv_carry.proofs.writes.+writes.Goals as goal

pub forget_all-loop-stm-init : goal.forget_all-loop-stm-init
forget_all-loop-stm-init t c = sym (none_unwritten c.args.facts.now)

pub forget_all-loop-stm-preserved : goal.forget_all-loop-stm-preserved
forget_all-loop-stm-preserved t c =
    forgotten_more c.as_slice-stm-items.result.now c.args.code.now c.loop-stm.stm-index c.stm-item.result c.args.facts.now c.loop-stm.facts
    c.forget_written.new.facts c.as_slice-stm-items.ensures c.loop-stm-test.true c.stm-item.is c.loop-stm.invariant c.in_ok-forget_written.ensures
