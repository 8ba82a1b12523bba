use Rattle.mv_plain.proofs.PlainCode.{code_begins, code_next}
use Rattle.mv_plain.proofs.plain.+plain.Goals as goal

pub plain_code-loop-stm-init : goal.plain_code-loop-stm-init
plain_code-loop-stm-init t c = code_begins c.args.code.now c.new-plain.result c.new-plain.ensures

pub plain_code-loop-stm-preserved : goal.plain_code-loop-stm-preserved
plain_code-loop-stm-preserved t c =
    code_next c.args.code.now c.as_slice-stm-items.result.now c.loop-stm.plain c.push.new.self c.loop-stm.stm-index c.stm-item.result
    c.in_ok-plain_stm.field-0 c.as_slice-stm-items.ensures c.loop-stm-test.true c.stm-item.is c.loop-stm.invariant c.in_ok-plain_stm.ensures
    c.in_ok-push.ensures.ok
