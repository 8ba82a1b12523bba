use Rattle.mv_harts_one.proofs.Sitting.{stored_ok, stored_not}
use Rattle.mv_harts_one.proofs.store.put.Goals as goal

pub returns-in-Ok : goal.returns-in-Ok
returns-in-Ok c = stored_ok c.args.memory.now c.store.new.self c.args.store c.bytes.result c.bytes.ensures.value c.in-Ok.ensures.held c.in-Ok.ensures.spare c.store.ensures.reserve

pub returns-in-Err-Misaligned : goal.returns-in-Err-Misaligned
returns-in-Err-Misaligned c =
    stored_not c.args.memory.now c.store.new.self c.args.store c.bytes.result _ c.bytes.ensures.value (rw c.in-Err-Misaligned.field-0-is at c.in-Err-Misaligned.ensures.cause) c.in-Err-Misaligned.ensures.err

pub returns-in-Err-Outside : goal.returns-in-Err-Outside
returns-in-Err-Outside c =
    stored_not c.args.memory.now c.store.new.self c.args.store c.bytes.result _ c.bytes.ensures.value (rw c.in-Err-Outside.field-0-is at c.in-Err-Outside.ensures.cause) c.in-Err-Outside.ensures.err
