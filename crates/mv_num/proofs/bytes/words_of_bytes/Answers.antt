use Rattle.std.proofs.Common.{arith}
use Rattle.mv_num.proofs.ByteLaws.{words_of-grow}
use Rattle.mv_num.proofs.bytes.words_of_bytes.Goals as goal

pub loop-i-preserved : goal.loop-i-preserved
loop-i-preserved c = words_of-grow _ _ _ _ _ c.loop-i.i (omega arith) c.loop-i.invariant c.read_u32.ensures c.in_ok-push.ensures.ok
