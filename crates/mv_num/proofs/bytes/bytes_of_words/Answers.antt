use Rattle.mv_num.proofs.ByteLaws.{bytes_of-grow}
use Rattle.mv_num.proofs.bytes.bytes_of_words.Goals as goal

pub loop-word-preserved : goal.loop-word-preserved
loop-word-preserved c = bytes_of-grow _ _ _ _ c.loop-word.word-index c.loop-word-test.true c.loop-word.invariant c.write_u32.ensures c.in_ok-extend_from_slice.ensures.items
