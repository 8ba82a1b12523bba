use Rattle.std.proofs.Common.{arith}
use Rattle.mv_select.proofs.Totals.{total_more}
use Rattle.mv_select.proofs.frame.words_of.Goals as goal

-- one size more, which is a word
pub loop-size-preserved : goal.loop-size-preserved
loop-size-preserved c =
    let i = c.loop-size.size-index in
    let more = total_more c.args.arrays.now i (omega arith) in
    let word = c.type_inv.arrays i in
    (omega (arith, more), omega (arith, word))
