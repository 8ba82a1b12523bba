use Rattle.std.proofs.Common.{arith, ◌≡◌, ◌+◌, get_or, List, take, ap, subst}
use Rattle.mv_ir.specs.declared.stm.Stm.{Stm}
use Rattle.mv_select_code.specs.Control.Encoded.{most_words}
use Rattle.mv_variants.proofs.Counted.{of_stm, words_more}
use Rattle.mv_variants.proofs.words.+counted.Goals as goal

pub words_of-loop-stm-preserved : goal.words_of-loop-stm-preserved
words_of-loop-stm-preserved t c =
    let i = c.loop-stm.stm-index in
    let items = c.as_slice-stm-items.result.now in
    let s = c.stm-item.result in
    let more = words_more items i s c.loop-stm-test.true in
    let e = subst (λ (xs : List Stm). most_words (take (i + 1) xs) ≡ most_words (take i xs) + of_stm (get_or items i s)) c.as_slice-stm-items.ensures more in
    omega (arith, c.saturating_add-words.ensures, c.stm_words.ensures, ap of_stm c.stm-item.is, c.loop-stm.invariant, e)
