use Rattle.std.proofs.Common.{arith, ◌≡◌, suc, ◌-◌, length, true, false, get_or, sym, ◌∙◌, ap}
use Rattle.mv_fold.specs.Shortened.{idles, without_idle}
use Rattle.mv_fold.proofs.Ends.{idle_last, busy_last}
use Rattle.mv_fold.proofs.shortened.without_idle.Goals as goal

pub returns-then-not-idles : goal.returns-then-not-idles
returns-then-not-idles c =
    let items = c.loop-stms.stms.items in
    let n = c.len-last.result - 1 in
    let many : length items ≡ suc n = omega (arith, c.loop-stms.stms.ok.0, c.len.ensures, c.len-last.ensures, c.loop-stms-test.true) in
    let last : idles (get_or items n c.index.result.now) ≡ false = ap idles (sym c.index.ensures) ∙ sym c.idles.ensures ∙ c.if-not-idles.true in
    c.from_vec.ensures ∙ sym (busy_last items n c.index.result.now many last) ∙ c.loop-stms.invariant

pub loop-stms-preserved : goal.loop-stms-preserved
loop-stms-preserved c =
    let items = c.loop-stms.stms.items in
    let n = c.len-last.result - 1 in
    let many : length items ≡ suc n = omega (arith, c.loop-stms.stms.ok.0, c.len.ensures, c.len-last.ensures, c.loop-stms-test.true) in
    let last : idles (get_or items n c.index.result.now) ≡ true = ap idles (sym c.index.ensures) ∙ sym c.idles.ensures ∙ c.if-not-idles.false in
    ap without_idle c.truncate.ensures.items ∙ idle_last items n c.index.result.now many last ∙ c.loop-stms.invariant
