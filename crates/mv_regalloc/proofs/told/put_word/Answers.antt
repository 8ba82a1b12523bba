use Rattle.std.proofs.Common.{◌≡◌, ◌<◌, ◌+◌, ◌*◌, ◌/◌, ◌&&◌, true, eqb, length, refl, sym, ap, ◌∙◌, arith}
use Rattle.mv_regalloc.specs.LiveBits.{in_word}
use Rattle.mv_regalloc.proofs.Putting.{put_as, put_none}
use Rattle.mv_regalloc.proofs.Turning.{turned, turned_word, turned_all, word_step, word_within}
use Rattle.mv_regalloc.proofs.told.put_word.Goals as goal
use Rattle.mv_num.proofs.Booleans.{and_true}

pub loop-left-init : goal.loop-left-init
loop-left-init c = record {
  values = put_none _ c.args.value c.args.values.now (λ t l. turned_word c.args.place c.args.word t true);
  within = λ t h. h;
}

pub loop-left-preserved : goal.loop-left-preserved
loop-left-preserved c =
    let place = c.args.place in
    let word = c.args.word in
    let from = c.saturating_mul-from.result in
    let bit = c.lowest-bit.result in
    let temp = c.saturating_add.result in
    let values = c.args.values.now in
    let now = c.loop-left.values in
    let left = c.loop-left.left in
    let next = c.without-left.result in
    let h = c.loop-left.invariant in
    let f : from ≡ place * 64 = omega (arith, c.saturating_mul-from.ensures, c.if-from-len.false, c.len.ensures) in
    let e : temp < length values → temp ≡ from + bit = λ l. omega (arith, l, c.saturating_add.ensures, c.len.ensures) in
    let past : from + bit < length values → temp ≡ from + bit = λ l. omega (arith, l, c.saturating_add.ensures, c.len.ensures) in
    record {
      values =
          word_step place left bit from temp (length values) c.lowest-bit.ensures.place f e past word h.within c.lowest-bit.ensures.set next c.without-left.ensures.bits
          (λ t. true) (λ t. true) c.args.value values now c.put.new.values refl h.values
          (put_as (λ t. eqb t temp) (λ t. eqb t temp && true) c.args.value now c.put.new.values (λ t l. sym (and_true (eqb t temp))) c.put.ensures)
          (λ t l k. refl);
      within = word_within place left bit from temp (length values) c.lowest-bit.ensures.place f e past word h.within c.lowest-bit.ensures.set next c.without-left.ensures.bits;
    }

pub returns : goal.returns
returns c =
    let left = c.loop-left.left in
    let place = c.args.place in
    put_as (λ t. turned place left t && (in_word c.args.word t && true)) (λ t. eqb (t / 64) place && in_word c.args.word t) c.args.value c.args.values.now c.loop-left.values
    (λ t l. turned_all place left t (in_word c.args.word t && true) c.loop-left-test.false ∙ ap (λ c. eqb (t / 64) place && c) (and_true (in_word c.args.word t))) c.loop-left.invariant.values
