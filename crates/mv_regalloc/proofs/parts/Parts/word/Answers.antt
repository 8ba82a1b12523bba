use Rattle.std.proofs.Common.{◌≡◌, ◌-◌, ◌/◌, sym, ap, ◌∙◌, arith}
use Rattle.mv_regalloc.specs.Parts.{further, word_of}
use Rattle.mv_regalloc.proofs.PartWords.{word_here, word_further}
use Rattle.mv_regalloc.proofs.parts.Parts.word.Goals as goal

pub loop-place-preserved : goal.loop-place-preserved
loop-place-preserved c =
    let parts = c.args.self.now in
    let place = c.loop-place.place in
    ap (λ n. word_of parts n ((place - 1) / 2)) (c.further-number.ensures ∙ ap (λ q. further q place) c.part.ensures.part) ∙ sym (word_further parts c.loop-place.number place c.loop-place-test.true) ∙ c.loop-place.invariant

pub returns : goal.returns
returns c =
    let parts = c.args.self.now in
    let number = c.loop-place.number in
    let last : 0 ≡ c.loop-place.place = omega (arith, c.loop-place-test.false) in
    ap (λ q. q.word) c.part-2.ensures.part ∙ sym (word_here parts number) ∙ ap (word_of parts number) last ∙ c.loop-place.invariant
