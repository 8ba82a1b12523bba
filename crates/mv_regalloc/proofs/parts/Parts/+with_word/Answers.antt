use Rattle.std.proofs.Common.{◌<◌, ◌-◌, ◌/◌, ◌%◌, cond, eqb, length, sym, ap, ◌∙◌, subst, arith}
use Rattle.mv_regalloc.specs.declared.parts.Part.{Part}
use Rattle.mv_regalloc.specs.Parts.{further, word_of}
use Rattle.mv_regalloc.proofs.PartWords.{if_ok_by, put_here, put_further}
use Rattle.mv_regalloc.proofs.parts.Parts.+with_word.Goals as goal

pub returns-then-place-eq0-clause-words : goal.returns-then-place-eq0-clause-words
returns-then-place-eq0-clause-words t c =
    let a = c.args.self.now in
    let number = c.args.number in
    let w = c.args.word in
    let here = c.part-part.ensures.part in
    if_ok_by c.made.result
    (λ made e p.
    put_here a c.made.new.self c.made.ensures.keeps number made w (subst (λ q. q.odd < length a) here c.part-part.ensures.odd_within) (subst (λ q. q.even < length a) here c.part-part.ensures.even_within)
    (e ∙ ap (λ q. let r : Part = record { word = w; odd = q.odd; even = q.even } in r) here) p
    ∙ ap (λ k. cond (eqb p k) w (word_of a number p)) (sym c.if-place-eq0.true))
    c.made.ensures.part

pub returns-clause-words : goal.returns-clause-words
returns-clause-words t c =
    let a = c.args.self.now in
    let number = c.args.number in
    let place = c.args.place in
    let w = c.args.word in
    let here = c.part-part.ensures.part in
    let made = c.in_ok-further.further in
    let h = c.in_ok-further.ensures in
    if_ok_by c.made-2.result
    (λ last e.
    put_further a c.with_word.new.self h.keeps number last w (subst (λ q. q.odd < length a) here c.part-part.ensures.odd_within) (subst (λ q. q.even < length a) here c.part-part.ensures.even_within)
    c.made-2.new.self c.made-2.ensures.keeps place made (omega (arith, c.if-place-eq0.false)) h.within
    (λ p. h.words p ∙ ap (λ k. cond (eqb p ((place - 1) / 2)) w (word_of a k p)) (c.further.ensures ∙ ap (λ q. further q place) here))
    (e ∙ c.with_further.ensures ∙ ap (λ q. let r : Part = cond (eqb (place % 2) 1) (record q { odd = made }) (record q { even = made }) in r) here))
    c.made-2.ensures.part
