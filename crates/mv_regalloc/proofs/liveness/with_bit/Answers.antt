use Rattle.std.proofs.Common.{◌/◌, cond, eqb, ap, ◌∙◌}
use Rattle.mv_regalloc.specs.LiveBits.{in_word}
use Rattle.mv_regalloc.proofs.PartWords.{if_ok_by, word_there}
use Rattle.mv_regalloc.proofs.SharedSets.{put_at}
use Rattle.mv_regalloc.proofs.liveness.with_bit.Goals as goal

pub returns-then-word-old-clause-bits : goal.returns-then-word-old-clause-bits
returns-then-word-old-clause-bits c =
    let parts = c.args.parts.now in
    let number = c.args.number in
    let temp = c.args.temp in
    let bit = c.args.bit in
    let word = c.put-word.result in
    λ n. put_at n parts number parts number temp word bit (word_there parts number (temp / 64) word (c.if-word-old.true ∙ c.word-old.ensures))
    (λ t e. c.put-word.ensures t e ∙ ap (λ w. cond (eqb temp t) bit (in_word w t)) c.word-old.ensures)

pub returns-clause-bits : goal.returns-clause-bits
returns-clause-bits c =
    let temp = c.args.temp in
    let bit = c.args.bit in
    if_ok_by c.with_word.result
    (λ made h n. put_at n c.args.parts.now c.args.number c.with_word.new.self made temp c.put-word.result bit h (λ t e. c.put-word.ensures t e ∙ ap (λ w. cond (eqb temp t) bit (in_word w t)) c.word-old.ensures))
    c.with_word.ensures.words
