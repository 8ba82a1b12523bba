use Rattle.std.proofs.Common.{ap, ◌∙◌, arith}
use Rattle.mv_regalloc.specs.LiveBits.{in_word, word_bit}
use Rattle.mv_regalloc.proofs.Turning.{place_marked, place_past}
use Rattle.mv_regalloc.proofs.told.mark_word.Goals as goal

pub returns-then-place-len-clause-bits : goal.returns-then-place-len-clause-bits
returns-then-place-len-clause-bits c = λ t l.
    ap (λ ws. word_bit ws t) c.set.ensures.items ∙ place_marked c.args.told.now c.args.place c.args.word c.item-old.result (omega (arith, c.if-place-len.true, c.len.ensures)) c.item-old.ensures t

pub returns-else-place-len-clause-bits : goal.returns-else-place-len-clause-bits
returns-else-place-len-clause-bits c = λ t l.
    place_past c.args.place (in_word c.args.word t) (word_bit c.args.told.now t) t (λ e. omega (arith, e, l, c.if-place-len.false, c.len.ensures))
