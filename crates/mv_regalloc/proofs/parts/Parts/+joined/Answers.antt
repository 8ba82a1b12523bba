use Rattle.std.proofs.Common.{◌<◌, length, sym, ap, ◌∙◌, subst, bit_or}
use Rattle.std.specs.Int.Bits.{or_self, or_zero_l, or_zero_r}
use Rattle.mv_regalloc.specs.declared.parts.Part.{Part}
use Rattle.mv_regalloc.specs.Parts.{part_at, word_of}
use Rattle.mv_regalloc.proofs.PartWords.{if_ok_by, join_before, join_words, keeps_two, made_join}
use Rattle.mv_regalloc.proofs.parts.Parts.+joined.Goals.{then-one-other-via-then-one-other, then-one-other-via-else-one-other+then-other-none}
use Rattle.mv_regalloc.proofs.parts.Parts.+joined.Goals as goal

pub returns-then-one-other-clause-words : goal.returns-then-one-other-clause-words
returns-then-one-other-clause-words t c =
    let a = c.args.self.now in
    let one = c.args.one in
    elim c.then-one-other.branch [
      | then-one-other-via-then-one-other w ↦ λ p. sym (or_self (word_of a one p)) ∙ ap (λ n. bit_or (word_of a one p) (word_of a n p)) w.if-one-other.true
      | then-one-other-via-else-one-other+then-other-none w ↦ λ p. sym (or_zero_r (word_of a one p)) ∙ ap (bit_or (word_of a one p)) (sym (ap (λ n. word_of a n p) w.if-other-none.true ∙ c.none-none.ensures.words p))
    ]

pub returns-then-one-none-clause-words : goal.returns-then-one-none-clause-words
returns-then-one-none-clause-words t c =
    let a = c.args.self.now in
    let other = c.args.other in
    λ p. sym (or_zero_l (word_of a other p)) ∙ ap (λ w. bit_or w (word_of a other p)) (sym (ap (λ n. word_of a n p) c.if-one-none.true ∙ c.none-none.ensures.words p))

pub remember-requires : goal.remember-requires
remember-requires t c =
    let a = c.args.self.now in
    let one = c.args.one in
    let other = c.args.other in
    let b = c.joined.new.self in
    let d = c.joined-2.new.self in
    let last = c.made_as.new.self in
    let first = c.part-first.ensures.part in
    let second = c.part-second.ensures.part in
    let odd = c.in_ok-odd.odd in
    let even = c.in_ok-even.even in
    let h = c.in_ok-odd.ensures in
    let k = c.in_ok-even.ensures in
    let m = c.made_as.ensures.keeps in
    made_join a last (keeps_two a d last (keeps_two a b d h.keeps k.keeps) m) one other c.in_ok-made.made c.requires.one c.requires.other c.in_ok-made.ensures.within
    (join_words a b d last h.keeps k.keeps m one other odd even c.in_ok-made.made
    (subst (λ q. q.even < length a) first c.part-first.ensures.even_within) (subst (λ q. q.even < length a) second c.part-second.ensures.even_within) h.within k.within
    (λ p. h.words p ∙ ap (λ q. bit_or (word_of a q.odd p) (word_of a c.part-second.result.odd p)) first ∙ ap (λ q. bit_or (word_of a (part_at a one).odd p) (word_of a q.odd p)) second)
    (λ p. k.words p ∙ ap (λ q. bit_or (word_of b q.even p) (word_of b c.part-second.result.even p)) first ∙ ap (λ q. bit_or (word_of b (part_at a one).even p) (word_of b q.even p)) second)
    (c.in_ok-made.ensures.part ∙ ap
    (λ q. let r : Part = record { word = bit_or q.word c.part-second.result.word; odd = odd; even = even } in r) first ∙
    ap (λ q. let r : Part = record { word = bit_or (part_at a one).word q.word; odd = odd; even = even } in r) second))

pub returns-clause-words : goal.returns-clause-words
returns-clause-words t c =
    let a = c.args.self.now in
    let b = c.joined.new.self in
    let d = c.joined-2.new.self in
    let last = c.made_as.new.self in
    let kept = keeps_two a d last (keeps_two a b d c.in_ok-odd.ensures.keeps c.in_ok-even.ensures.keeps) c.made_as.ensures.keeps in
    if_ok_by c.remember.result
    (λ made j p. ap (λ l. word_of l made p) c.remember.ensures.same ∙ join_before a last kept c.args.one c.args.other made c.requires.one c.requires.other j p) c.remember.ensures.joined
