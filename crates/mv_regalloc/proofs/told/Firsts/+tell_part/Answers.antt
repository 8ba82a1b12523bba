use Rattle.std.proofs.Common.{ap, ◌∙◌}
use Rattle.mv_regalloc.specs.Parts.{word_of}
use Rattle.mv_regalloc.proofs.Telling.{call_told, none_seen, part_same, part_seen}
use Rattle.mv_regalloc.proofs.told.Firsts.+tell_part.Goals as goal
use Rattle.mv_regalloc.proofs.told.Firsts.+tell_part.Goals.{then-number-none-via-then-number-none, then-number-none-via-else-number-none+then-has_seen}

pub returns-then-number-none-clause-told : goal.returns-then-number-none-clause-told
returns-then-number-none-clause-told t c =
    let parts = c.args.parts.now in
    let number = c.args.number in
    let at = c.args.at in
    let s = c.args.self.now in
    elim c.then-number-none.branch [
      | then-number-none-via-then-number-none w ↦
          part_seen parts number at.first at.step c.args.value s (none_seen parts number at.first at.step s (λ p. ap (λ n. word_of parts n p) w.if-number-none.true ∙ c.none.ensures.words p))
      | then-number-none-via-else-number-none+then-has_seen w ↦ part_seen parts number at.first at.step c.args.value s (w.has_seen.ensures w.if-has_seen.true)
    ]

pub see-requires-clause-all : goal.see-requires-clause-all
see-requires-clause-all t c =
    (call_told c.args.parts.now c.args.number c.args.value c.part-part.result c.args.at c.in_ok-odd.odd c.in_ok-even.even c.args.self.now c.tell_word.new.self c.tell_part.new.self c.tell_part-2.new.self
    c.part-part.ensures.part c.in_ok-odd.ensures c.in_ok-even.ensures c.requires.words c.tell_word.ensures.long c.tell_word.ensures.values c.tell_word.ensures.told c.in_ok-tell_part.ensures.told c.in_ok-tell_part-2.ensures.told).all

pub returns-clause-told : goal.returns-clause-told
returns-clause-told t c =
    part_same c.args.parts.now c.args.number c.args.at.first c.args.at.step c.args.value c.args.self.now c.tell_part-2.new.self c.see.new.self c.see.ensures.values c.see.ensures.told
    (call_told c.args.parts.now c.args.number c.args.value c.part-part.result c.args.at c.in_ok-odd.odd c.in_ok-even.even c.args.self.now c.tell_word.new.self c.tell_part.new.self c.tell_part-2.new.self
    c.part-part.ensures.part c.in_ok-odd.ensures c.in_ok-even.ensures c.requires.words c.tell_word.ensures.long c.tell_word.ensures.values c.tell_word.ensures.told c.in_ok-tell_part.ensures.told c.in_ok-tell_part-2.ensures.told)
