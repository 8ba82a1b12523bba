use Rattle.std.proofs.Common.{◌≡◌, ◌<◌, ◌∙◌, ap, sym, subst, length, arith}
use Rattle.std.proofs.lemmas.List.{length-replicate}
use Rattle.std.specs.Prelude.{All}
use Rattle.mv_harts_words.proofs.Turns.{no_turns, turn_set, all_turns, turns_below, word_first, word_more}
use Rattle.mv_harts_words.proofs.schedule.schedule_of.Goals as goal

pub loop-turn-init : goal.loop-turn-init
loop-turn-init c = record {
  word = word_first c.args.number;
  turns = no_turns c.args.count c.args.number c.args.turns c.in_ok-schedule.schedule.items c.in_ok-schedule.ensures;
}

pub loop-turn-preserved : goal.loop-turn-preserved
loop-turn-preserved c =
    let long : length c.in_ok-schedule.schedule.items ≡ c.args.turns = ap length c.in_ok-schedule.ensures ∙ length-replicate c.args.turns 0 in
    let word = word_more c.args.number c.loop-turn.turn c.loop-turn.word c.next-word.result c.loop-turn.invariant.word c.next-word.ensures in
    let below : c.loop-turn.turn < c.args.turns = omega (arith, c.loop-turn-test.true, c.len-turn-end.ensures, long) in
    record {
      word = word;
      turns = turn_set c.args.count c.args.number c.args.turns c.loop-turn.turn c.next-word.result c.hart_of.result c.loop-turn.schedule.items c.loop-turn.invariant.turns below word c.hart_of.ensures.whose;
    }

pub returns-clause-turns : goal.returns-clause-turns
returns-clause-turns c =
    let long : length c.in_ok-schedule.schedule.items ≡ c.args.turns = ap length c.in_ok-schedule.ensures ∙ length-replicate c.args.turns 0 in
    let done : c.loop-turn.turn ≡ c.args.turns = omega (arith, c.loop-turn-test.false, c.loop-turn.auto.turn-end, c.len-turn-end.ensures, long) in
    all_turns c.args.count c.args.number c.args.turns c.loop-turn.turn c.loop-turn.schedule.items c.loop-turn.invariant.turns done

pub returns-clause-below : goal.returns-clause-below
returns-clause-below c =
    let long : length c.in_ok-schedule.schedule.items ≡ c.args.turns = ap length c.in_ok-schedule.ensures ∙ length-replicate c.args.turns 0 in
    let done : c.loop-turn.turn ≡ c.args.turns = omega (arith, c.loop-turn-test.false, c.loop-turn.auto.turn-end, c.len-turn-end.ensures, long) in
    subst (All (λ hart. hart < c.args.count)) (sym (all_turns c.args.count c.args.number c.args.turns c.loop-turn.turn c.loop-turn.schedule.items c.loop-turn.invariant.turns done))
    (turns_below c.args.count c.args.number c.args.turns c.requires)
