use Rattle.std.proofs.Common.{refl, sym, ap, ◌∙◌, arith}
use Rattle.mv_fetch.specs.Held.{Room}
use Rattle.mv_machine.specs.Runs.{stored_words, spelled_pairs}
use Rattle.mv_machine.proofs.Storing.{next_stored, no_pair, plan_begins}
use Rattle.mv_machine.proofs.plans.write_plan.Goals as goal

pub loop-pair-init : goal.loop-pair-init
loop-pair-init c = record {
  place = refl;
  rest = ap (λ (m : Room). stored_words m 4194308 (spelled_pairs c.args.pairs.now)) c.store_word.ensures ∙ plan_begins c.args.memory.now c.args.pairs.now;
}

pub loop-pair-preserved : goal.loop-pair-preserved
loop-pair-preserved c =
    let l = c.loop-pair in
    record {
      place = omega (arith, l.invariant.place);
      rest = next_stored l.memory c.store_word-in-loop-pair.new.memory c.store_word-in-loop-pair-2.new.memory l.address l.pair-index c.args.pairs.now _ c.loop-pair-test.true
          c.store_word-in-loop-pair.ensures c.store_word-in-loop-pair-2.ensures ∙ l.invariant.rest;
    }

pub returns : goal.returns
returns c =
    let l = c.loop-pair in sym (no_pair l.memory l.address l.pair-index c.args.pairs.now (omega (arith, c.loop-pair-test.false))) ∙ l.invariant.rest
