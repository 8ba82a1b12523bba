use Rattle.std.proofs.Common.{◌≡◌, ◌+◌, ◌*◌, drop}
use Rattle.mv_machine.specs.Runs.{plan_area, stored_words, spelled_pairs, with_plan}
use Rattle.mv_machine.proofs.plans.write_plan.Given as goal

abbrev pub invariant-loop-pair : goal.invariant-loop-pair
invariant-loop-pair l = record {
  place : l.address ≡ plan_area + 4 + 8 * l.pair-index;
  rest : stored_words l.memory l.address (spelled_pairs (drop l.pair-index l.pairs)) ≡ with_plan l.fn.memory l.pairs;
}
