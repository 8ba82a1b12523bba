use Rattle.mv_propagate.specs.Propagating.{Uncalled}
use Rattle.mv_propagate.proofs.facts.uncalled.Given as goal

abbrev pub invariant-loop-known : goal.invariant-loop-known
invariant-loop-known l = Uncalled l.result_temp l.facts l.kept
