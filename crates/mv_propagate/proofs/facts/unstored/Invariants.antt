use Rattle.mv_propagate.specs.Propagating.{Unstored}
use Rattle.mv_propagate.proofs.facts.unstored.Given as goal

abbrev pub invariant-loop-known : goal.invariant-loop-known
invariant-loop-known l = Unstored l.array l.facts l.kept
