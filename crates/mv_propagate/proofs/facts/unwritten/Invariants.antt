use Rattle.mv_propagate.specs.Propagating.{Unwritten}
use Rattle.mv_propagate.proofs.facts.unwritten.Given as goal

abbrev pub invariant-loop-known : goal.invariant-loop-known
invariant-loop-known l = Unwritten l.temp l.facts l.kept
