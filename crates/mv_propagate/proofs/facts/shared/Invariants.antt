use Rattle.mv_propagate.specs.Propagating.{Fewer}
use Rattle.mv_propagate.proofs.facts.shared.Given as goal

abbrev pub invariant-loop-known : goal.invariant-loop-known
invariant-loop-known l = Fewer l.facts l.kept × Fewer l.others l.kept
