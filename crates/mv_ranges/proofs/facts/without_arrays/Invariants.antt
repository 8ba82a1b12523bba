use Rattle.std.proofs.Common.{◌≡◌, take}
use Rattle.mv_ir.specs.Outcome.{State}
use Rattle.mv_ranges.specs.Facts.{AllHold}
use Rattle.mv_ranges.proofs.facts.without_arrays.Given as goal

abbrev pub invariant-loop-fact : goal.invariant-loop-fact
invariant-loop-fact l = (s s' : State) → AllHold s (take l.fact-index l.facts) → s'.temps ≡ s.temps → AllHold s' l.kept
