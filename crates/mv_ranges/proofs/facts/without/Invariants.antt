use Rattle.std.proofs.Common.{take}
use Rattle.mv_ir.specs.Outcome.{State}
use Rattle.mv_ranges.specs.Facts.{AllHold, AreAsLong, AreSameBut}
use Rattle.mv_ranges.proofs.facts.without.Given as goal

abbrev pub invariant-loop-fact : goal.invariant-loop-fact
invariant-loop-fact l = (s s' : State) → AllHold s (take l.fact-index l.facts) → AreSameBut l.temp s s' → AreAsLong s s' → AllHold s' l.kept
