use Rattle.std.proofs.Common.{take}
use Rattle.mv_ir.specs.Outcome.{State}
use Rattle.mv_ranges.specs.Facts.{AllHold}
use Rattle.mv_ranges.proofs.facts.joined.Given as goal

abbrev pub invariant-loop-fact : goal.invariant-loop-fact
invariant-loop-fact l =
    ((s : State) → AllHold s (take l.fact-index l.a) → AllHold s l.both) × ((s : State) → AllHold s l.b → AllHold s l.both)
