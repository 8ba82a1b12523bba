use Rattle.std.proofs.Common.{slice_index}
use Rattle.mv_ir.specs.Outcome.{State}
use Rattle.mv_ir.specs.Meaning.{with_temp}
use Rattle.mv_ranges.specs.Facts.{AllHold, AreKnown}
use Rattle.mv_ranges.proofs.walk.bounded.Given as goal

abbrev pub invariant-loop-fact : goal.invariant-loop-fact
invariant-loop-fact l = (s : State) → AreKnown l.ground.temps l.facts s →
    AllHold (with_temp s l.temp (slice_index s.temps l.from)) l.initial.after → AllHold (with_temp s l.temp (slice_index s.temps l.from)) l.after
