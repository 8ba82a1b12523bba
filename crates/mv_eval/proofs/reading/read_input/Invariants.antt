use Rattle.std.proofs.Common.{◌≡◌, ◌≤◌, ◌-◌, length}
use Rattle.mv_eval.specs.Evaluations.{most}
use Rattle.mv_io.specs.Outside.{Lost}
use Rattle.mv_eval.proofs.reading.read_input.Given as goal

abbrev pub invariant-reading : goal.invariant-reading
invariant-reading g l = record {
  few : length l.bytes ≤ most;
  lost : Lost (g.S.Source.left l.initial.source) (g.S.Source.left l.source) l.bytes;
  stands : g.S.Source.faults l.source ≡ g.S.Source.faults l.initial.source;
}

abbrev pub decreases-reading : goal.decreases-reading
decreases-reading g l = most - length l.bytes
