use Rattle.std.proofs.Common.{◌≡◌, ◌≤◌, ◌-◌, length, take, vec_len}
use Rattle.mv_harts_turns.specs.Runs.{Ran, outside}
use Rattle.mv_harts_turns.proofs.schedule.run.Given as goal

abbrev pub invariant-loop-time : goal.invariant-loop-time
invariant-loop-time g l =
    let was = l.initial.oracle in
    let is = l.oracle in
    record {
      within : l.time ≤ length l.schedule;
      ran : Ran l.image l.actions (vec_len l.initial.sources) (take l.time l.schedule)
          (outside g.I.Source.left g.O.Sink.written g.I.Source.faults g.O.Sink.faults l.initial.sources.items l.initial.sinks.items ((goal.FetchOracle-dyn g (was.vtable, was.value)).way was.value))
          (outside g.I.Source.left g.O.Sink.written g.I.Source.faults g.O.Sink.faults l.sources.items l.sinks.items ((goal.FetchOracle-dyn g (is.vtable, is.value)).way is.value)) l.group;
      sources : vec_len l.sources ≡ vec_len l.initial.sources;
      sinks : vec_len l.sinks ≡ vec_len l.initial.sinks;
    }

abbrev pub decreases-loop-time : goal.decreases-loop-time
decreases-loop-time g l = length l.schedule - l.time
