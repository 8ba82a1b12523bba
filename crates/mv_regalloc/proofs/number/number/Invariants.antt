use Rattle.std.proofs.Common.{◌≡◌, ◌-◌, length}
use Rattle.mv_ir.specs.Live.{all_marks}
use Rattle.mv_regalloc.specs.Scan.{scan}
use Rattle.mv_regalloc.specs.Intervals.{by_first, range, given}
use Rattle.mv_regalloc.specs.Tracked.{Tracks}
use Rattle.mv_regalloc.proofs.number.number.Given as goal

abbrev pub invariant-loop-at : goal.invariant-loop-at
invariant-loop-at l = record {
  tracks : Tracks (scan (given (all_marks l.body) l.body.params) (by_first (all_marks l.body) (range l.body.params (l.body.temps - l.body.params)) 0 l.at)) l.ends l.numbers;
  long : length l.numbers ≡ l.body.temps;
}
