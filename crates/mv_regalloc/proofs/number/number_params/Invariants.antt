use Rattle.std.proofs.Common.{◌≡◌, [], length}
use Rattle.mv_ir.specs.Live.{all_marks}
use Rattle.mv_regalloc.specs.Intervals.{given}
use Rattle.mv_regalloc.specs.Tracked.{Tracks}
use Rattle.mv_regalloc.proofs.number.number_params.Given as goal

abbrev pub invariant-loop-temp : goal.invariant-loop-temp
invariant-loop-temp l = record {
  tracks : Tracks [] l.fn.ends l.fn.numbers → Tracks (given (all_marks l.body) l.temp) l.ends l.numbers;
  long : length l.numbers ≡ length l.fn.numbers;
}
