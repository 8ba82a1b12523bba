use Rattle.std.proofs.Common.{◌≡◌, ◌<◌, List, length, map, take}
use Rattle.std.specs.Prelude.{slice_index, EachIndex}
use Rattle.mv_regalloc.specs.Scan.{Placed, scan}
use Rattle.mv_regalloc.specs.Tracked.{Tracks, end_of, interval_from}
use Rattle.mv_regalloc.proofs.number.number_at.Given as goal

abbrev pub invariant-loop-temp : goal.invariant-loop-temp
invariant-loop-temp l = record {
  tracks : (done : List Placed) → EachIndex l.temps (λ k. l.at < end_of l.spans (slice_index l.temps k)) → Tracks done l.fn.ends l.fn.numbers →
      Tracks (scan done (map (interval_from l.spans l.at) (take l.temp-index l.temps))) l.ends l.numbers;
  long : length l.numbers ≡ length l.fn.numbers;
}
