use Rattle.std.proofs.Common.{◌≡◌, ◌≤◌, ◌++◌, length, vec_capacity}
use Rattle.mv_image.specs.Faults.{Rules}
use Rattle.mv_patch.specs.Orders.{values_of}
use Rattle.mv_patch.specs.Tables.{patched_places, changes_at, IsPassed, count_passed, places_left}
use Rattle.mv_patch.proofs.changes.find_changes.Given as goal

abbrev pub invariant-loop-place : goal.invariant-loop-place
invariant-loop-place l = record {
  passed : IsPassed l.image l.passed;
  count : count_passed l.passed ≡ l._place;
  few : length l.pairs.items ≤ l._place;
  room : vec_capacity l.fn.pairs ≤ vec_capacity l.pairs;
  found :
      Rules l.image →
      l.pairs.items ++ changes_at l.image (values_of l.before.bound.now) (values_of l.after.bound.now) (places_left l.image l.passed) ≡
      changes_at l.image (values_of l.before.bound.now) (values_of l.after.bound.now) (patched_places l.image);
}
