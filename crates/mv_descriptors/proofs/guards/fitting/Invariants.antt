use Rattle.std.proofs.Common.{◌≡◌, ◌+◌, ◌≤◌, drop, length}
use Rattle.mv_descriptors.specs.Guards.{holds, fitting}
use Rattle.mv_descriptors.proofs.guards.fitting.Given as goal

abbrev pub invariant-loop-i : goal.invariant-loop-i
invariant-loop-i l = record {
  within : l.at ≤ length l.rows;
  left : fitting (holds l.kinds l.values) l.first l.variants l.rows ≡ fitting (holds l.kinds l.values) (l.first + l.i) (drop l.i l.variants) (drop l.at l.rows);
}
