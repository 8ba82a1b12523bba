use Rattle.std.proofs.Common.{◌≡◌, drop}
use Rattle.std.specs.List.{list_any}
use Rattle.mv_descriptors.specs.Guards.{holds}
use Rattle.mv_descriptors.proofs.guards.one_holds.Given as goal

abbrev pub invariant-loop-row : goal.invariant-loop-row
invariant-loop-row l = list_any (holds l.kinds l.values) l.rows ≡ list_any (holds l.kinds l.values) (drop l.row-index l.rows)
