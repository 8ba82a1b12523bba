use Rattle.std.proofs.Common.{◌≡◌, true}
use Rattle.mv_descriptors.specs.Guards.{each_below, value_fits}
use Rattle.mv_descriptors.proofs.guards.holds.Given as goal

abbrev pub invariant-loop-i : goal.invariant-loop-i
invariant-loop-i l = each_below (value_fits l.kinds l.values l.row) l.i ≡ true
