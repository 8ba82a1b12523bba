use Rattle.std.proofs.Common.{◌≡◌, drop}
use Rattle.mv_select_code.specs.Trees.TreeCode.{pinned_in}
use Rattle.mv_select_code.proofs.trees.places.pinned.Given as goal

abbrev pub invariant-loop-pin : goal.invariant-loop-pin
invariant-loop-pin l = pinned_in (drop l.pin-index l.pins) l.number ≡ pinned_in l.pins l.number
