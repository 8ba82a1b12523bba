use Rattle.std.proofs.Common.{◌≡◌, length, map, take}
use Rattle.std.specs.List.{zip}
use Rattle.mv_actions.specs.Controls.{control_of_row}
use Rattle.mv_actions.proofs.controls.controls_in.Given as goal

abbrev pub invariant-loop-name : goal.invariant-loop-name
invariant-loop-name l = l.controls.items ≡ map control_of_row (take (length l.yielded) (zip l.image.names l.image.switches))
