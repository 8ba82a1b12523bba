use Rattle.std.proofs.Common.{◌≡◌, ◌++◌, drop}
use Rattle.mv_select.specs.Functions.Pins.{pin_lines}
use Rattle.mv_select.proofs.functions.frames.push_pins.Given as goal

abbrev pub invariant-loop-pin : goal.invariant-loop-pin
invariant-loop-pin l = l.code ++ pin_lines (drop l.pin-index l.pins) ≡ l.initial.code ++ pin_lines l.pins
