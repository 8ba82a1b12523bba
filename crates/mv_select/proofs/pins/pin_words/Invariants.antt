use Rattle.std.proofs.Common.{◌≡◌, ◌+◌, ◌*◌, ◌≤◌, drop}
use Rattle.mv_select.specs.Functions.Pins.{pin_words}
use Rattle.mv_select.proofs.pins.pin_words.Given as goal

abbrev pub invariant-loop-pin : goal.invariant-loop-pin
invariant-loop-pin l = (l.words + pin_words (drop l.pin-index l.pins) ≡ pin_words l.pins) × (l.words ≤ 2 * l.pin-index)
