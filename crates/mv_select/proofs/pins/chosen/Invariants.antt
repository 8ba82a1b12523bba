use Rattle.std.proofs.Common.{◌≡◌, ◌-◌}
use Rattle.std.specs.Fn.{iterate}
use Rattle.mv_select.specs.Functions.Pins.{pin_heaviest, chosen}
use Rattle.mv_select.proofs.OfFunctions.PinsChosen.{AreFew}
use Rattle.mv_select.proofs.pins.chosen.Given as goal

abbrev pub invariant-loop-turn : goal.invariant-loop-turn
invariant-loop-turn l =
    AreFew l.keeping l.first l.room l.pins × (iterate (pin_heaviest l.keeping l.first l.room l.all) (9 - l._turn) l.pins ≡ chosen l.keeping l.first l.room l.all)
