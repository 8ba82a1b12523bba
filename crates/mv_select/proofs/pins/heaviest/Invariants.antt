use Rattle.std.proofs.Common.{◌≡◌, drop}
use Rattle.mv_select.specs.Functions.Pins.{no_number, heaviest}
use Rattle.mv_select.proofs.pins.heaviest.Given as goal

abbrev pub invariant-loop-one : goal.invariant-loop-one
invariant-loop-one l = heaviest l.room l.pins l.best (drop l.one-index l.all) ≡ heaviest l.room l.pins no_number l.all
