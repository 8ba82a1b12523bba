use Rattle.std.proofs.Common.{◌≡◌, [], drop}
use Rattle.mv_select.specs.Functions.Pins.{numbers_from}
use Rattle.mv_select.proofs.pins.numbers.Given as goal

abbrev pub invariant-loop-one : goal.invariant-loop-one
invariant-loop-one l = numbers_from l.numbers (drop l.one-index l.uses) ≡ numbers_from [] l.uses
