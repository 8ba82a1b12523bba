use Rattle.std.proofs.Common.{◌≡◌, ◌++◌, map, drop}
use Rattle.mv_select.specs.Functions.Pins.{weigh}
use Rattle.mv_select.proofs.pins.weigh.Given as goal

abbrev pub invariant-loop-number : goal.invariant-loop-number
invariant-loop-number l = l.all ++ map (weigh l.uses) (drop l.number-index l.numbers) ≡ map (weigh l.uses) l.numbers
