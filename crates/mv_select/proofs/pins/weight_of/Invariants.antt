use Rattle.std.proofs.Common.{◌≡◌, ◌+◌, ◌*◌, ◌^◌, ◌≤◌, drop}
use Rattle.mv_select.specs.Functions.Pins.{weight_of}
use Rattle.mv_select.proofs.pins.weight_of.Given as goal

abbrev pub invariant-loop-one : goal.invariant-loop-one
invariant-loop-one l = (l.weight + weight_of (drop l.one-index l.uses) l.n ≡ weight_of l.uses l.n) × (l.weight ≤ 2 ^ 32 * l.one-index)
