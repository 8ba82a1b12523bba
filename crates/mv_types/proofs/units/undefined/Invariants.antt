use Rattle.std.proofs.Common.{◌≡◌, None}
use Rattle.std.specs.Prelude.{replicate}
use Rattle.mv_types.proofs.units.undefined.Given as goal

abbrev pub invariant-loop : goal.invariant-loop
invariant-loop l = l.functions ≡ replicate l.counter None
