use Rattle.std.proofs.Common.{◌≡◌, length}
use Rattle.mv_parts.proofs.Functions.{EachGeneral}
use Rattle.mv_parts.proofs.generics.generics_of.Given as goal

abbrev pub invariant-loop-body : goal.invariant-loop-body
invariant-loop-body l = record { one_each : length l.generics ≡ l.body-index; each : EachGeneral l.program l.generics }
