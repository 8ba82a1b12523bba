use Rattle.std.proofs.Common.{◌≡◌, [], length}
use Rattle.std.specs.Prelude.{All}
use Rattle.mv_harts.specs.declared.devices.Keeping.{Keeping}
use Rattle.mv_harts.proofs.devices.sinks_of.Given as goal

abbrev pub invariant-loop : goal.invariant-loop
invariant-loop l = record { count : length l.sinks.items ≡ l.counter; empty : All (λ (sink : Keeping). sink.bytes.items ≡ []) l.sinks.items }
