use Rattle.mv_lower_spec.proofs.OfCalls.KeepingCalls.{bindings_kept}
use Rattle.mv_lower_spec.proofs.calls.laws.calls_keep_bindings.Goals as goal

pub returns : goal.returns
returns c = bindings_kept
