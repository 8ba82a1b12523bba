use Rattle.mv_lower_spec.proofs.OfCalls.Globals.{globals_kept}
use Rattle.mv_lower_spec.proofs.calls.laws.globals_keep_their_sizes.Goals as goal

pub returns : goal.returns
returns c = globals_kept
