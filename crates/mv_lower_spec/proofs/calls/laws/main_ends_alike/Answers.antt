use Rattle.mv_lower_spec.proofs.OfCalls.Main.{main_alike}
use Rattle.mv_lower_spec.proofs.calls.laws.main_ends_alike.Goals as goal

pub returns : goal.returns
returns c = main_alike c.numbering_law.ensures.any c.numbering_law.ensures.strays
