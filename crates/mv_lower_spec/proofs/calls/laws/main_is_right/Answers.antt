use Rattle.mv_lower_spec.proofs.OfCalls.Main.{main_right}
use Rattle.mv_lower_spec.proofs.calls.laws.main_is_right.Goals as goal

pub returns : goal.returns
returns c = main_right c.numbering_law.ensures.any c.numbering_law.ensures.strays
