use Rattle.mv_refine_machine.proofs.Bound.{bindings_show}
use Rattle.mv_refine_machine.proofs.laws.bindings_are_shown.Goals as goal

pub returns : goal.returns
returns c = bindings_show
