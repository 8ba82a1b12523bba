use Rattle.mv_refine_machine.proofs.Under.{runs_are_under}
use Rattle.mv_refine_machine.proofs.laws.runs_are_runs_under.Goals as goal

pub returns : goal.returns
returns c = runs_are_under
