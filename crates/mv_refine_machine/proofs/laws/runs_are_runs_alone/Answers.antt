use Rattle.mv_refine_machine.proofs.OnRuns.{runs_are_alone}
use Rattle.mv_refine_machine.proofs.laws.runs_are_runs_alone.Goals as goal

pub returns : goal.returns
returns c = runs_are_alone
