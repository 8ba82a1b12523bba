use Rattle.mv_refine_machine.proofs.OnRuns.{runs_are}
use Rattle.mv_refine_machine.proofs.laws.runs_are_runs.Goals as goal

pub returns : goal.returns
returns c = runs_are
