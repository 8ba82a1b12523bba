use Rattle.mv_refine_machine.proofs.OnRuns.{steps_are_taken}
use Rattle.mv_refine_machine.proofs.laws.bound_steps_are_taken.Goals as goal

pub returns : goal.returns
returns c = steps_are_taken
