use Rattle.mv_refine_machine.proofs.OfStubs.Ending.{exits}
use Rattle.mv_refine_machine.proofs.stubs.laws.exit_is_right.Goals as goal

pub returns : goal.returns
returns c attributed closed image input polls picks place entry main_label end p i w h =
    exits c.calm_is_tested.ensures c.runs_are_runs.ensures c.environment_calls.ensures attributed closed image input polls picks place entry main_label end p i w h
