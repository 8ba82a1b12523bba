use Rattle.mv_refine_machine.proofs.OfStubs.Ending.{traps}
use Rattle.mv_refine_machine.proofs.stubs.laws.trap_is_right.Goals as goal

pub returns : goal.returns
returns c attributed closed image input polls picks code ge le place entry at end p i w h =
    traps c.calm_is_tested.ensures c.runs_are_runs.ensures c.environment_calls.ensures attributed closed image input polls picks place entry code ge le at end p i w h
