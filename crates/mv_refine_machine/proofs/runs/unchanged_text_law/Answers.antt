use Rattle.mv_refine_machine.proofs.OfRuns.Unchanged.{live_refuse, free_is_own}
use Rattle.mv_refine_machine.proofs.runs.unchanged_text_law.Goals as goal

pub returns-clause-live : goal.returns-clause-live
returns-clause-live c = live_refuse

pub returns-clause-free : goal.returns-clause-free
returns-clause-free c = free_is_own
