use Rattle.mv_refine_machine.proofs.Starts.{run_begins}
use Rattle.mv_refine_machine.proofs.laws.runs_begin_in_calm.Goals as goal

pub returns : goal.returns
returns c attributed closed image input polls picks s w first = run_begins image input polls picks _ (record { input = first.input; output = first.output; bindings = first.bindings; log = first.log })
