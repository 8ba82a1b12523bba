use Rattle.mv_refine_machine.proofs.Serving.{serves_calls}
use Rattle.mv_refine_machine.proofs.laws.known_calls_are_served.Goals as goal

pub returns : goal.returns
returns c attributed closed image input polls picks bytes y budget far numbers p = serves_calls attributed closed image input polls picks bytes y budget far numbers p
