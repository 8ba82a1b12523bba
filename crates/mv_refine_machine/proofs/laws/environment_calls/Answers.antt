use Rattle.mv_refine_machine.proofs.Answering.{answered_calls}
use Rattle.mv_refine_machine.proofs.laws.environment_calls.Goals as goal

pub returns : goal.returns
returns c closed image input polls picks = answered_calls image input polls picks closed
