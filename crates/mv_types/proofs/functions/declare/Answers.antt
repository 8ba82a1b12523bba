use Rattle.mv_types.specs.Functions.{function_judgement}
use Rattle.mv_types.proofs.functions.declare.Goals as goal

pub returns : goal.returns
unfolding function_judgement
returns c = rw c.in_ok-before.ensures at c.declare_behind.ensures
