use Rattle.mv_lower_spec.proofs.OfCalls.Bodies.{bodies_right}
use Rattle.mv_lower_spec.proofs.calls.laws.bodies_are_right.Goals as goal

pub returns : goal.returns
returns c = bodies_right
