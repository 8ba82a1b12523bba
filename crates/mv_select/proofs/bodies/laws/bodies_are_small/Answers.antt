use Rattle.mv_select.proofs.OfBodies.Small as small
use Rattle.mv_select.proofs.bodies.laws.bodies_are_small.Goals as goal

pub returns : goal.returns
returns c = small.bodies_are_small
