use Rattle.mv_select.proofs.OfBodies.Functions as functions
use Rattle.mv_select.proofs.bodies.laws.bodies_are_functions.Goals as goal

pub returns : goal.returns
returns c = functions.bodies_are_functions
