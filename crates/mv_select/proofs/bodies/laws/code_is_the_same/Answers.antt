use Rattle.mv_select.proofs.OfBodies.SamePlaces as same
use Rattle.mv_select.proofs.bodies.laws.code_is_the_same.Goals as goal

pub returns : goal.returns
returns c = same.code_is_the_same
