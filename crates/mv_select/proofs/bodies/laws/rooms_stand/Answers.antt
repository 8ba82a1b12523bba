use Rattle.mv_select.proofs.OfBodies.RoomsStand as stand
use Rattle.mv_select.proofs.bodies.laws.rooms_stand.Goals as goal

pub returns : goal.returns
returns c = stand.rooms_stand
