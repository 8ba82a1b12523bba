use Rattle.mv_accepts.proofs.OfBodies.KnownStatements.{params_shaped}
use Rattle.mv_accepts.proofs.bodies.good_parameters_are_shaped.Goals as goal

pub returns : goal.returns
returns c = params_shaped
