use Rattle.mv_accepts.proofs.OfBodies.DeclaredStatements.{names_declared_hold}
use Rattle.mv_accepts.proofs.bodies.good_bodies_name_declared_locals.Goals as goal

pub returns : goal.returns
returns c = names_declared_hold
