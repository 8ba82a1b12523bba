use Rattle.mv_accepts.proofs.OfBodies.Definitions.{has_parameters, definition_formed}
use Rattle.mv_accepts.proofs.bodies.good_definitions_are_well_formed.Goals as goal

pub returns-clause-parameters : goal.returns-clause-parameters
returns-clause-parameters c = has_parameters c.good_bodies_are_typed.ensures.grows c.good_parameters_fit.ensures

pub returns-clause-formed : goal.returns-clause-formed
returns-clause-formed c p own f params body before after d signatures has none fits shaped =
    definition_formed c.good_bodies_are_typed.ensures.grows c.good_parameters_fit.ensures f params body before after d p own c.good_bodies_are_typed.ensures.typed
    c.good_bodies_are_well_formed.ensures c.good_bodies_name_declared_locals.ensures c.good_parameters_are_shaped.ensures signatures has none fits shaped
