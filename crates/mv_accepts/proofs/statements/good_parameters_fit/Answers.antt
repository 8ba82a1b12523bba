use Rattle.mv_accepts.proofs.OfStatements.Typed.{parameters_fit}
use Rattle.mv_accepts.proofs.statements.good_parameters_fit.Goals as goal

pub returns : goal.returns
returns c = parameters_fit c.good_expressions_are_typed.ensures.value c.good_expressions_are_typed.ensures.effect
