use Rattle.mv_accepts.proofs.OfStatements.Typed.{body_typed, any_grows}
use Rattle.mv_accepts.proofs.statements.good_bodies_are_typed.Goals as goal

pub returns-clause-grows : goal.returns-clause-grows
returns-clause-grows c = any_grows c.good_expressions_are_typed.ensures.value c.good_expressions_are_typed.ensures.effect

pub returns-clause-typed : goal.returns-clause-typed
returns-clause-typed c p f body before after ss q signatures locals fits =
    body_typed p f c.good_expressions_are_typed.ensures.value c.good_expressions_are_typed.ensures.effect body before after ss q signatures locals fits
