use Rattle.mv_accepts.proofs.OfGlobals.FirstWords.{first_values}
use Rattle.mv_accepts.proofs.OfGlobals.FirstObjects.{first_kept, globals_first}
use Rattle.mv_accepts.proofs.globals.good_first_values_are_typed.Goals as goal

pub returns-clause-words : goal.returns-clause-words
returns-clause-words c = first_values c.constants_come_to_their_values.ensures c.good_expressions_are_typed.ensures.value

pub returns-clause-objects : goal.returns-clause-objects
returns-clause-objects c = first_kept (first_values c.constants_come_to_their_values.ensures c.good_expressions_are_typed.ensures.value)

pub returns-clause-globals : goal.returns-clause-globals
returns-clause-globals c = globals_first
