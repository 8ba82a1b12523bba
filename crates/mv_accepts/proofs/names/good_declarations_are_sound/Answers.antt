use Rattle.mv_accepts.proofs.OfStatements.Judging.{of_good}
use Rattle.mv_types.specs.Units.{item_judgement}
use Rattle.mv_accepts.proofs.OfNames.Extending.{To}
use Rattle.mv_accepts.proofs.OfNames.Units.{item_sound}
use Rattle.mv_accepts.proofs.names.good_declarations_are_sound.Goals as goal

pub returns : goal.returns
returns c k i before after known sound q =
    of_good (To k before) (item_judgement k i before) (item_sound c.good_parameters_fit.ensures c.good_bodies_are_typed.ensures.grows k i known before) after q sound
