use Rattle.std.proofs.lemmas.List.Elements.{recursion_from_All}
use Rattle.mv_accepts.proofs.OfStatements.Judging.{of_good}
use Rattle.mv_check_declarations.specs.Turns.{through}
use Rattle.mv_types.specs.Contents.{nothing_declared}
use Rattle.mv_types.specs.Foreknown.{foreknown}
use Rattle.mv_types.specs.Units.{item_judgement}
use Rattle.mv_accepts.proofs.OfNames.Extending.{To}
use Rattle.mv_accepts.proofs.OfNames.Units.{items_sound, sound_start, defined_start}
use Rattle.mv_accepts.proofs.names.good_units_are_sound.Goals as goal
use Rattle.mv_accepts.specs.Numbers.Numbers.{IsForeknown}

pub returns : goal.returns
returns c items after q =
    let k = foreknown items in
    let x = of_good (To k (nothing_declared k)) (through (item_judgement k) items (nothing_declared k))
    (items_sound c.good_parameters_fit.ensures c.good_bodies_are_typed.ensures.grows k items (recursion_from_All (IsForeknown k) items (c.functions_have_their_numbers.ensures.known items)) (nothing_declared k)) after q
    (sound_start k) in
    (x.sound, x.defined (defined_start k))
