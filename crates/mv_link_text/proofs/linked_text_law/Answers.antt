use Rattle.mv_link_text.proofs.Whole.{words_are_there, codes_ascend, stubs_stand, plain_stands, patched_stands, slots_are_sites, points_are_sites, points_in_codes, check_is_told, targets_are_functions}
use Rattle.mv_link_text.proofs.linked_text_law.Goals as goal

pub returns-clause-words : goal.returns-clause-words
returns-clause-words c = words_are_there

pub returns-clause-stubs : goal.returns-clause-stubs
returns-clause-stubs c =
    stubs_stand record { lines_fit = c.linking_law.ensures.fits; stubs_stand = c.linking_law.ensures.stubs; code_is_placed = c.code_is_placed.ensures; texts_are_found = c.texts_are_found.ensures }

pub returns-clause-codes : goal.returns-clause-codes
returns-clause-codes c = codes_ascend

pub returns-clause-plain : goal.returns-clause-plain
returns-clause-plain c =
    plain_stands record { lines_fit = c.linking_law.ensures.fits; stubs_stand = c.linking_law.ensures.stubs; code_is_placed = c.code_is_placed.ensures; texts_are_found = c.texts_are_found.ensures }

pub returns-clause-patched : goal.returns-clause-patched
returns-clause-patched c =
    patched_stands record { lines_fit = c.linking_law.ensures.fits; stubs_stand = c.linking_law.ensures.stubs; code_is_placed = c.code_is_placed.ensures; texts_are_found = c.texts_are_found.ensures }

pub returns-clause-slots : goal.returns-clause-slots
returns-clause-slots c =
    slots_are_sites record { lines_fit = c.linking_law.ensures.fits; stubs_stand = c.linking_law.ensures.stubs; code_is_placed = c.code_is_placed.ensures; texts_are_found = c.texts_are_found.ensures }

pub returns-clause-points : goal.returns-clause-points
returns-clause-points c =
    points_are_sites record { lines_fit = c.linking_law.ensures.fits; stubs_stand = c.linking_law.ensures.stubs; code_is_placed = c.code_is_placed.ensures; texts_are_found = c.texts_are_found.ensures }

pub returns-clause-calls_in_codes : goal.returns-clause-calls_in_codes
returns-clause-calls_in_codes c = points_in_codes

pub returns-clause-check : goal.returns-clause-check
returns-clause-check c = check_is_told

pub returns-clause-targets : goal.returns-clause-targets
returns-clause-targets c = targets_are_functions
