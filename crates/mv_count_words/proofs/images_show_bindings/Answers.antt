use Rattle.mv_count_words.specs.Laws.{ImagesCountWords}
use Rattle.mv_count_words.proofs.Owed.{images_count_words}
use Rattle.mv_count_words.proofs.Whole as whole
use Rattle.mv_count_words.proofs.images_show_bindings.Goals as goal

pub returns-clause-counts : goal.returns-clause-counts
returns-clause-counts c =
    images_count_words c.each_call_has_a_slot.ensures.callees c.text_shows_bindings.ensures.bound c.text_shows_bindings.ensures.free c.slots_are_sites.ensures.slots c.slots_are_sites.ensures.points c.linked_text_law.ensures.codes
    c.linked_text_law.ensures.patched

pub returns-clause-shows : goal.returns-clause-shows
returns-clause-shows c =
    let count : ImagesCountWords =
    images_count_words c.each_call_has_a_slot.ensures.callees c.text_shows_bindings.ensures.bound c.text_shows_bindings.ensures.free c.slots_are_sites.ensures.slots c.slots_are_sites.ensures.points c.linked_text_law.ensures.codes
    c.linked_text_law.ensures.patched in
    whole.images_show_bindings c.runs_are_bound.ensures count c.lines_are_words.ensures
