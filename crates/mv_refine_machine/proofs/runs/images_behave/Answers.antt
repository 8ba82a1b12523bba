use Rattle.mv_refine_machine.proofs.OfRuns.Courses.{behaves}
use Rattle.mv_refine_machine.proofs.runs.images_behave.Goals as goal

pub returns : goal.returns
returns c attributed closed p image bytes polls picks y rules plain stubs main =
    behaves c.quiet_is_tested.ensures c.sound_places_tell.ensures c.text_between_law.ensures.tested c.text_between_law.ensures.whole
    c.watched_ends_law.ensures.exits c.watched_ends_law.ensures.traps attributed closed p image bytes polls picks y rules plain stubs main
