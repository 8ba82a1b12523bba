use Rattle.mv_refine_machine.proofs.OfCommits.Tells as lemmas
use Rattle.mv_refine_machine.proofs.commits.laws.sound_places_tell.Goals as goal

pub returns : goal.returns
returns c = lemmas.sound_tells
