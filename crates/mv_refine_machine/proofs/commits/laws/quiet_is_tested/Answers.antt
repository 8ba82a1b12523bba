use Rattle.mv_refine_machine.proofs.OfCommits.Quiet as lemmas
use Rattle.mv_refine_machine.proofs.commits.laws.quiet_is_tested.Goals as goal

pub returns : goal.returns
returns c = lemmas.quiet_is_tested c.laws_below.ensures
