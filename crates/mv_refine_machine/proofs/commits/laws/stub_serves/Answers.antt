use Rattle.mv_refine_machine.proofs.OfCommits.Served as lemmas
use Rattle.mv_refine_machine.proofs.commits.laws.stub_serves.Goals as goal

pub returns : goal.returns
returns c = lemmas.stub_serves c.laws_below.ensures
