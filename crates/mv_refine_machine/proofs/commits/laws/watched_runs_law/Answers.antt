use Rattle.mv_refine_machine.proofs.OfCommits.Watched as lemmas
use Rattle.mv_refine_machine.proofs.commits.laws.watched_runs_law.Goals as goal

pub returns-clause-runs : goal.returns-clause-runs
returns-clause-runs c = lemmas.watched_runs c.laws_below.ensures

pub returns-clause-alone : goal.returns-clause-alone
returns-clause-alone c = lemmas.watched_alone c.laws_below.ensures

pub returns-clause-under : goal.returns-clause-under
returns-clause-under c = lemmas.watched_under c.laws_below.ensures

pub returns-clause-steps : goal.returns-clause-steps
returns-clause-steps c = lemmas.watched_steps c.laws_below.ensures
