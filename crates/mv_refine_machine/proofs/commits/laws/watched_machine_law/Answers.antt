use Rattle.mv_refine_machine.proofs.OfCommits.Hosted as lemmas
use Rattle.mv_refine_machine.proofs.OfCommits.Calls as calls
use Rattle.mv_refine_machine.proofs.commits.laws.watched_machine_law.Goals as goal

pub returns-clause-begins : goal.returns-clause-begins
returns-clause-begins c = lemmas.watched_begins c.laws_below.ensures

pub returns-clause-memory : goal.returns-clause-memory
returns-clause-memory c = lemmas.watched_memory c.laws_below.ensures

pub returns-clause-calls : goal.returns-clause-calls
returns-clause-calls c = calls.watched_calls c.laws_below.ensures
