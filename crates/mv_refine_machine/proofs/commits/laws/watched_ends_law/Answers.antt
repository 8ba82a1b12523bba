use Rattle.mv_refine_machine.proofs.OfCommits.Ends as lemmas
use Rattle.mv_refine_machine.proofs.commits.laws.watched_ends_law.Goals as goal

pub returns-clause-starts : goal.returns-clause-starts
returns-clause-starts c = lemmas.start_is_right c.laws_below.ensures c.start_is_right.ensures

pub returns-clause-exits : goal.returns-clause-exits
returns-clause-exits c = lemmas.exit_is_right c.laws_below.ensures c.exit_is_right.ensures

pub returns-clause-traps : goal.returns-clause-traps
returns-clause-traps c = lemmas.trap_is_right c.laws_below.ensures c.trap_is_right.ensures
