use Rattle.mv_refine.proofs.Follows.{taken_is_enough, read_takes_more, write_writes_more}
use Rattle.mv_refine.proofs.faults.cut_runs_law.Goals as goal

pub returns-clause-taken : goal.returns-clause-taken
returns-clause-taken c = taken_is_enough

pub returns-clause-reads : goal.returns-clause-reads
returns-clause-reads c = read_takes_more

pub returns-clause-writes : goal.returns-clause-writes
returns-clause-writes c = write_writes_more
