use Rattle.std.proofs.Common.{arith}
use Rattle.mv_merge.proofs.Added.{grouped_more}
use Rattle.mv_merge.proofs.Singles.{merged}
use Rattle.mv_merge.proofs.merge.added_rows_are_merged.Goals as goal

pub returns-clause-none : goal.returns-clause-none
returns-clause-none c = record { words = tt; leads = tt; apart = tt; used = λ i below. absurd (omega arith) }

pub returns-clause-more : goal.returns-clause-more
returns-clause-more c = grouped_more

pub returns-clause-all : goal.returns-clause-all
returns-clause-all c = merged
