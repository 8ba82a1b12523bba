use Rattle.mv_regalloc.proofs.SharedSets.{none_at}
use Rattle.mv_regalloc.proofs.liveness.Liveness.new.Goals as goal

pub returns-clause-live : goal.returns-clause-live
returns-clause-live c = none_at c.args.temps _ c.none-none.result c.none-none.ensures.words
