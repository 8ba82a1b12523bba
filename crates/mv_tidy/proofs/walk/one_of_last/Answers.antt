use Rattle.mv_regalloc.specs.declared.liveness.Row.TheVariants.{Saved}
use Rattle.mv_regalloc.specs.Shared.{row_of}
use Rattle.mv_tidy.proofs.Walked.{last_joined}
use Rattle.mv_tidy.proofs.walk.one_of_last.Goals as goal

pub returns-in-Some : goal.returns-in-Some
returns-in-Some c =
    let found = c.in-Some.ensures.item in
    last_joined c.as_one.result c.args.temps (row_of c.args.liveness.now (Saved 0)) c.args.stm.now c.args.kept.now c.in-Some.next.now found.3.0 found.1
    c.as_one.ensures
