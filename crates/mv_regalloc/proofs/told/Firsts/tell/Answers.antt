use Rattle.std.proofs.lemmas.Result.{on_ok_weaker}
use Rattle.mv_regalloc.proofs.Telling.{row_told}
use Rattle.mv_regalloc.proofs.told.Firsts.tell.Goals as goal

pub returns-clause-told : goal.returns-clause-told
returns-clause-told c = on_ok_weaker c.tell_part.result (row_told c.args.parts.now c.args.row c.args.value c.args.self.now c.tell_part.new.self) c.tell_part.ensures.told
