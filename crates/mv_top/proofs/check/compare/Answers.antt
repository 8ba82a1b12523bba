use Rattle.std.proofs.Common.{sym}
use Rattle.mv_top.specs.Checking.{different, same}
use Rattle.mv_top.proofs.check.compare.Goals as goal

pub returns-in-None : goal.returns-in-None
returns-in-None c = same (sym c.in-None.ensures)

pub returns-in-Some : goal.returns-in-Some
returns-in-Some c = different c.in-Some.offset c.in-Some.ensures
