use Rattle.mv_top.specs.Outside.{part, whole}
use Rattle.mv_top.proofs.files.write_text.Goals as goal

pub returns-in-Ok-clause-writes : goal.returns-in-Ok-clause-writes
returns-in-Ok-clause-writes g c input way = whole c.in-Ok.ensures.bytes

pub returns-in-Err-clause-writes : goal.returns-in-Err-clause-writes
returns-in-Err-clause-writes g c input way = part c.in-Err.ensures.bytes c.in-Err.ensures.cause.failed
