use Rattle.mv_convert.proofs.Answer.{no_memory}
use Rattle.mv_convert.proofs.conversion.convert.Goals as goal

pub returns : goal.returns
returns c = no_memory c.args.conversion c.args.bytes.now c.in-Err.error
