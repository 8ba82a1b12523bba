use Rattle.std.proofs.Common.{map}
use Rattle.std.specs.String.{string_bytes}
use Rattle.mv_harts.proofs.Coming.{carried_out}
use Rattle.mv_harts.proofs.top.mvharts.Goals as goal

pub returns-clause-carried_out : goal.returns-clause-carried_out
returns-clause-carried_out g c =
    carried_out _ _ (map string_bytes c.args.words.now) _ _ c.perform-status.result c.perform-status.ensures c.alone.result.lines.items c.alone.result.status c.alone.ensures.lines c.alone.ensures.status
    c.report.result c.report.ensures.noted
