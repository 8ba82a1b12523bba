use Rattle.mv_parts.proofs.CountsOfParts.{parts_counted}
use Rattle.mv_parts.proofs.counts.in_parts.Goals as goal

pub returns : goal.returns
returns c =
    parts_counted c.args.what c.args.parts.now c.as_slice.result.now c.as_slice-2.result.now c.in_codes-own.result c.in_functions.result c.as_slice.ensures c.as_slice-2.ensures
    c.in_codes-own.ensures c.in_functions.ensures
