use Rattle.mv_parts.proofs.CountsOfParts.{few_labels}
use Rattle.mv_parts.proofs.counts.labels_fit.Goals as goal

pub returns : goal.returns
returns c = few_labels c.args.parts.now c.in_parts.result c.in_parts.ensures
