use Rattle.mv_image.proofs.Sums.{variants_sum, guards_sum, guards_fit}
use Rattle.mv_image.proofs.facts.rows_belong.Goals as goal

pub returns-clause-variants : goal.returns-clause-variants
returns-clause-variants c = variants_sum c.args.image.now c.entry-entry.ensures.rules

pub returns-clause-guards : goal.returns-clause-guards
returns-clause-guards c = guards_sum c.args.image.now c.entry-entry.ensures.rules

pub returns-clause-fit : goal.returns-clause-fit
returns-clause-fit c = guards_fit c.args.image.now c.entry-entry.ensures.rules
