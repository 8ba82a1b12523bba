use Rattle.mv_expand.proofs.Straightness.{short_fits}
use Rattle.mv_expand.proofs.placed.placed.Goals as goal

pub steps-requires-clause-fitting : goal.steps-requires-clause-fitting
steps-requires-clause-fitting c = short_fits c.args.body.now c.requires.short
