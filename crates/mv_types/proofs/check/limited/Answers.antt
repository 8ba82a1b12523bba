use Rattle.std.proofs.Common.{◌∙◌, ap, sym}
use Rattle.mv_check_limits.specs.Limits.{exceeded_by_counts}
use Rattle.mv_types.proofs.Counted.{excess_counted}
use Rattle.mv_types.proofs.check.limited.Goals as goal

pub returns-in-Some : goal.returns-in-Some
returns-in-Some c =
    excess_counted c.args.unit.now c.args.completed c.in-Some.excess
    (ap exceeded_by_counts (sym c.counts_of.ensures) ∙ (sym c.exceeded_by_counts.ensures ∙ c.in-Some.is))
