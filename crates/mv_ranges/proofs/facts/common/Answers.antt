use Rattle.std.proofs.Common.{subst}
use Rattle.mv_ranges.specs.Facts.{Holds}
use Rattle.mv_ranges.proofs.facts.common.Goals as goal

pub returns-in-Some-clause-first : goal.returns-in-Some-clause-first
returns-in-Some-clause-first c s h = c.hull.ensures.first _ (subst (Holds s) c.in-Within.is h)
