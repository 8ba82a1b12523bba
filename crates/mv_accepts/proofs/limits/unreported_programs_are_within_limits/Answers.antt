use Rattle.mv_accepts.proofs.OfLimits.Reported.{within_all}
use Rattle.mv_accepts.proofs.limits.unreported_programs_are_within_limits.Goals as goal

pub returns : goal.returns
returns c = within_all
