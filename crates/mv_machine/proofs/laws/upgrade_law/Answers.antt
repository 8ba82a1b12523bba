use Rattle.mv_machine.proofs.Upgraded.{upgraded_runs}
use Rattle.mv_machine.proofs.laws.upgrade_law.Goals as goal

pub returns : goal.returns
returns c = upgraded_runs
