use Rattle.mv_refine_machine.proofs.OfStubs.Checking.{checks_stand}
use Rattle.mv_refine_machine.proofs.stubs.laws.checks_stand.Goals as goal

pub returns : goal.returns
returns c = checks_stand
