use Rattle.mv_isa.proofs.LineSteps.{lines_run}
use Rattle.mv_isa.proofs.labelled.labelled_law.Goals as goal

pub returns : goal.returns
returns g c = lines_run _
