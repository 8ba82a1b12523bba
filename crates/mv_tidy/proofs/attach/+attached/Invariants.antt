use Rattle.mv_ir.specs.Measures.{statements}
use Rattle.mv_tidy.proofs.attach.+attached.Given as goal

abbrev pub decreases-attached : goal.decreases-attached
decreases-attached l = statements l.first
