use Rattle.mv_machine.specs.Snapshots.{kept}
use Rattle.mv_machine.proofs.Starts.{kept_start}
use Rattle.mv_machine.proofs.machine.Machine.start.Goals as goal

pub returns : goal.returns
unfolding kept
returns c = kept_start c.in_ok-start.field-0 c.args.image.now c.in_ok-start.ensures.1
