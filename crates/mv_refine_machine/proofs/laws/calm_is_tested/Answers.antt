use Rattle.mv_refine_machine.proofs.Calming.{calm_told, calm_tested}
use Rattle.mv_refine_machine.proofs.laws.calm_is_tested.Goals as goal

pub returns : goal.returns
returns c image w m = (calm_told image w m, calm_tested image w m)
