use Rattle.mv_refine_machine.proofs.Placing.{line_stands_free}
use Rattle.mv_refine_machine.proofs.laws.free_lines_stand.Goals as goal

pub returns : goal.returns
returns c = line_stands_free
