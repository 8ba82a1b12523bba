use Rattle.mv_refine_machine.proofs.Placing.{part_placed}
use Rattle.mv_refine_machine.proofs.laws.code_is_placed.Goals as goal

pub returns : goal.returns
returns c attributed image base lines sizing words fits are has = part_placed image base lines sizing words are has attributed fits
