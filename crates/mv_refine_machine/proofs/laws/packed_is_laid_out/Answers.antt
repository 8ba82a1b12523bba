use Rattle.mv_refine_machine.proofs.Packing.{packed}
use Rattle.mv_refine_machine.proofs.laws.packed_is_laid_out.Goals as goal

pub returns : goal.returns
returns c = packed
