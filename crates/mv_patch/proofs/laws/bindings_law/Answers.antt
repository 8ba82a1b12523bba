use Rattle.mv_patch.proofs.Filled.{bindings_count}
use Rattle.mv_patch.proofs.laws.bindings_law.Goals as goal

pub returns : goal.returns
returns c image held code index bs e = bindings_count image held code index bs e
