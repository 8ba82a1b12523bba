use Rattle.mv_ir.proofs.Programs.{levels_keep}
use Rattle.mv_ir.proofs.WholePrograms.{programs_keep}
use Rattle.mv_ir.proofs.laws.meanings_law.Goals as goal

pub returns-clause-levels : goal.returns-clause-levels
returns-clause-levels c = levels_keep

pub returns-clause-programs : goal.returns-clause-programs
returns-clause-programs c = programs_keep
