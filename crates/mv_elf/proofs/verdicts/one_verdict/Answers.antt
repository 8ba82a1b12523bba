use Rattle.mv_elf.proofs.OneVerdict.{one_held, held_has_none}
use Rattle.mv_elf.proofs.OneFault.{one_fault}
use Rattle.mv_elf.proofs.verdicts.one_verdict.Goals as goal

pub returns-clause-image : goal.returns-clause-image
returns-clause-image c = one_held

pub returns-clause-fault : goal.returns-clause-fault
returns-clause-fault c = one_fault

pub returns-clause-either : goal.returns-clause-either
returns-clause-either c = held_has_none
