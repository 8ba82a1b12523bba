use Rattle.mv_elf.proofs.OneVerdict.{only_that}
use Rattle.mv_elf.proofs.reading.from_elf.Goals as goal

pub returns-clause-only : goal.returns-clause-only
returns-clause-only c image held = only_that c.args.bytes.now image c.read_once.result held c.read_once.ensures.found c.read_once.ensures.fault
