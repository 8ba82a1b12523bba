use Rattle.std.proofs.Common.{◌∙◌}
use Rattle.mv_elf.specs.Numbers.{half_at}
use Rattle.mv_elf.proofs.NumberLaws.{number_at}
use Rattle.mv_elf.proofs.numbers.half_at.Goals as goal

pub returns : goal.returns
unfolding half_at
returns c = c.read_u16.ensures ∙ number_at c.args.bytes.now c.args.at 2
