use Rattle.std.proofs.Common.{◌∙◌}
use Rattle.mv_elf.specs.Numbers.{word_at}
use Rattle.mv_elf.proofs.NumberLaws.{number_at}
use Rattle.mv_elf.proofs.numbers.word_at.Goals as goal

pub returns : goal.returns
unfolding word_at
returns c = c.read_u32.ensures ∙ number_at c.args.bytes.now c.args.at 4
