use Rattle.mv_regalloc.proofs.WordBits.{bit_without, without_less}
use Rattle.mv_regalloc.proofs.words.without.Goals as goal

pub returns-clause-bits : goal.returns-clause-bits
returns-clause-bits c = λ t. bit_without c.args.word c.args.bit t c.requires.place

pub returns-clause-less : goal.returns-clause-less
returns-clause-less c = without_less c.args.word c.args.bit c.requires.place c.requires.set
