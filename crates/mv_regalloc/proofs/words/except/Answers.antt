use Rattle.mv_regalloc.proofs.WordBits.{bits_except}
use Rattle.mv_regalloc.proofs.words.except.Goals as goal

pub returns : goal.returns
returns c = λ t. bits_except c.args.word c.args.other t c.ranges.other.fits
