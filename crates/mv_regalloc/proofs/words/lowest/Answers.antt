use Rattle.mv_regalloc.proofs.WordBits.{lowest_set}
use Rattle.mv_regalloc.proofs.words.lowest.Goals as goal

pub returns-clause-set : goal.returns-clause-set
returns-clause-set c = λ t e. lowest_set c.args.word t c.requires c.ranges.word.fits e
