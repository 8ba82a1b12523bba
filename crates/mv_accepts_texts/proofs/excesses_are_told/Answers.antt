use Rattle.mv_accepts_texts.proofs.Excesses.{excesses_told}
use Rattle.mv_accepts_texts.proofs.excesses_are_told.Goals as goal

pub returns : goal.returns
returns c u p h = excesses_told u c.functions_have_their_numbers.ensures.known p h
