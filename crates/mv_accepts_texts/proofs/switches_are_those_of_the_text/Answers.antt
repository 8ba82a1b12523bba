use Rattle.mv_accepts_texts.proofs.Programs.{switches_of_text}
use Rattle.mv_accepts_texts.proofs.switches_are_those_of_the_text.Goals as goal

pub returns : goal.returns
returns c u p h = switches_of_text u c.functions_have_their_numbers.ensures.known p h
