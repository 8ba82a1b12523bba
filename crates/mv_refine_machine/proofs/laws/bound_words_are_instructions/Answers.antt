use Rattle.mv_refine_machine.proofs.Jumps.{bound_words}
use Rattle.mv_refine_machine.proofs.laws.bound_words_are_instructions.Goals as goal

pub returns : goal.returns
returns c = bound_words
