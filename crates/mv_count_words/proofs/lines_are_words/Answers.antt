use Rattle.mv_count_words.proofs.Lines as lemmas
use Rattle.mv_count_words.proofs.lines_are_words.Goals as goal

pub returns : goal.returns
returns c = lemmas.lines_are_words c.loads_give_the_text.ensures
