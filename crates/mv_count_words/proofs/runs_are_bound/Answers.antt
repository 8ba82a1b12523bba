use Rattle.mv_count_words.proofs.Bound as lemmas
use Rattle.mv_count_words.proofs.runs_are_bound.Goals as goal

pub returns : goal.returns
returns c = lemmas.runs_are_bound
