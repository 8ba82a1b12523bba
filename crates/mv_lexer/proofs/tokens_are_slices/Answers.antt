use Rattle.mv_lexer.proofs.SliceLemmas.{tokens_slices, tokens_count}
use Rattle.mv_lexer.proofs.tokens_are_slices.Goals as goal

pub returns-clause-slices : goal.returns-clause-slices
returns-clause-slices c = tokens_slices

pub returns-clause-count : goal.returns-clause-count
returns-clause-count c = tokens_count
