use Rattle.mv_lexer.proofs.SameLemmas.{longest_same}
use Rattle.mv_lexer.proofs.one_longest_lexeme.Goals as goal

pub returns : goal.returns
returns c = longest_same
