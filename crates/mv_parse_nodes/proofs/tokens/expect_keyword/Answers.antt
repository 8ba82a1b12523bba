use Rattle.std.proofs.Common.{refl}
use Rattle.mv_parse_grammar.specs.Terminals.{terminals, is_keyword}
use Rattle.mv_parse_nodes.proofs.Answers.{token_missed, token_taken}
use Rattle.mv_parse_nodes.proofs.Terminals.{gives_left}
use Rattle.mv_parse_nodes.proofs.tokens.expect_keyword.Goals as goal

pub returns-in-Some-clause-reads : goal.returns-in-Some-clause-reads
returns-in-Some-clause-reads c = λ text. token_taken c.in-Some.taken refl refl (c.in-Some.ensures.next text)

pub returns-in-None-clause-reads : goal.returns-in-None-clause-reads
returns-in-None-clause-reads c = λ text. gives_left text c.args.tokens.now (token_missed (is_keyword c.args.keyword) (terminals text c.args.tokens.now) (c.in-None.ensures.next text))
