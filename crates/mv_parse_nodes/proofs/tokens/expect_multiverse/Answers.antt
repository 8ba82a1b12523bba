use Rattle.std.proofs.Common.{refl}
use Rattle.mv_parse_grammar.specs.Terminals.{terminals, is_multiverse}
use Rattle.mv_parse_nodes.proofs.Answers.{token_missed, token_taken}
use Rattle.mv_parse_nodes.proofs.Terminals.{gives_left}
use Rattle.mv_parse_nodes.proofs.tokens.expect_multiverse.Goals as goal

pub returns-in-Some-clause-reads : goal.returns-in-Some-clause-reads
returns-in-Some-clause-reads c = token_taken c.in-Some.taken refl refl c.in-Some.ensures.next

pub returns-in-None-clause-reads : goal.returns-in-None-clause-reads
returns-in-None-clause-reads c = gives_left c.args.text.now c.args.tokens.now (token_missed is_multiverse (terminals c.args.text.now c.args.tokens.now) c.in-None.ensures.next)
