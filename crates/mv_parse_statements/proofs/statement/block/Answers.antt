use Rattle.mv_parse_nodes.proofs.Answers.{then_ok}
use Rattle.mv_parse_statements.proofs.statement.block.Goals as goal

pub returns-clause-reads : goal.returns-clause-reads
returns-clause-reads c = λ n. then_ok _ (c.in_ok-open.ensures.reads c.args.text.now) (c.block_rest.ensures.reads n)
