-- Each call has fewer tokens left, or as many at a part of the statement. A loop has still to read what it reads from here.
use Rattle.std.proofs.Common.{ℕ, ◌≤◌, length, ◌+◌, ◌*◌, List}
use Rattle.mv_syntax.specs.declared.unit.Line.{Line}
use Rattle.mv_syntax.specs.declared.unit.Act.TheVariants as act
use Rattle.mv_parse_grammar.specs.Terminals.{terminals, is_mark, is_no_end}
use Rattle.mv_parse_grammar.specs.Reader as reader
use Rattle.mv_parse_grammar.specs.Reader.{go_on}
use Rattle.mv_parse_grammar.specs.Statements.{line_at}
use Rattle.mv_parse_grammar.specs.StatementReader as model
use Rattle.mv_parse_nodes.proofs.Answers.{Loops}
use Rattle.mv_parse_statements.proofs.statement.+statement.Given as goal

abbrev pub decreases-statement : goal.decreases-statement
decreases-statement l = 4 * length l.tokens.now

abbrev pub decreases-block_item : goal.decreases-block_item
decreases-block_item l = 4 * length l.tokens.now + 1

abbrev pub decreases-block_rest : goal.decreases-block_rest
decreases-block_rest l = 4 * length l.tokens.now + 2

abbrev pub decreases-if_rest : goal.decreases-if_rest
decreases-if_rest l = 4 * length l.tokens.now + 2

abbrev pub decreases-while_rest : goal.decreases-while_rest
decreases-while_rest l = 4 * length l.tokens.now + 2

abbrev pub decreases-do_rest : goal.decreases-do_rest
decreases-do_rest l = 4 * length l.tokens.now + 2

abbrev pub decreases-for_rest : goal.decreases-for_rest
decreases-for_rest l = 4 * length l.tokens.now + 2

abbrev pub decreases-switch_rest : goal.decreases-switch_rest
decreases-switch_rest l = 4 * length l.tokens.now + 2

abbrev pub invariant-block_rest-loop-lines : goal.invariant-block_rest-loop-lines
invariant-block_rest-loop-lines l = record {
  reads : (n : ℕ) → Loops (model.block_rest n (model.locals n) (model.statements n) l.place (terminals l.text l.tokens)) is_no_end
      (reader.pushed (model.block_item (model.locals n) (model.statements n)))
      (λ (ls : List Line) r. go_on (λ _. reader.give (line_at l.place (act.Block ls))) (reader.token (is_mark 5) r)) l.lines
      (terminals l.text l.rest);
  shorter : length l.rest ≤ length l.tokens;
}

abbrev pub decreases-block_rest-loop-lines : goal.decreases-block_rest-loop-lines
decreases-block_rest-loop-lines l = length l.rest
