use Rattle.std.proofs.Common.{ℕ, ◌<◌, length, List}
use Rattle.mv_syntax.specs.declared.unit.Node.{Node}
use Rattle.mv_parse_grammar.specs.Terminals.{terminals}
use Rattle.mv_parse_grammar.specs.Reader as reader
use Rattle.mv_parse_grammar.specs.Expressions.{Assign}
use Rattle.mv_parse_grammar.specs.ExpressionReader.{read}
use Rattle.mv_parse_nodes.proofs.Lists.{Closes}
use Rattle.mv_parse_declarations.proofs.initial.values.Given as goal

abbrev pub invariant-loop-after : goal.invariant-loop-after
invariant-loop-after l = record {
  reads : (n : ℕ) → Closes (reader.braced_list n (read n Assign) (terminals l.text l.tokens)) (read n Assign) (λ (xs : List Node) r. reader.give xs r) l.values (terminals l.text l.rest);
  shorter : length l.rest < length l.tokens;
}

abbrev pub decreases-loop-after : goal.decreases-loop-after
decreases-loop-after l = length l.rest
