use Rattle.std.proofs.Common.{ℕ, ◌<◌, length, List}
use Rattle.mv_syntax.specs.declared.unit.Declarator.{Declarator}
use Rattle.mv_parse_grammar.specs.Terminals.{terminals, is_mark}
use Rattle.mv_parse_grammar.specs.Reader as reader
use Rattle.mv_parse_grammar.specs.ExpressionReader.{read}
use Rattle.mv_parse_grammar.specs.DeclarationReader.{declared, params}
use Rattle.mv_parse_nodes.proofs.Answers.{Loops}
use Rattle.mv_parse_declarations.proofs.declarator.declared_list.Given as goal

abbrev pub invariant-loop-after : goal.invariant-loop-after
invariant-loop-after l = record {
  reads : (n : ℕ) → Loops (reader.comma_list n (declared n (read n) (params n)) (terminals l.text l.tokens)) (is_mark 7)
      (reader.comma_pushed (declared n (read n) (params n))) (λ (xs : List Declarator) r. reader.give xs r) l.names (terminals l.text l.rest);
  shorter : length l.rest < length l.tokens;
}

abbrev pub decreases-loop-after : goal.decreases-loop-after
decreases-loop-after l = length l.rest
