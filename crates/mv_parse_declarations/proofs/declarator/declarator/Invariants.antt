use Rattle.std.proofs.Common.{◌<◌, ℕ, length}
use Rattle.mv_syntax.specs.declared.unit.Declarator.{Declarator}
use Rattle.mv_parse_grammar.specs.Terminals.{terminals, is_keyword}
use Rattle.mv_parse_grammar.specs.Reader as reader
use Rattle.mv_parse_grammar.specs.ExpressionReader.{read}
use Rattle.mv_parse_grammar.specs.DeclarationReader as model
use Rattle.mv_parse_nodes.proofs.Answers.{Loops}
use Rattle.mv_parse_declarations.proofs.declarator.declarator.Given as goal

abbrev pub invariant-loop-declarator : goal.invariant-loop-declarator
invariant-loop-declarator l = record {
  reads : (n : ℕ) → Loops (model.declarator n (read n) (model.params n) (terminals l.text l.tokens)) (is_keyword 21) (model.with_attribute n (read n)) (λ (d : Declarator) r. reader.give d r) l.declarator (terminals l.text l.rest);
  shorter : length l.rest < length l.tokens;
}

abbrev pub decreases-loop-declarator : goal.decreases-loop-declarator
decreases-loop-declarator l = length l.rest
