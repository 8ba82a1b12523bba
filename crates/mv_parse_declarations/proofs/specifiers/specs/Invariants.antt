use Rattle.std.proofs.Common.{◌<◌, ℕ, length}
use Rattle.mv_syntax.specs.declared.unit.Specs.{Specs}
use Rattle.mv_parse_grammar.specs.Terminals.{terminals, is_specifier}
use Rattle.mv_parse_grammar.specs.Reader as reader
use Rattle.mv_parse_grammar.specs.ExpressionReader.{read}
use Rattle.mv_parse_grammar.specs.DeclarationReader as model
use Rattle.mv_parse_nodes.proofs.Answers.{Loops}
use Rattle.mv_parse_declarations.proofs.specifiers.specs.Given as goal

abbrev pub invariant-loop-specs : goal.invariant-loop-specs
invariant-loop-specs l = record {
  reads : (n : ℕ) → Loops (model.specs n (read n) (terminals l.text l.tokens)) is_specifier (model.specifier n (read n)) (λ (s : Specs) r. reader.give s r) l.specs (terminals l.text l.rest);
  shorter : length l.rest < length l.tokens;
}

abbrev pub decreases-loop-specs : goal.decreases-loop-specs
decreases-loop-specs l = length l.rest
