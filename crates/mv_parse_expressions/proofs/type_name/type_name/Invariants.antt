use Rattle.std.proofs.Common.{◌<◌, ℕ, length}
use Rattle.mv_syntax.specs.declared.unit.Specs.{Specs}
use Rattle.mv_parse_grammar.specs.Terminals.{terminals, is_type_part}
use Rattle.mv_parse_grammar.specs.Reader as reader
use Rattle.mv_parse_grammar.specs.ExpressionReader as model
use Rattle.mv_parse_nodes.proofs.Answers.{Loops}
use Rattle.mv_parse_expressions.proofs.type_name.type_name.Given as goal

abbrev pub invariant-loop-specs : goal.invariant-loop-specs
invariant-loop-specs l = record {
  reads : (n : ℕ) → Loops (model.type_name n (terminals l.text l.tokens)) is_type_part model.type_part (λ (s : Specs) r. reader.give s r) l.specs (terminals l.text l.rest);
  shorter : length l.rest < length l.tokens;
}

abbrev pub decreases-loop-specs : goal.decreases-loop-specs
decreases-loop-specs l = length l.rest
