use Rattle.std.proofs.Common.{ℕ, ◌<◌, length, List}
use Rattle.mv_syntax.specs.declared.unit.Member.{Member}
use Rattle.mv_parse_grammar.specs.Terminals.{terminals}
use Rattle.mv_parse_grammar.specs.Reader as reader
use Rattle.mv_parse_grammar.specs.ExpressionReader.{read}
use Rattle.mv_parse_grammar.specs.DeclarationReader.{enumerator}
use Rattle.mv_parse_nodes.proofs.Lists.{Closes}
use Rattle.mv_parse_declarations.proofs.enums.enumerators.Given as goal

abbrev pub invariant-loop-after : goal.invariant-loop-after
invariant-loop-after l = record {
  reads : (n : ℕ) → Closes (reader.braced_list n (enumerator (read n)) (terminals l.text l.tokens)) (enumerator (read n)) (λ (xs : List Member) r. reader.give xs r) l.members (terminals l.text l.rest);
  shorter : length l.rest < length l.tokens;
}

abbrev pub decreases-loop-after : goal.decreases-loop-after
decreases-loop-after l = length l.rest
