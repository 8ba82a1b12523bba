use Rattle.std.proofs.Common.{ℕ, true, List, length}
use Rattle.mv_syntax.specs.declared.unit.Item.{Item}
use Rattle.mv_parse_grammar.specs.Terminals.{terminals}
use Rattle.mv_parse_grammar.specs.Reader as reader
use Rattle.mv_parse_grammar.specs.UnitReader as model
use Rattle.mv_parse_nodes.proofs.Answers.{Loops}
use Rattle.mv_parser.proofs.items.items.Given as goal

abbrev pub invariant-loop-items : goal.invariant-loop-items
invariant-loop-items l = (n : ℕ) → Loops (model.unit n (terminals l.text l.tokens)) (λ _. true) (reader.pushed (model.items n)) (λ (xs : List Item) r. reader.give xs r) l.items (terminals l.text l.rest)

abbrev pub decreases-loop-items : goal.decreases-loop-items
decreases-loop-items l = length l.rest
