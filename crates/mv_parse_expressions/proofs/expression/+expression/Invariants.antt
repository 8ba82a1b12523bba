-- Each call has fewer tokens left, or as many and a tighter rule. A loop has still to read what it reads from here.
use Rattle.std.proofs.Common.{ℕ, ◌<◌, length, ◌+◌, ◌-◌, ◌*◌, List}
use Rattle.mv_syntax.specs.declared.place.Place.{Place}
use Rattle.mv_syntax.specs.declared.unit.Node.{Node}
use Rattle.mv_parse_grammar.specs.Terminals.{terminals, is_rank, is_mark}
use Rattle.mv_parse_grammar.specs.Reader as reader
use Rattle.mv_parse_grammar.specs.Reader.{go_on}
use Rattle.mv_parse_grammar.specs.Expressions.{Assign}
use Rattle.mv_parse_grammar.specs.ExpressionReader as model
use Rattle.mv_parse_nodes.proofs.Answers.{Loops}
use Rattle.mv_parse_expressions.proofs.expression.+expression.Given as goal

abbrev pub decreases-arguments : goal.decreases-arguments
decreases-arguments l = 20 * length l.tokens.now + 19

abbrev pub decreases-assign : goal.decreases-assign
decreases-assign l = 20 * length l.tokens.now + 18

abbrev pub decreases-conditional : goal.decreases-conditional
decreases-conditional l = 20 * length l.tokens.now + 17

abbrev pub decreases-binary : goal.decreases-binary
decreases-binary l = 20 * length l.tokens.now + (6 + l.rank)

abbrev pub decreases-cast : goal.decreases-cast
decreases-cast l = 20 * length l.tokens.now + 5

abbrev pub decreases-unary : goal.decreases-unary
decreases-unary l = 20 * length l.tokens.now + 4

abbrev pub decreases-operand : goal.decreases-operand
decreases-operand l = 20 * length l.tokens.now + 3

abbrev pub decreases-postfix : goal.decreases-postfix
decreases-postfix l = 20 * length l.tokens.now + 2

abbrev pub decreases-primary : goal.decreases-primary
decreases-primary l = 20 * length l.tokens.now + 1

abbrev pub decreases-suffix : goal.decreases-suffix
decreases-suffix l = 20 * length l.tokens.now

abbrev pub invariant-arguments-loop-after : goal.invariant-arguments-loop-after
invariant-arguments-loop-after l = record {
  reads : (n : ℕ) → Loops (model.arguments n (model.read n) (terminals l.text l.tokens)) (is_mark 7) (reader.comma_pushed (model.read n Assign))
      (λ (xs : List Node) r. go_on (λ _. reader.give xs) (reader.token (is_mark 1) r)) l.given (terminals l.text l.rest);
  shorter : length l.rest < length l.tokens;
}

abbrev pub decreases-arguments-loop-after : goal.decreases-arguments-loop-after
decreases-arguments-loop-after l = length l.rest

abbrev pub invariant-binary-loop-operator : goal.invariant-binary-loop-operator
invariant-binary-loop-operator l = record {
  reads : (n : ℕ) → Loops (model.level n (model.read n) l.rank (terminals l.text l.tokens)) (is_rank l.rank)
      (model.operation (model.level n (model.read n) (l.rank - 1)) l.rank) (λ (y : Place × Node). reader.give y.1) (l.place, l.left)
      (terminals l.text l.rest);
  shorter : length l.rest < length l.tokens;
}

abbrev pub decreases-binary-loop-operator : goal.decreases-binary-loop-operator
decreases-binary-loop-operator l = length l.rest

abbrev pub invariant-postfix-loop-left : goal.invariant-postfix-loop-left
invariant-postfix-loop-left l = record {
  reads : (n : ℕ) → Loops (model.postfix n (model.read n) (terminals l.text l.tokens)) (is_rank 0) (model.suffix n (model.read n)) (λ (y : Place × Node). reader.give y.1) (l.place, l.left) (terminals l.text l.rest);
  shorter : length l.rest < length l.tokens;
}

abbrev pub decreases-postfix-loop-left : goal.decreases-postfix-loop-left
decreases-postfix-loop-left l = length l.rest
