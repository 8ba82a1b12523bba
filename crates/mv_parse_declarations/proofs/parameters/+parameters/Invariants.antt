-- Each call has fewer tokens left, or as many and a rule further down. The loop has still to read what it reads from here.
use Rattle.std.proofs.Common.{ℕ, ◌<◌, length, ◌+◌, ◌*◌, List}
use Rattle.mv_syntax.specs.declared.unit.Param.{Param}
use Rattle.mv_parse_grammar.specs.Terminals.{terminals, is_mark}
use Rattle.mv_parse_grammar.specs.Reader as reader
use Rattle.mv_parse_grammar.specs.ExpressionReader.{read}
use Rattle.mv_parse_grammar.specs.DeclarationReader.{parameter, params}
use Rattle.mv_parse_nodes.proofs.Answers.{Loops}
use Rattle.mv_parse_declarations.proofs.parameters.+parameters.Given as goal

abbrev pub decreases-params : goal.decreases-params
decreases-params l = 4 * length l.tokens.now + 3

abbrev pub decreases-some_params : goal.decreases-some_params
decreases-some_params l = 4 * length l.tokens.now + 2

abbrev pub decreases-parameter : goal.decreases-parameter
decreases-parameter l = 4 * length l.tokens.now + 1

abbrev pub decreases-parameter_name : goal.decreases-parameter_name
decreases-parameter_name l = 4 * length l.tokens.now

abbrev pub decreases-parameter_list : goal.decreases-parameter_list
decreases-parameter_list l = 4 * length l.tokens.now

abbrev pub invariant-some_params-loop-after : goal.invariant-some_params-loop-after
invariant-some_params-loop-after l = record {
  reads : (n : ℕ) → Loops (reader.comma_list n (parameter n (read n) (params n)) (terminals l.text l.tokens)) (is_mark 7)
      (reader.comma_pushed (parameter n (read n) (params n))) (λ (xs : List Param) r. reader.give xs r) l.params (terminals l.text l.rest);
  shorter : length l.rest < length l.tokens;
}

abbrev pub decreases-some_params-loop-after : goal.decreases-some_params-loop-after
decreases-some_params-loop-after l = length l.rest
