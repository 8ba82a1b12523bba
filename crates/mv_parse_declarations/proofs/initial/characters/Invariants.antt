use Rattle.std.proofs.Common.{ℕ, ◌<◌, length, List}
use Rattle.mv_parse_grammar.specs.Terminals.{terminals, is_string}
use Rattle.mv_parse_grammar.specs.Reader as reader
use Rattle.mv_parse_grammar.specs.DeclarationReader as model
use Rattle.mv_parse_nodes.proofs.Answers.{Loops}
use Rattle.mv_parse_declarations.proofs.initial.characters.Given as goal

abbrev pub invariant-loop-next : goal.invariant-loop-next
invariant-loop-next l = record {
  reads : (text : List ℕ) (n : ℕ) → Loops (model.characters n (terminals text l.tokens)) is_string model.more_characters (λ (cs : List ℕ) r. reader.give cs r) l.characters (terminals text l.rest);
  shorter : length l.rest < length l.tokens;
}

abbrev pub decreases-loop-next : goal.decreases-loop-next
decreases-loop-next l = length l.rest
