use Rattle.std.proofs.Common.{◌≡◌, ◌++◌, take}
use Rattle.mv_parse_grammar.specs.Declarations.{characters_of_piece}
use Rattle.mv_parse_declarations.proofs.initial.add_characters.Given as goal

abbrev pub invariant-loop-character : goal.invariant-loop-character
invariant-loop-character l = l.characters ≡ l.initial.characters ++ take l.character-index (characters_of_piece l.token.what)
