-- What it is for a source to read as a translation unit.
use Rattle.std.specs.Prelude.{ℕ, List}
use Rattle.mv_syntax.specs.declared.token.Tokens.{Tokens}
use Rattle.mv_syntax.specs.declared.unit.Unit as unit
use Rattle.mv_lexer.specs.Reading.{AreTokens}
use Rattle.mv_parse_grammar.specs.Reading.{Reads}

-- the source has tokens, and they are this unit
pub record ReadsAs (text : List ℕ) (u : unit.Unit) : Type 0 where
  pub tokens : Tokens
  pub lexed : AreTokens text tokens.items tokens.end
  pub parsed : Reads text tokens u
