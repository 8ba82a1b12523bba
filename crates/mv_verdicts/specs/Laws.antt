-- That each text has a verdict.
use Rattle.std.specs.Prelude.{ℕ, List}
use Rattle.mv_ast.specs.declared.program.Program.{Program}
use Rattle.mv_syntax.specs.declared.token.Tokens.{Tokens}
use Rattle.mv_lexer.specs.Reading.{AreTokens}
use Rattle.mv_front.specs.Verdicts.{IsProgram, IsRefused}
use Rattle.mv_front.specs.declared.refusal.Refusal.{Refusal}

-- The text is a program, or is refused.
pub data HasVerdict (text : List ℕ) : Type 0 where
  accepted : (p : Program) → IsProgram text p → HasVerdict text
  refused : (r : Refusal) → IsRefused text r → HasVerdict text

-- A text that has tokens has a verdict.
abbrev pub TokensAreJudged : Type 0
TokensAreJudged = (text : List ℕ) (tokens : Tokens) → AreTokens text tokens.items tokens.end → HasVerdict text

-- No text is without one: that it is no program and that it has no refusal contradict each other.
abbrev pub NoneIsWithout : Type 0
NoneIsWithout = (text : List ℕ) → ((p : Program) → IsProgram text p → ⊥) → ((r : Refusal) → IsRefused text r → ⊥) → ⊥
