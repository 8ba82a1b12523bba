-- What the tokens of a text are answered with, and why.
use Rattle.std.specs.Prelude.{◌≡◌, ◌≤◌, ℕ, List, length, take, All, Result, Ok, Err}
use Rattle.mv_syntax.specs.declared.place.Place.{Place}
use Rattle.mv_syntax.specs.declared.token.Tokens.{Tokens}
use Rattle.mv_syntax.specs.declared.unit.Unit as unit
use Rattle.mv_parse_nesting.specs.Nesting.{levels, IsFirstAbove}
use Rattle.mv_parse_grammar.specs.Reading.{Exactly, BreaksAt, BeginsIn}
use Rattle.mv_parse_reading.specs.Texts.{ReadsAs}
use Rattle.mv_parser.specs.declared.error.ParseError.{ParseError}
use Rattle.mv_parser.specs.declared.error.ParseError.TheVariants.{Nesting, Syntax, Memory}

-- no level is above 255
abbrev pub IsShallow : Tokens → Type 0
IsShallow tokens = All (λ level. level ≤ 255) (levels tokens.items)

-- the place is that of the first token at which the level is above 255
abbrev pub IsTooDeep : Tokens → Place → Type 0
IsTooDeep tokens place = IsFirstAbove 255 (levels tokens.items) tokens.items place

-- the text reads as this unit, and no level is above 255
pub record IsAccepted (text : List ℕ) (tokens : Tokens) (u : unit.Unit) : Type 0 where
  pub reads : ReadsAs text u
  pub shallow : IsShallow tokens

-- No level is above 255. The tokens before the place begin a unit, in this text with some more behind them, and those up to and
-- with the one there, or all of them at the end, are the beginning of none.
pub record IsBroken (text : List ℕ) (tokens : Tokens) (place : Place) : Type 0 where
  pub shallow : IsShallow tokens
  pub at : BreaksAt text tokens place
  pub begins : BeginsIn text (take (length at.breaks.before) tokens.items)

-- the cause of each refusal
abbrev pub IsCause : List ℕ → Tokens → ParseError → Type 0
IsCause text tokens (Nesting place) = IsTooDeep tokens place
IsCause text tokens (Syntax place) = IsBroken text tokens place
IsCause text tokens (Memory e) = Unit {0}

-- the answer is this unit, unless memory was wanting
abbrev pub HasUnit : Result unit.Unit ParseError → unit.Unit → Type 0
HasUnit (Ok u) v = u ≡ v
HasUnit (Err (Nesting place)) v = ⊥
HasUnit (Err (Syntax place)) v = ⊥
HasUnit (Err (Memory e)) v = Unit {0}

-- the answer is that this token is nested too deep, unless memory was wanting
abbrev pub HasNesting : Result unit.Unit ParseError → Place → Type 0
HasNesting (Ok u) at = ⊥
HasNesting (Err (Nesting place)) at = place ≡ at
HasNesting (Err (Syntax place)) at = ⊥
HasNesting (Err (Memory e)) at = Unit {0}

-- the answer is that the tokens break off here, unless memory was wanting
abbrev pub HasSyntax : Result unit.Unit ParseError → Place → Type 0
HasSyntax (Ok u) at = ⊥
HasSyntax (Err (Nesting place)) at = ⊥
HasSyntax (Err (Syntax place)) at = place ≡ at
HasSyntax (Err (Memory e)) at = Unit {0}

-- the tokens, of whatever text, are read so
abbrev pub IsRead : List ℕ → Tokens → Result unit.Unit ParseError → Type 0
IsRead text tokens (Ok u) = Exactly text tokens u
IsRead text tokens (Err (Nesting place)) = ⊥
IsRead text tokens (Err (Syntax place)) = BreaksAt text tokens place
IsRead text tokens (Err (Memory e)) = Unit {0}

-- and so where the level is limited
abbrev pub IsJudged : List ℕ → Tokens → Result unit.Unit ParseError → Type 0
IsJudged text tokens (Ok u) = IsShallow tokens × Exactly text tokens u
IsJudged text tokens (Err (Nesting place)) = IsTooDeep tokens place
IsJudged text tokens (Err (Syntax place)) = IsShallow tokens × BreaksAt text tokens place
IsJudged text tokens (Err (Memory e)) = Unit {0}
