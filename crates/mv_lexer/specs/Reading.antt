-- The reading of a source: its lexemes from the start, each the longest at its place, and what each evaluates to.
use Prim.Native.Char.{code}
use Rattle.std.specs.Prelude.{◌≡◌, ◌<◌, ◌≤◌, ◌⊎◌, ◌+◌, ℕ, Bool, true, false, List, [], ◌∷◌, ◌++◌, length, take, drop, Option, Some, None, Result, Ok, Err}
use Rattle.mv_lexer.specs.Tables.{IsEntry}
use Rattle.mv_lexer.specs.Include.{IsFrontLexeme}
use Rattle.mv_num.specs.declared.kind.Kind.{Kind}
use Rattle.mv_num.specs.declared.kind.Kind.TheVariants.{Int}
use Rattle.mv_num.specs.Limits.{name_limit, source_limit}
use Rattle.mv_lexer.specs.Characters.{IsQuoted}
use Rattle.mv_lexer.specs.Numbers.{IsIntegerConstant, IsLongConstant, kind_of, base, value, is_floating}
use Rattle.mv_lexer.specs.Place.{start, after}
use Rattle.mv_lexer.specs.declared.table.Table.TheVariants.{Keywords, UnsupportedKeywords}
use Rattle.mv_lexer.specs.declared.class.TokenClass.{TokenClass}
use Rattle.mv_lexer.specs.declared.class.TokenClass.TheVariants.{WhiteSpace, Comment, UnclosedComment, CharacterConstant, StringLiteral, Identifier, PreprocessingNumber, Punctuator, UnsupportedPunctuator, Other}
use Rattle.mv_lexer.specs.declared.position.Position.{Position}
use Rattle.mv_syntax.specs.declared.place.Place.{Place}
use Rattle.mv_syntax.specs.declared.token.Token.{Token}
use Rattle.mv_syntax.specs.declared.token.Tokens.{Tokens}
use Rattle.mv_syntax.specs.declared.token.Piece.{Piece}
use Rattle.mv_syntax.specs.declared.token.Piece.TheVariants as Is
use Rattle.mv_lexer.specs.declared.error.LexError.{LexError}
use Rattle.mv_lexer.specs.declared.error.LexError.TheVariants.{BadToken, Unsupported, TooLong, Memory}

-- what a lexeme evaluates to: nothing, a token, or one of the refusals, a bad token, a construct outside the profile, a too long name
pub data Evaluation : Type 0 where
  skipped : Evaluation
  token : Piece → Evaluation
  bad : Evaluation
  unsupported : Evaluation
  too_long : ℕ → Evaluation

-- what the bytes s evaluate to, as a lexeme of this class
pub data Evaluates : TokenClass → List ℕ → Evaluation → Type 0 where
  white_space : {s : List ℕ} → Evaluates WhiteSpace s skipped
  comment : {s : List ℕ} → Evaluates Comment s skipped
  unclosed : {s : List ℕ} → Evaluates UnclosedComment s bad
  keyword : {s : List ℕ} (k : ℕ) → IsEntry Keywords k s → Evaluates Identifier s (token (Is.Keyword k))
  unsupported_keyword : {s : List ℕ} (k : ℕ) → IsEntry UnsupportedKeywords k s → Evaluates Identifier s unsupported
  name : {s : List ℕ} → length s ≤ name_limit → ((k : ℕ) → IsEntry Keywords k s → ⊥) → ((k : ℕ) → IsEntry UnsupportedKeywords k s → ⊥) → Evaluates Identifier s (token Is.Name)
  long_name : {s : List ℕ} → name_limit < length s → Evaluates Identifier s (too_long (length s))
  constant : {s : List ℕ} (unsigned : Bool) (kind : Kind) → IsIntegerConstant s unsigned → kind_of (base s) unsigned (value s) ≡ Some kind → Evaluates PreprocessingNumber s (token (Is.Number (value s) kind))
  large : {s : List ℕ} (unsigned : Bool) → IsIntegerConstant s unsigned → kind_of (base s) unsigned (value s) ≡ None → Evaluates PreprocessingNumber s unsupported
  long : {s : List ℕ} → IsLongConstant s → Evaluates PreprocessingNumber s unsupported
  floating : {s : List ℕ} → ((unsigned : Bool) → IsIntegerConstant s unsigned → ⊥) → is_floating s ≡ true → Evaluates PreprocessingNumber s unsupported
  malformed : {s : List ℕ} → ((unsigned : Bool) → IsIntegerConstant s unsigned → ⊥) → (IsLongConstant s → ⊥) → is_floating s ≡ false → Evaluates PreprocessingNumber s bad
  character : {s : List ℕ} (v : ℕ) → IsQuoted (code "'") s (v ∷ []) → Evaluates CharacterConstant s (token (Is.Number v Int))
  no_character : {s : List ℕ} → IsQuoted (code "'") s [] → Evaluates CharacterConstant s bad
  characters : {s : List ℕ} (v w : ℕ) (vs : List ℕ) → IsQuoted (code "'") s (v ∷ w ∷ vs) → Evaluates CharacterConstant s unsupported
  string : {s : List ℕ} (values : List ℕ) → IsQuoted (code "\"") s values → Evaluates StringLiteral s (token (Is.Chars values))
  punctuator : {s : List ℕ} (k : ℕ) → Evaluates (Punctuator k) s (token (Is.Mark k))
  unsupported_punctuator : {s : List ℕ} → Evaluates UnsupportedPunctuator s unsupported
  other : {s : List ℕ} → Evaluates Other s bad

-- a lexeme of a text, with what it evaluates to
pub record Lexeme : Type 0 where
  pub class : TokenClass
  pub bytes : List ℕ
  pub evaluation : Evaluation

-- the lexeme is the one to take in front of the text
pub record StandsInFront (at_line_start : Bool) (text : List ℕ) (lexeme : Lexeme) : Type 0 where
  pub front : take (length lexeme.bytes) text ≡ lexeme.bytes
  pub here : IsFrontLexeme at_line_start text lexeme.class (length lexeme.bytes)
  pub evaluation : Evaluates lexeme.class lexeme.bytes lexeme.evaluation

-- no refusal
abbrev pub IsAccepted : Evaluation → Type 0
IsAccepted skipped = Unit {0}
IsAccepted (token what) = Unit {0}
IsAccepted bad = ⊥
IsAccepted unsupported = ⊥
IsAccepted (too_long n) = ⊥

-- from its start on the text is these lexemes, none of which is refused, and then the rest
abbrev pub Scans : Position → List Lexeme → List ℕ → List ℕ → Type 0
Scans at [] text rest = text ≡ rest
Scans at (lexeme ∷ lexemes) text rest = StandsInFront at.at_line_start text lexeme × IsAccepted lexeme.evaluation × Scans (after at lexeme.class lexeme.bytes) lexemes (drop (length lexeme.bytes) text) rest

-- where the reading stands behind these lexemes
abbrev pub after_all : Position → List Lexeme → Position
after_all at [] = at
after_all at (lexeme ∷ lexemes) = after_all (after at lexeme.class lexeme.bytes) lexemes

-- the token that a lexeme is, if it is one
abbrev pub token_of : Position → List ℕ → Evaluation → List Token
token_of at s (token what) = record { place = at.place; start = at.offset; stop = at.offset + length s; what = what } ∷ []
token_of at s _ = []

-- the tokens among these lexemes
abbrev pub tokens_of : Position → List Lexeme → List Token
tokens_of at [] = []
tokens_of at (lexeme ∷ lexemes) = token_of at lexeme.bytes lexeme.evaluation ++ tokens_of (after at lexeme.class lexeme.bytes) lexemes

-- the tokens of a text, and the place of its end
pub record AreTokens (text : List ℕ) (items : List Token) (end : Place) : Type 0 where
  pub fits : length text ≤ source_limit
  pub lexemes : List Lexeme
  pub reading : Scans start lexemes text []
  pub tokens : items ≡ tokens_of start lexemes
  pub at_end : end ≡ (after_all start lexemes).place

-- from an offset on the tokens are slices of a text of this length, none of them empty, in its order
abbrev pub AreSlices : ℕ → ℕ → List Token → Type 0
AreSlices at size [] = at ≤ size
AreSlices at size (t ∷ ts) = (at ≤ t.start) × (t.start < t.stop) × AreSlices t.stop size ts

-- the first lexeme that is refused stands at the place and evaluates to this
pub record IsFirstRefused (text : List ℕ) (evaluation : Evaluation) (place : Place) : Type 0 where
  pub fits : length text ≤ source_limit
  pub lexemes : List Lexeme
  pub rest : List ℕ
  pub refused : Lexeme
  pub reading : Scans start lexemes text rest
  pub next : StandsInFront (after_all start lexemes).at_line_start rest refused
  pub evaluates_to : refused.evaluation ≡ evaluation
  pub not_accepted : IsAccepted evaluation → ⊥
  pub stands : place ≡ (after_all start lexemes).place

-- a function answered with the evaluation of a lexeme of this class, at this place
abbrev pub GivesEvaluation : TokenClass → List ℕ → Place → Result (Option Piece) LexError → Type 0
GivesEvaluation class s place (Ok None) = Evaluates class s skipped
GivesEvaluation class s place (Ok (Some what)) = Evaluates class s (token what)
GivesEvaluation class s place (Err (BadToken at)) = Evaluates class s bad × (at ≡ place)
GivesEvaluation class s place (Err (Unsupported at)) = Evaluates class s unsupported × (at ≡ place)
GivesEvaluation class s place (Err (TooLong n)) = Evaluates class s (too_long n)
GivesEvaluation class s place (Err (Memory e)) = Unit {0}

-- one lexeme of the rest was taken, with its token
pub record IsStep (rest : List ℕ) (at : Position) (items : List Token) (at' : Position) (items' : List Token) : Type 0 where
  pub lexeme : Lexeme
  pub is : StandsInFront at.at_line_start rest lexeme
  pub accepted : IsAccepted lexeme.evaluation
  pub at_is : at' ≡ after at lexeme.class lexeme.bytes
  pub items_are : items' ≡ items ++ token_of at lexeme.bytes lexeme.evaluation

-- the next lexeme is refused so
pub record IsRefused (at_line_start : Bool) (rest : List ℕ) (place : Place) (evaluation : Evaluation) (at : Place) : Type 0 where
  pub lexeme : Lexeme
  pub is : StandsInFront at_line_start rest lexeme
  pub evaluates_to : lexeme.evaluation ≡ evaluation
  pub stands : at ≡ place

abbrev pub Refuses : Bool → List ℕ → Place → LexError → Type 0
Refuses at_line_start rest place (BadToken at) = IsRefused at_line_start rest place bad at
Refuses at_line_start rest place (Unsupported at) = IsRefused at_line_start rest place unsupported at
Refuses at_line_start rest place (TooLong n) = IsRefused at_line_start rest place (too_long n) place
Refuses at_line_start rest place (Memory e) = Unit {0}

-- the cause of each refusal of a source
abbrev pub IsCause : List ℕ → LexError → Type 0
IsCause text (BadToken at) = IsFirstRefused text bad at
IsCause text (Unsupported at) = IsFirstRefused text unsupported at
IsCause text (TooLong n) = ((source_limit < length text) × (n ≡ length text)) ⊎ ((at : Place) × IsFirstRefused text (too_long n) at)
IsCause text (Memory e) = Unit {0}

-- the answer has these tokens, unless memory was wanting
abbrev pub HasTokens : Result Tokens LexError → List Token → Place → Type 0
HasTokens (Ok tokens) items end = (tokens.items ≡ items) × (tokens.end ≡ end)
HasTokens (Err (BadToken at)) items end = ⊥
HasTokens (Err (Unsupported at)) items end = ⊥
HasTokens (Err (TooLong n)) items end = ⊥
HasTokens (Err (Memory e)) items end = Unit {0}

-- the answer is this refusal, unless memory was wanting
abbrev pub HasRefusal : Result Tokens LexError → Evaluation → Place → Type 0
HasRefusal (Ok tokens) evaluation place = ⊥
HasRefusal (Err (BadToken at)) evaluation place = (evaluation ≡ bad) × (at ≡ place)
HasRefusal (Err (Unsupported at)) evaluation place = (evaluation ≡ unsupported) × (at ≡ place)
HasRefusal (Err (TooLong n)) evaluation place = evaluation ≡ too_long n
HasRefusal (Err (Memory e)) evaluation place = Unit {0}
