-- What the lexemes of each class are (C11 6.4), and which is the longest at the front of a text.
use Prim.Native.Char.{code}
use Rattle.std.specs.Prelude.{◌≡◌, ◌≢◌, ◌<◌, ◌≤◌, ◌+◌, ◌==◌, ◌&&◌, ◌||◌, ◌⊎◌, ℕ, Bool, IsTrue, List, length, take, EachIndex, slice_index, nat_eq, codes}
use Rattle.std.specs.Char.{is_ascii_digit}
use Rattle.std.specs.List.{starts_with}
use Rattle.mv_num.specs.Lists.{is_among}
use Rattle.mv_lexer.specs.Bytes.{is_white_space, is_nondigit, is_identifier_byte}
use Rattle.mv_lexer.specs.Characters.{IsQuoted}
use Rattle.mv_lexer.specs.Tables.{IsEntry}
use Rattle.mv_lexer.specs.declared.table.Table.TheVariants.{Punctuators, UnsupportedPunctuators}
use Rattle.mv_lexer.specs.declared.class.TokenClass.{TokenClass}
use Rattle.mv_lexer.specs.declared.class.TokenClass.TheVariants.{WhiteSpace, Comment, UnclosedComment, CharacterConstant, StringLiteral, Identifier, PreprocessingNumber, Punctuator, UnsupportedPunctuator, Other}

-- a byte of white space
pub record IsWhiteSpace (s : List ℕ) : Type 0 where
  pub one : length s ≡ 1
  pub first : IsTrue (is_white_space (slice_index s 0))

-- a nondigit, and then nondigits and digits (C11 6.4.2.1)
pub record IsIdentifier (s : List ℕ) : Type 0 where
  pub some : 0 < length s
  pub first : IsTrue (is_nondigit (slice_index s 0))
  pub each : EachIndex s (λ i. IsTrue (is_identifier_byte (slice_index s i)))

-- a byte that may stand behind another in a preprocessing number: a nondigit, a digit, a point, or a sign behind the letter of an exponent
abbrev pub continues_number : ℕ → ℕ → Bool
continues_number before b = (is_identifier_byte b || (b == code ".")) || (is_among b (codes "+-") && is_among before (codes "eEpP"))

-- a digit, and then bytes that may stand there (C11 6.4.8; the profile has none that begin with a point)
pub record IsPreprocessingNumber (s : List ℕ) : Type 0 where
  pub some : 0 < length s
  pub first : IsTrue (is_ascii_digit (slice_index s 0))
  pub each : (i : ℕ) → i + 1 < length s → IsTrue (continues_number (slice_index s i) (slice_index s (i + 1)))

-- // and then no line feed (C11 6.4.9p2)
pub record IsLineComment (s : List ℕ) : Type 0 where
  pub opens : IsTrue (starts_with nat_eq s (codes "//"))
  pub each : EachIndex s (λ i. slice_index s i ≢ code "\n")

-- */ stands there
abbrev pub ClosesComment : List ℕ → ℕ → Type 0
ClosesComment s i = (slice_index s i ≡ code "*") × (slice_index s (i + 1) ≡ code "/")

-- /* and bytes up to and with the first */ behind it (C11 6.4.9p1)
pub record IsBlockComment (s : List ℕ) : Type 0 where
  pub opens : IsTrue (starts_with nat_eq s (codes "/*"))
  pub close : ℕ
  pub behind : 2 ≤ close
  pub ends : length s ≡ close + 2
  pub closes : ClosesComment s close
  pub none_before : (i : ℕ) → 2 ≤ i → i < close → ClosesComment s i → ⊥

-- /* and bytes with no */
pub record IsUnclosedComment (s : List ℕ) : Type 0 where
  pub opens : IsTrue (starts_with nat_eq s (codes "/*"))
  pub none : (i : ℕ) → 2 ≤ i → i + 1 < length s → ClosesComment s i → ⊥

-- a byte that is no lexeme of another class, as C11 6.4p1 has it
pub record IsOther (s : List ℕ) : Type 0 where
  pub one : length s ≡ 1
  pub no_blank : IsWhiteSpace s → ⊥
  pub no_name : IsIdentifier s → ⊥
  pub no_number : IsPreprocessingNumber s → ⊥
  pub no_punctuator : (k : ℕ) → IsEntry Punctuators k s → ⊥
  pub no_unsupported_punctuator : (k : ℕ) → IsEntry UnsupportedPunctuators k s → ⊥

-- s is a lexeme of this class
abbrev pub IsLexeme : TokenClass → List ℕ → Type 0
IsLexeme WhiteSpace s = IsWhiteSpace s
IsLexeme Identifier s = IsIdentifier s
IsLexeme Comment s = IsLineComment s ⊎ IsBlockComment s
IsLexeme UnclosedComment s = IsUnclosedComment s
IsLexeme CharacterConstant s = (values : List ℕ) × IsQuoted (code "'") s values
IsLexeme StringLiteral s = (values : List ℕ) × IsQuoted (code "\"") s values
IsLexeme PreprocessingNumber s = IsPreprocessingNumber s
IsLexeme (Punctuator k) s = IsEntry Punctuators k s
IsLexeme UnsupportedPunctuator s = (k : ℕ) × IsEntry UnsupportedPunctuators k s
IsLexeme Other s = IsOther s

-- where s is between quotes it has values
abbrev pub HasValues : TokenClass → List ℕ → Type 0
HasValues CharacterConstant s = (values : List ℕ) × IsQuoted (code "'") s values
HasValues StringLiteral s = (values : List ℕ) × IsQuoted (code "\"") s values
HasValues _ s = Unit {0}

-- the first n bytes of the text are a lexeme of this class, and no lexeme there is longer: maximal munch (C11 6.4p4)
pub record IsLongestLexeme (text : List ℕ) (class : TokenClass) (n : ℕ) : Type 0 where
  pub in_range : n ≤ length text
  pub lexeme : IsLexeme class (take n text)
  pub longest : (m : ℕ) (other : TokenClass) → n < m → m ≤ length text → IsLexeme other (take m text) → ⊥
