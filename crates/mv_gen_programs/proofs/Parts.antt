-- The lexemes that generated texts are made of, and what tells that each is the longest at its place.
use Rattle.std.proofs.Common.{ℕ, ◌+◌, ◌^◌, Bool, true, false, Option, Some, None, List, [], ◌∷◌, ◌++◌, length, get_or, take}
use Rattle.std.specs.Prelude.{◌&&◌, ◌==◌, not, nat_eq, nat_le, nat_lt}
use Rattle.std.specs.Fmt.{decimal}
use Rattle.std.specs.List.{list_all}
use Rattle.std.specs.Char.{is_ascii_digit}
use Rattle.mv_num.specs.declared.kind.Kind.TheVariants.{Int}
use Rattle.mv_syntax.specs.declared.token.Piece.{Piece}
use Rattle.mv_syntax.specs.declared.token.Piece.TheVariants as piece
use Rattle.mv_lexer.specs.Bytes.{is_white_space, is_nondigit, is_identifier_byte, begins_comment}
use Rattle.mv_lexer.specs.Numbers.{digits, base, value, suffix, short_suffix, are_digits}
use Rattle.mv_lexer.specs.Reading.{Lexeme, Evaluation, skipped, token}
use Rattle.mv_lexer.specs.Tables.{keywords, unsupported_keywords, punctuators, unsupported_punctuators}
use Rattle.mv_lexer.specs.declared.class.TokenClass.{TokenClass}
use Rattle.mv_lexer.specs.declared.class.TokenClass.TheVariants.{WhiteSpace, Identifier, PreprocessingNumber, Punctuator}
use Rattle.mv_lexer.proofs.LexemeLemmas.{each_passes, is_punctuator_byte}
use Rattle.mv_check_outline.specs.Names.{same_name}

-- a byte of white space, the keyword of a number, a name, a number in decimal, or the punctuator of a number
pub data Part : Type 0 where
  blank : ℕ → Part
  word : ℕ → Part
  name : List ℕ → Part
  number : ℕ → Part
  sign : ℕ → Part

abbrev pub bytes : Part → List ℕ
bytes (blank b) = b ∷ []
bytes (word k) = get_or keywords k []
bytes (name s) = s
bytes (number n) = decimal n
bytes (sign k) = get_or punctuators k []

abbrev pub class_of : Part → TokenClass
class_of (blank b) = WhiteSpace
class_of (word k) = Identifier
class_of (name s) = Identifier
class_of (number n) = PreprocessingNumber
class_of (sign k) = Punctuator k

abbrev pub evaluation_of : Part → Evaluation
evaluation_of (blank b) = skipped
evaluation_of (word k) = token (piece.Keyword k)
evaluation_of (name s) = token piece.Name
evaluation_of (number n) = token (piece.Number n Int)
evaluation_of (sign k) = token (piece.Mark k)

abbrev pub lexeme : Part → Lexeme
lexeme x = record { class = class_of x; bytes = bytes x; evaluation = evaluation_of x }

abbrev pub lexemes : List Part → List Lexeme
lexemes [] = []
lexemes (x ∷ xs) = lexeme x ∷ lexemes xs

abbrev pub texts : List Part → List ℕ
texts [] = []
texts (x ∷ xs) = bytes x ++ texts xs

-- ---- what a token is, and its spelling

abbrev pub Word : Type 0
Word = Piece × List ℕ

abbrev pub word_of : Part → List Word
word_of (blank b) = []
word_of (word k) = (piece.Keyword k, get_or keywords k []) ∷ []
word_of (name s) = (piece.Name, s) ∷ []
word_of (number n) = (piece.Number n Int, decimal n) ∷ []
word_of (sign k) = (piece.Mark k, get_or punctuators k []) ∷ []

abbrev pub words : List Part → List Word
words [] = []
words (x ∷ xs) = word_of x ++ words xs

-- ---- whether a part is the longest lexeme before a byte

abbrev pub ends_word : ℕ → Bool
ends_word next = not (is_identifier_byte next)

unfoldable pub word_fits : (k next : ℕ) → Bool
word_fits k next = nat_lt k 22 && ends_word next

unfoldable pub is_name : List ℕ → Bool
is_name s =
    (nat_lt 0 (length s) && is_nondigit (get_or s 0 0))
    && ((list_all is_identifier_byte s && nat_le (length s) 63)
    && (each_passes (λ e. not (same_name s e)) keywords && each_passes (λ e. not (same_name s e)) unsupported_keywords))

abbrev pub is_plain : Option Bool → Bool
is_plain None = false
is_plain (Some unsigned) = not unsigned

-- a decimal number of this value, which is an `int`
abbrev pub is_decimal : List ℕ → ℕ → Bool
is_decimal s n =
    (nat_lt 0 (length s) && list_all is_ascii_digit s)
    && ((nat_lt 0 (length (digits s)) && are_digits (base s) (digits s))
    && (is_plain (short_suffix (suffix s)) && (nat_eq (value s) n && nat_lt n (2 ^ 31))))

unfoldable pub is_constant : ℕ → Bool
is_constant n = is_decimal (decimal n) n

unfoldable pub is_number : ℕ → Bool
is_number n = is_constant n && nat_le (length (decimal n)) 63

abbrev pub ends_number : ℕ → Bool
ends_number next = (not (is_identifier_byte next) && not (next == 46)) && (not (next == 43) && not (next == 45))

-- the entry and the byte behind it begin no entry that is longer
abbrev pub is_longest : List ℕ → ℕ → List (List ℕ) → Bool
is_longest s next entries = each_passes (λ e. not (same_name (take (length s + 1) e) (s ++ next ∷ []))) entries

unfoldable pub sign_fits : (k next : ℕ) → Bool
sign_fits k next =
    let s = get_or punctuators k [] in
    (nat_lt k 43 && nat_lt 0 (length s))
    && ((is_punctuator_byte (get_or s 0 0) && not (get_or s 0 0 == 35))
    && (not (begins_comment (s ++ next ∷ [])) && (is_longest s next punctuators && is_longest s next unsupported_punctuators)))

abbrev pub fits : Part → ℕ → Bool
fits (blank b) next = is_white_space b
fits (word k) next = word_fits k next
fits (name s) next = is_name s && ends_word next
fits (number n) next = is_number n && ends_number next
fits (sign k) next = sign_fits k next

-- the first byte of some parts, or the byte behind them
abbrev pub first : List Part → ℕ → ℕ
first [] next = next
first (x ∷ xs) next = get_or (bytes x) 0 0

abbrev pub all_fit : List Part → ℕ → Bool
all_fit [] next = true
all_fit (x ∷ xs) next = fits x (first xs next) && all_fit xs next
