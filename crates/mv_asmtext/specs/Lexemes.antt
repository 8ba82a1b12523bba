-- The lexemes of a line: words, each the longest at its place, and marks. Blanks part lexemes, and a comment ends the line.
use Rattle.std.specs.Prelude.{ℕ, Bool, false, ◌==◌, ◌||◌, ◌&&◌, List, [], ◌∷◌, if◌then◌else◌}
use Rattle.std.specs.Char.{is_ascii_digit, is_ascii_alphabetic}
use Rattle.std.specs.List.{list_all}
use Rattle.mv_asmtext.specs.declared.lexeme.Token.{Token}
use Rattle.mv_asmtext.specs.declared.lexeme.Token.TheVariants as tokens

-- a space or a tab
unfoldable pub is_blank : ℕ → Bool
is_blank b = (b == 32) || (b == 9)

abbrev pub is_letter : ℕ → Bool
is_letter b = is_ascii_alphabetic b || (b == 95)

unfoldable pub is_name_byte : ℕ → Bool
is_name_byte b = is_letter b || is_ascii_digit b

-- a byte of a name, a point or a sign
unfoldable pub is_word_byte : ℕ → Bool
is_word_byte b = (is_name_byte b || (b == 46)) || (b == 45)

-- a letter or an underscore, and then letters, digits and underscores
abbrev pub is_name : List ℕ → Bool
is_name [] = false
is_name (b ∷ bs) = is_letter b && list_all is_name_byte bs

pub data Lexeme : Type 0 where
  word : List ℕ → Lexeme
  mark : ℕ → Lexeme

abbrev pub begins_word : List ℕ → Bool
begins_word [] = false
begins_word (b ∷ bs) = is_word_byte b

-- a byte before the word that comes first
abbrev pub lengthened : ℕ → List Lexeme → List Lexeme
lengthened b [] = word (b ∷ []) ∷ []
lengthened b (word bs ∷ ls) = word (b ∷ bs) ∷ ls
lengthened b (mark c ∷ ls) = word (b ∷ []) ∷ mark c ∷ ls

-- a comment begins with #
unfoldable pub lexemes : List ℕ → List Lexeme
lexemes [] = []
lexemes (b ∷ bs) =
    if is_word_byte b then (if begins_word bs then lengthened b (lexemes bs) else word (b ∷ []) ∷ lexemes bs)
    else (if is_blank b then lexemes bs
    else (if b == 35 then [] else mark b ∷ lexemes bs))

abbrev pub lexeme_of : Token → Lexeme
lexeme_of (tokens.Word bytes) = word bytes.now
lexeme_of (tokens.Mark b) = mark b
