-- The tokens of a text, with the characters of its strings, are no more than its bytes.
use Rattle.std.proofs.Common.{◌≡◌, ℕ, ◌+◌, ◌<◌, ◌≤◌, List, [], ◌∷◌, ◌++◌, length, drop, ap, arith, length-drop}
use Rattle.mv_syntax.specs.declared.unit.Unit as unit
use Rattle.mv_syntax.specs.declared.token.Token.{Token}
use Rattle.mv_lexer.specs.Characters.{IsCharacter, plain, escape, Spells, IsQuoted}
use Rattle.mv_lexer.specs.Place.{start, after}
use Rattle.mv_lexer.specs.Reading as R
use Rattle.mv_lexer.specs.Reading.{Evaluation, Evaluates, Lexeme, Scans, token_of, tokens_of}
use Rattle.mv_lexer.specs.declared.class.TokenClass.{TokenClass}
use Rattle.mv_lexer.specs.declared.position.Position.{Position}
use Rattle.mv_lexer.proofs.IncludeLemmas.{front_range}
use Rattle.mv_parse_grammar.specs.Terminals.{terminals}
use Rattle.mv_parse_grammar.specs.Declarations.{characters_of_piece}
use Rattle.mv_parse_reading.specs.Texts.{ReadsAs}
use Rattle.mv_accepts.specs.Limits.Nodes.{unit_nodes}
use Rattle.mv_accepts.proofs.OfLimits.Phrases.{size}
use Rattle.mv_accepts.proofs.OfLimits.UnitBytes.{items_small}

-- ---- strings

-- a character has a byte
character_some : (quote : ℕ) (s : List ℕ) (v n : ℕ) → IsCharacter quote s v n → 0 < n
character_some quote s v n (plain a b c d e one) = omega (arith, one)
character_some quote s v n (escape m a b more) = omega (arith, more)

characters_within : (quote : ℕ) (s : List ℕ) (i j : ℕ) (vs : List ℕ) → Spells quote s i j vs → i + length vs ≤ j
characters_within quote s i j [] is = omega (arith, is)
characters_within quote s i j (v ∷ vs) is =
    omega (arith, character_some quote (drop i s) v is.0 is.1, characters_within quote s (i + is.0) j vs is.2)

string_within : (quote : ℕ) (s vs : List ℕ) → IsQuoted quote s vs → 1 + length vs ≤ length s
string_within quote s vs is = omega (arith, is.ends, characters_within quote s 1 is.close vs is.spells)

-- ---- lexemes

-- what a lexeme counts as a token
abbrev counted : Evaluation → ℕ
counted (R.token what) = 1 + length (characters_of_piece what)
counted R.skipped = 0
counted R.bad = 0
counted R.unsupported = 0
counted (R.too_long n) = 0

lexeme_within : (class : TokenClass) (s : List ℕ) (e : Evaluation) → 0 < length s → Evaluates class s e → counted e ≤ length s
lexeme_within class s e some R.white_space = omega arith
lexeme_within class s e some R.comment = omega arith
lexeme_within class s e some R.unclosed = omega arith
lexeme_within class s e some (R.keyword k is) = omega (arith, some)
lexeme_within class s e some (R.unsupported_keyword k is) = omega arith
lexeme_within class s e some (R.name l a b) = omega (arith, some)
lexeme_within class s e some (R.long_name l) = omega arith
lexeme_within class s e some (R.constant u k a b) = omega (arith, some)
lexeme_within class s e some (R.large u a b) = omega arith
lexeme_within class s e some (R.long is) = omega arith
lexeme_within class s e some (R.floating a b) = omega arith
lexeme_within class s e some (R.malformed a b c) = omega arith
lexeme_within class s e some (R.character v is) = omega (arith, some)
lexeme_within class s e some (R.no_character is) = omega arith
lexeme_within class s e some (R.characters v w vs is) = omega arith
lexeme_within class s e some (R.string values is) = string_within 34 s values is
lexeme_within class s e some (R.punctuator k) = omega (arith, some)
lexeme_within class s e some R.unsupported_punctuator = omega arith
lexeme_within class s e some R.other = omega arith

-- ---- texts

size_more : (text : List ℕ) (at : Position) (s : List ℕ) (e : Evaluation) (ts : List Token) → size (terminals text (token_of at s e ++ ts)) ≡ counted e + size (terminals text ts)
size_more text at s (R.token what) ts = omega arith
size_more text at s R.skipped ts = omega arith
size_more text at s R.bad ts = omega arith
size_more text at s R.unsupported ts = omega arith
size_more text at s (R.too_long n) ts = omega arith

scanned_within : (text : List ℕ) (at : Position) (lexemes : List Lexeme) (left rest : List ℕ) → Scans at lexemes left rest → size (terminals text (tokens_of at lexemes)) ≤ length left
scanned_within text at [] left rest is = omega arith
scanned_within text at (l ∷ ls) left rest is =
    let n = length l.bytes in
    let range = front_range at.at_line_start left l.class n is.0.here in
    let next = after at l.class l.bytes in
    let later = scanned_within text next ls (drop n left) rest is.2 in
    let here = lexeme_within l.class l.bytes l.evaluation range.0 is.0.evaluation in
    omega (arith, range.0, range.1, later, here, size_more text at l.bytes l.evaluation (tokens_of next ls), length-drop n left)

pub units_small : (text : List ℕ) (u : unit.Unit) → ReadsAs text u → unit_nodes u ≤ length text
units_small text u is =
    let same = ap (λ (ts : List Token). size (terminals text ts)) is.lexed.tokens in
    omega (arith, items_small (terminals text is.tokens.items) u.items is.parsed.items, same, scanned_within text start is.lexed.lexemes text [] is.lexed.reading)
