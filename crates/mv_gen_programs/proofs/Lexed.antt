-- The tokens of generated texts.
use Rattle.std.proofs.Common.{◌≡◌, ℕ, zero, suc, ◌*◌, ◌≤◌, true, List, [], ◌∷◌, ◌++◌, length, get_or, take, drop, refl, sym, ap, subst, ◌∙◌, arith, append-nil, length-append}
use Rattle.std.specs.Prelude.{nat_le, codes}
use Rattle.std.proofs.lemmas.Bool.{and_parts, leb-true}
use Rattle.std.proofs.lemmas.List.{length-take-le}
use Rattle.mv_syntax.specs.declared.place.Place.{Place}
use Rattle.mv_syntax.specs.declared.token.Tokens.{Tokens}
use Rattle.mv_parse_grammar.specs.Terminals.{Terminal, terminals}
use Rattle.mv_lexer.specs.Include.{IsIncludeLine, line_feed, include_line}
use Rattle.mv_lexer.specs.Place.{start, after}
use Rattle.mv_lexer.specs.Reading.{Lexeme, StandsInFront, Scans, AreTokens, tokens_of, after_all, skipped, white_space}
use Rattle.mv_lexer.specs.Tables.{entries, headers, NoLonger}
use Rattle.mv_lexer.specs.declared.table.Table.TheVariants.{Headers}
use Rattle.mv_lexer.specs.declared.class.TokenClass.TheVariants.{WhiteSpace}
use Rattle.mv_lexer.proofs.LexemeLemmas.{passes_at}
use Rattle.mv_gen.specs.Generated.{drawn, functions, form_of, switch_of, constant_of, generated}
use Rattle.mv_gen_programs.proofs.Parts.{Part, bytes, lexemes, texts, Word, words, fits, first, all_fit}
use Rattle.mv_gen_programs.proofs.Longest.{blank_front, short_bytes}
use Rattle.mv_gen_programs.proofs.Scanned.{scanned, spelled, words_in, placed, place_in, placed_in}
use Rattle.mv_gen_programs.proofs.Lines.{switch_parts, definition_parts, drawn_parts, definitions_parts, before_parts, call_parts, calls_parts, after_parts, unit_parts}
use Rattle.mv_gen_programs.proofs.Fitting.{include_bytes, unit_fits, unit_text}

-- ---- the include line

abbrev header : List ℕ
header = codes "<multiverse.h>"

-- no header is longer
none_longer : (text : List ℕ) → NoLonger Headers (length (entries Headers)) 14 text
none_longer text = λ k m below longer in_range is.
    let short = leb-true (length (get_or headers k [])) 14 (passes_at (λ e. nat_le (length e) 14) headers refl k below) in
    let e : length (get_or headers k []) ≡ length (take m text) = ap length is in
    omega (arith, short, e, length-take-le m text in_range)

include_stands : (rest : List ℕ) → IsIncludeLine (include_bytes ++ (10 ∷ rest)) 23
include_stands rest = record {
  hash = refl;
  word = refl;
  number = 1;
  size = 14;
  header = record { in_range = omega arith; is = refl };
  fits = omega (arith, length-append header (10 ∷ rest));
  longest = none_longer (header ++ (10 ∷ rest));
  line = line_feed {s = 10 ∷ rest} WhiteSpace 1 (blank_front 10 rest refl) refl refl;
  ends = omega (arith, length-append include_bytes (10 ∷ rest));
}

abbrev pub include_lexeme : Lexeme
include_lexeme = record { class = WhiteSpace; bytes = include_bytes; evaluation = skipped }

include_front : (rest : List ℕ) → StandsInFront true (include_bytes ++ (10 ∷ rest)) include_lexeme
include_front rest = record { front = refl; here = include_line refl refl (include_stands rest); evaluation = white_space }

-- ---- the length of a text

texts_short : (xs : List Part) (next : ℕ) → all_fit xs next ≡ true → length (texts xs) ≤ 63 * length xs
texts_short [] next h = omega arith
texts_short (x ∷ xs) next h =
    let parts = and_parts (fits x (first xs next)) (all_fit xs next) h in
    let one = short_bytes x (first xs next) parts.0 in
    let more = texts_short xs next parts.1 in
    omega (arith, one, more, length-append (bytes x) (texts xs))

definition_short : (i f j c : ℕ) → length (definition_parts i f j c) ≤ 50
definition_short i zero j c = omega arith
definition_short i (suc zero) j c = omega arith
definition_short i (suc (suc zero)) j c = omega arith
definition_short i (suc (suc (suc f))) j c = omega arith

definitions_short : (seed i count : ℕ) → length (definitions_parts seed i count) ≤ 50 * count
unfolding definitions_parts
definitions_short seed i zero = omega arith
definitions_short seed i (suc count) =
    let x = drawn seed (suc i) in
    let one = definition_short i (form_of x) (switch_of x) (constant_of x) in
    let more = definitions_short seed (suc i) count in
    omega (arith, one, more, length-append (drawn_parts i x) (definitions_parts seed (suc i) count))

calls_short : (i count : ℕ) → length (calls_parts i count) ≤ 14 * count
unfolding calls_parts
calls_short i zero = omega arith
calls_short i (suc count) = let more = calls_short (suc i) count in omega (arith, more, length-append (call_parts i) (calls_parts (suc i) count))

unit_short : (seed : ℕ) → length (unit_parts seed) ≤ 3000
unit_short seed =
    let f = functions seed in
    let few : f ≤ 36 = omega arith in
    let d = definitions_parts seed 0 f in
    let e = calls_parts 0 f in
    let a = length-append switch_parts (d ++ (before_parts ++ (e ++ after_parts))) in
    let b = length-append d (before_parts ++ (e ++ after_parts)) in
    let g = length-append before_parts (e ++ after_parts) in
    let h = length-append e after_parts in
    let i = definitions_short seed 0 f in
    let j = calls_short 0 f in
    omega (arith, few, a, b, g, h, i, j)

-- ---- tokens

abbrev pub unit_lexemes : ℕ → List Lexeme
unit_lexemes seed = include_lexeme ∷ lexemes (unit_parts seed)

abbrev pub unit_tokens : ℕ → Tokens
unit_tokens seed = record { items = tokens_of start (unit_lexemes seed); end = (after_all start (unit_lexemes seed)).place }

abbrev whole : ℕ → List ℕ
whole seed = include_bytes ++ texts (unit_parts seed)

unit_scanned : (seed : ℕ) → Scans start (unit_lexemes seed) (whole seed) []
unit_scanned seed =
    let xs = unit_parts seed in
    let behind : drop 23 (whole seed) ≡ texts xs ++ [] = sym (append-nil (texts xs)) in (
      include_front (texts (switch_parts ++ (definitions_parts seed 0 (functions seed) ++ (before_parts ++ (calls_parts 0 (functions seed) ++ after_parts))))),
      tt,
      subst (λ (t : List ℕ). Scans (after start WhiteSpace include_bytes) (lexemes xs) t []) (sym behind) (scanned (after start WhiteSpace include_bytes) xs [] (unit_fits seed)),
    )

pub unit_lexed : (seed : ℕ) → AreTokens (generated seed) (unit_tokens seed).items (unit_tokens seed).end
unit_lexed seed =
    let short = texts_short (unit_parts seed) 0 (unit_fits seed) in
    let small : length (whole seed) ≤ 1048576 = omega (arith, short, unit_short seed, length-append include_bytes (texts (unit_parts seed))) in
    record {
      fits = subst (λ (t : List ℕ). length t ≤ 1048576) (unit_text seed) small;
      lexemes = unit_lexemes seed;
      reading = subst (λ (t : List ℕ). Scans start (unit_lexemes seed) t []) (unit_text seed) (unit_scanned seed);
      tokens = refl;
      at_end = refl;
    }

-- ---- terminals

abbrev pub unit_terminals : ℕ → List Terminal
unit_terminals seed = terminals (generated seed) (unit_tokens seed).items

abbrev pub unit_places : ℕ → ℕ → Place
unit_places seed = place_in (unit_terminals seed)

pub unit_words : (seed : ℕ) → words_in (unit_terminals seed) ≡ words (unit_parts seed)
unit_words seed =
    let xs = unit_parts seed in
    ap (λ (t : List ℕ). words_in (terminals t (unit_tokens seed).items)) (sym (unit_text seed))
    ∙ spelled xs (whole seed) include_bytes [] (after start WhiteSpace include_bytes) (ap (λ (t : List ℕ). include_bytes ++ t) (sym (append-nil (texts xs)))) refl

-- the terminals of a generated text are its words, wherever they stand
pub unit_placed : (seed : ℕ) → unit_terminals seed ≡ placed (unit_places seed) 0 (words (unit_parts seed))
unit_placed seed = placed_in (unit_terminals seed) ∙ ap (λ (ws : List Word). placed (unit_places seed) 0 ws) (unit_words seed)
