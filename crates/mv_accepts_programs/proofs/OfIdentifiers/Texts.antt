-- Each name among the tokens of a text is an identifier that is no keyword.
use Rattle.std.proofs.Common.{◌≡◌, ℕ, ◌+◌, ◌-◌, Bool, true, refl, sym, ◌∙◌, ap, subst, List, [], ◌∷◌, ◌++◌, length, take, drop, arith}
use Rattle.std.specs.List.{AllByRecursion}
use Rattle.std.proofs.lemmas.List.{drop-drop}
use Rattle.mv_syntax.specs.declared.unit.Unit as unit
use Rattle.mv_syntax.specs.declared.token.Token.{Token}
use Rattle.mv_syntax.specs.declared.token.Piece.{Piece}
use Rattle.mv_lexer.specs.Include.{IsFrontLexeme, include_line, longest_lexeme}
use Rattle.mv_lexer.specs.Lexemes.{IsIdentifier}
use Rattle.mv_lexer.specs.Place.{start, after}
use Rattle.mv_lexer.specs.Reading as R
use Rattle.mv_lexer.specs.Reading.{Evaluates, Lexeme, Scans, StandsInFront, token_of, tokens_of}
use Rattle.mv_lexer.specs.declared.class.TokenClass.{TokenClass}
use Rattle.mv_lexer.specs.declared.class.TokenClass.TheVariants.{Identifier}
use Rattle.mv_lexer.specs.declared.position.Position.{Position}
use Rattle.mv_parse_grammar.specs.Terminals.{is_name_piece, terminals}
use Rattle.mv_parse_reading.specs.Texts.{ReadsAs}
use Rattle.mv_source_facts.specs.Facts.{IsName}
use Rattle.mv_accepts_programs.specs.Identifiers.Written.{IsWrittenItem}
use Rattle.mv_accepts_programs.proofs.OfIdentifiers.Phrases.{AreNamed}
use Rattle.mv_accepts_programs.proofs.OfIdentifiers.Declarations.{items_written}

-- ---- a lexeme that is a name

identifier_in_front : (at_line_start : Bool) (text s : List ℕ) → take (length s) text ≡ s → IsFrontLexeme at_line_start text Identifier (length s) → IsIdentifier s
identifier_in_front b text s front (include_line x q is) = absurd (cc)
identifier_in_front b text s front (longest_lexeme x is) = subst IsIdentifier front is.lexeme

name_evaluated : (at_line_start : Bool) (text : List ℕ) (class : TokenClass) (s : List ℕ) (what : Piece) → is_name_piece what ≡ true → take (length s) text ≡ s →
    IsFrontLexeme at_line_start text class (length s) → Evaluates class s (R.token what) → IsName s
name_evaluated b text class s what q front here (R.keyword k is) = absurd (cc)
name_evaluated b text class s what q front here (R.name short none none_other) = record {
  identifier = identifier_in_front b text s front here;
  short = short;
  no_keyword = none;
  no_unsupported = none_other;
}
name_evaluated b text class s what q front here (R.constant u k x y) = absurd (cc)
name_evaluated b text class s what q front here (R.character v is) = absurd (cc)
name_evaluated b text class s what q front here (R.string values is) = absurd (cc)
name_evaluated b text class s what q front here (R.punctuator k) = absurd (cc)

-- ---- the tokens of a text

-- the bytes of a token are those of its lexeme
spelled : (text left s : List ℕ) (offset : ℕ) → drop offset text ≡ left → take (length s) left ≡ s → take (offset + length s - offset) (drop offset text) ≡ s
spelled text left s offset e front =
    let n : offset + length s - offset ≡ length s = omega arith in
    ap (λ m. take m (drop offset text)) n ∙ (ap (take (length s)) e ∙ front)

one_named : (text left : List ℕ) (at : Position) (l : Lexeme) (ts : List Token) → drop at.offset text ≡ left → StandsInFront at.at_line_start left l →
    AreNamed (terminals text ts) → AreNamed (terminals text (token_of at l.bytes l.evaluation ++ ts))
one_named text left at l ts e is h = by l.evaluation is.evaluation
  where
    by : (v : R.Evaluation) → Evaluates l.class l.bytes v → AreNamed (terminals text (token_of at l.bytes v ++ ts))
    by (R.token what) k = (
      λ q. subst IsName (sym (spelled text left l.bytes at.offset e is.front)) (name_evaluated at.at_line_start left l.class l.bytes what q is.front is.here k),
      h,
    )
    by R.skipped k = h
    by R.bad k = h
    by R.unsupported k = h
    by (R.too_long n) k = h

scanned_named : (text : List ℕ) (at : Position) (lexemes : List Lexeme) (left rest : List ℕ) → drop at.offset text ≡ left → Scans at lexemes left rest →
    AreNamed (terminals text (tokens_of at lexemes))
scanned_named text at [] left rest e is = tt
scanned_named text at (l ∷ ls) left rest e is =
    let n = length l.bytes in
    let next = after at l.class l.bytes in
    one_named text left at l (tokens_of next ls) e is.0
    (scanned_named text next ls (drop n left) rest (sym (drop-drop n at.offset text) ∙ ap (drop n) e) is.2)

pub units_written : (text : List ℕ) (u : unit.Unit) → ReadsAs text u → AllByRecursion IsWrittenItem u.items
units_written text u is =
    items_written (terminals text is.tokens.items) u.items
    (subst (λ (ts : List Token). AreNamed (terminals text ts)) (sym is.lexed.tokens) (scanned_named text start is.lexed.lexemes text [] refl is.lexed.reading)) is.parsed.items
