-- The tokens of a text are slices of it.
use Rattle.std.proofs.Common.{◌≡◌, ℕ, ◌+◌, ◌<◌, ◌≤◌, List, [], ◌∷◌, ◌++◌, drop, length, sym, subst, arith, Ok, Err, Result}
use Rattle.std.proofs.lemmas.List.{length-drop}
use Rattle.std.specs.Prelude.{IfOk}
use Rattle.mv_lexer.proofs.IncludeLemmas.{front_range}
use Rattle.mv_lexer.specs.Place.{start, after}
use Rattle.mv_lexer.specs.Reading.{Lexeme, Scans, token_of, tokens_of, AreTokens, AreSlices, Evaluation, skipped, token, bad, unsupported, too_long}
use Rattle.mv_lexer.specs.declared.position.Position.{Position}
use Rattle.mv_lexer.specs.declared.error.LexError.{LexError}
use Rattle.mv_syntax.specs.declared.place.Place.{Place}
use Rattle.mv_syntax.specs.declared.token.Token.{Token}
use Rattle.mv_syntax.specs.declared.token.Tokens.{Tokens}

slices_from : (a b size : ℕ) (ts : List Token) → a ≤ b → AreSlices b size ts → AreSlices a size ts
slices_from a b size [] before is = omega (arith, before, is)
slices_from a b size (t ∷ ts) before is = (omega (arith, before, is.0), is.1, is.2)

-- one more lexeme in front
slices_more : (at : Position) (s : List ℕ) (evaluation : Evaluation) (size : ℕ) (ts : List Token) → 0 < length s → AreSlices (at.offset + length s) size ts → AreSlices at.offset size (token_of at s evaluation ++ ts)
slices_more at s (token what) size ts some is = (omega arith, omega (arith, some), is)
slices_more at s skipped size ts some is = slices_from at.offset (at.offset + length s) size ts (omega arith) is
slices_more at s bad size ts some is = slices_from at.offset (at.offset + length s) size ts (omega arith) is
slices_more at s unsupported size ts some is = slices_from at.offset (at.offset + length s) size ts (omega arith) is
slices_more at s (too_long n) size ts some is = slices_from at.offset (at.offset + length s) size ts (omega arith) is

slices_scanned : (at : Position) (lexemes : List Lexeme) (text rest : List ℕ) → Scans at lexemes text rest → AreSlices at.offset (at.offset + length text) (tokens_of at lexemes)
slices_scanned at [] text rest is = omega arith
slices_scanned at (l ∷ ls) text rest is =
    let n = length l.bytes in
    let range = front_range at.at_line_start text l.class n is.0.here in
    let next = after at l.class l.bytes in
    let later = slices_scanned next ls (drop n text) rest is.2 in
    let size : at.offset + n + length (drop n text) ≡ at.offset + length text = omega (arith, length-drop n text, range.0, range.1) in
    slices_more at l.bytes l.evaluation (at.offset + length text) (tokens_of next ls) range.0 (subst (λ m. AreSlices (at.offset + n) m (tokens_of next ls)) size later)

pub tokens_slices : (text : List ℕ) (items : List Token) (end : Place) → AreTokens text items end → AreSlices 0 (length text) items
tokens_slices text items end is =
    let size : 0 + length text ≡ length text = omega arith in
    subst (AreSlices 0 (length text)) (sym is.tokens) (subst (λ n. AreSlices 0 n (tokens_of start is.lexemes)) size (slices_scanned start is.lexemes text [] is.reading))

-- no more slices than bytes
slices_count : (at size : ℕ) (ts : List Token) → AreSlices at size ts → at + length ts ≤ size
slices_count at size [] is = omega (arith, is)
slices_count at size (t ∷ ts) is = let later = slices_count t.stop size ts is.2 in omega (arith, is.0, is.1, later)

pub tokens_count : (text : List ℕ) (items : List Token) (end : Place) → AreTokens text items end → length items ≤ length text
tokens_count text items end is = let counted = slices_count 0 (length text) items (tokens_slices text items end is) in omega (arith, counted)

-- the same of an answer
pub all_slices : (text : List ℕ) (result : Result Tokens LexError) → IfOk result (λ tokens. AreTokens text tokens.items tokens.end) → IfOk result (λ tokens. AreSlices 0 (length text) tokens.items)
all_slices text (Ok tokens) ok = tokens_slices text tokens.items tokens.end ok
all_slices text (Err e) ok = tt

pub all_counted : (text : List ℕ) (result : Result Tokens LexError) → IfOk result (λ tokens. AreTokens text tokens.items tokens.end) → IfOk result (λ tokens. length tokens.items ≤ length text)
all_counted text (Ok tokens) ok = tokens_count text tokens.items tokens.end ok
all_counted text (Err e) ok = tt
