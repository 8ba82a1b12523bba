-- Each answer has its cause, and each cause its answer.
use Rattle.std.proofs.Common.{◌≡◌, ℕ, ◌<◌, ◌≤◌, List, [], ◌∷◌, Result, Ok, Err, IfOk, IfErr, length, sym, ap, subst, ◌∙◌, arith}
use Rattle.mv_syntax.specs.declared.place.Place.{Place}
use Rattle.mv_syntax.specs.declared.token.Token.{Token}
use Rattle.mv_syntax.specs.declared.token.Tokens.{Tokens}
use Rattle.mv_syntax.specs.declared.unit.Unit as unit
use Rattle.mv_lexer.specs.Reading.{AreTokens, AreSlices}
use Rattle.mv_lexer.proofs.OneReading.{tokens_same}
use Rattle.mv_lexer.proofs.SliceLemmas.{tokens_slices}
use Rattle.mv_parse_grammar.specs.Reading.{Reads, BreaksAt, AreWithin}
use Rattle.mv_parse_grammar.proofs.Sources.{front_begins_in}
use Rattle.mv_parse_grammar.proofs.Laws as laws
use Rattle.mv_parse_reading.specs.Texts.{ReadsAs}
use Rattle.mv_parser.specs.declared.error.ParseError.{ParseError}
use Rattle.mv_parser.specs.declared.error.ParseError.TheVariants.{Nesting, Syntax, Memory}
use Rattle.mv_parser.specs.Verdict.{IsShallow, IsTooDeep, IsAccepted, IsBroken, IsCause, HasUnit, HasNesting, HasSyntax, IsRead, IsJudged}
use Rattle.mv_parser.proofs.Levels as level

-- the limit on the level

pub limited : (text : List ℕ) (tokens : Tokens) (r : Result unit.Unit ParseError) → IsShallow tokens → IsRead text tokens r → IsJudged text tokens r
limited text tokens (Ok u) s h = (s, h)
limited text tokens (Err (Nesting place)) s h = absurd h
limited text tokens (Err (Syntax place)) s h = (s, h)
limited text tokens (Err (Memory e)) s h = tt

-- slices of a text end within it

slices_end : (at size : ℕ) (ts : List Token) → AreSlices at size ts → at ≤ size
slices_end at size [] h = h
slices_end at size (t ∷ ts) h =
    let a : at ≤ t.start = h.0 in
    let b : t.start < t.stop = h.1 in
    let c : t.stop ≤ size = slices_end t.stop size ts h.2 in
    omega arith

slices_within : (at size : ℕ) (ts : List Token) → AreSlices at size ts → AreWithin size ts
slices_within at size [] h = tt
slices_within at size (t ∷ ts) h = (slices_end t.stop size ts h.2, slices_within t.stop size ts h.2)

-- each answer has its cause

pub ok : (text : List ℕ) (tokens : Tokens) (r : Result unit.Unit ParseError) → AreTokens text tokens.items tokens.end → IsJudged text tokens r → IfOk r (λ u. IsAccepted text tokens u)
ok text tokens (Ok u) l h = record { reads = record { tokens = tokens; lexed = l; parsed = h.1.reads }; shallow = h.0 }
ok text tokens (Err e) l h = tt

broken : (text : List ℕ) (tokens : Tokens) (place : Place) → AreTokens text tokens.items tokens.end → IsShallow tokens → BreaksAt text tokens place → IsBroken text tokens place
broken text tokens place l s b = record {
  shallow = s;
  at = b;
  begins = front_begins_in text tokens.items b.breaks.before b.breaks.rest b.breaks.whole
      (slices_within 0 (length text) tokens.items (tokens_slices text tokens.items tokens.end l)) b.breaks.begins;
}

pub err : (text : List ℕ) (tokens : Tokens) (r : Result unit.Unit ParseError) → AreTokens text tokens.items tokens.end → IsJudged text tokens r → IfErr r (λ e. IsCause text tokens e)
err text tokens (Ok u) l h = tt
err text tokens (Err (Nesting place)) l h = h
err text tokens (Err (Syntax place)) l h = broken text tokens place l h.0 h.1
err text tokens (Err (Memory e)) l h = tt

-- each cause has its answer

tokens_of : List Token → Place → Tokens
tokens_of items end = record { items = items; end = end }

reads_here : (text : List ℕ) (tokens : Tokens) (u : unit.Unit) → AreTokens text tokens.items tokens.end → ReadsAs text u → Reads text tokens u
unfolding tokens_of
reads_here text tokens u l k =
    let e = tokens_same text k.tokens.items tokens.items k.tokens.end tokens.end k.lexed l in
    let same : k.tokens ≡ tokens = ap (λ z. tokens_of z k.tokens.end) e.0 ∙ ap (tokens_of tokens.items) e.1 in
    subst (λ z. Reads text z u) same k.parsed

pub all_units : (text : List ℕ) (tokens : Tokens) (r : Result unit.Unit ParseError) → AreTokens text tokens.items tokens.end → IsJudged text tokens r → (u : unit.Unit) → ReadsAs text u → IsShallow tokens → HasUnit r u
all_units text tokens (Ok v) l h u k s = sym (h.1.only u (reads_here text tokens u l k))
all_units text tokens (Err (Nesting place)) l h u k s = level.never_both tokens place s h
all_units text tokens (Err (Syntax place)) l h u k s = laws.unit_is_whole text tokens u place (reads_here text tokens u l k) h.1
all_units text tokens (Err (Memory e)) l h u k s = tt

pub all_nestings : (text : List ℕ) (tokens : Tokens) (r : Result unit.Unit ParseError) → IsJudged text tokens r → (place : Place) → IsTooDeep tokens place → HasNesting r place
all_nestings text tokens (Ok u) h place d = level.never_both tokens place h.0 d
all_nestings text tokens (Err (Nesting at)) h place d = level.one_place tokens at place h d
all_nestings text tokens (Err (Syntax at)) h place d = level.never_both tokens place h.0 d
all_nestings text tokens (Err (Memory e)) h place d = tt

pub all_breaks : (text : List ℕ) (tokens : Tokens) (r : Result unit.Unit ParseError) → IsJudged text tokens r → (place : Place) → IsShallow tokens → BreaksAt text tokens place → HasSyntax r place
all_breaks text tokens (Ok u) h place s b = laws.unit_is_whole text tokens u place h.1.reads b
all_breaks text tokens (Err (Nesting at)) h place s b = level.never_both tokens at s h
all_breaks text tokens (Err (Syntax at)) h place s b = laws.one_place text tokens at place h.1 b
all_breaks text tokens (Err (Memory e)) h place s b = tt
