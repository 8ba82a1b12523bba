-- A source is one program, or is refused for one cause, and never both.
use Rattle.std.proofs.Common.{◌≡◌, ℕ, ◌<◌, List, length, ◌⊎◌, inl, inr, refl, sym, ap, subst, ◌∙◌, arith, Option, Some, None}
use Rattle.mv_syntax.specs.declared.place.Place.{Place}
use Rattle.mv_ast.specs.declared.program.Program.{Program}
use Rattle.mv_syntax.specs.declared.token.Tokens.{Tokens}
use Rattle.mv_syntax.specs.declared.unit.Unit as tree
use Rattle.mv_lexer.specs.Reading as lexing
use Rattle.mv_lexer.specs.Reading.{AreTokens, IsFirstRefused}
use Rattle.mv_lexer.proofs.OneReading.{refused_same, tokens_or_refused}
use Rattle.mv_parse_grammar.specs.Reading.{Reads}
use Rattle.mv_parse_grammar.proofs.Laws as grammar
use Rattle.mv_parse_reading.proofs.Texts.{one_unit}
use Rattle.mv_parser.specs.Verdict.{IsShallow, IsTooDeep, IsBroken}
use Rattle.mv_parser.proofs.Levels as level
use Rattle.mv_check_expressions.specs.Judged.{Judged, Good, Broken}
use Rattle.mv_check_limits.specs.Ordered.{first_excess}
use Rattle.mv_check_limits.specs.declared.excess.Exceeded.{Exceeded}
use Rattle.mv_check_rules.specs.Units.{judged_by_rules}
use Rattle.mv_front.specs.Refusals.{at_place, of_rule, counted}
use Rattle.mv_front.specs.Verdicts.{IsUnit, IsProgram, IsRefused, long_source, long_name, no_token, unsupported, too_deep, no_unit, broken_rule, over_limit}
use Rattle.mv_front.specs.declared.refusal.Refusal.{Refusal}
use Rattle.mv_front.proofs.Causes.{one_tokens}
use Rattle.std.proofs.lemmas.Option.{same_Some, none-some}

-- of these there is one at most
abbrev One : (Refusal → Type 0) → Type 0
One P = (r s : Refusal) → P r → P s → r ≡ s

one_of : (P Q : Refusal → Type 0) → One P → One Q → ((r s : Refusal) → P r → Q s → ⊥) → One (λ r. P r ⊎ Q r)
one_of P Q p q apart r s (inl h) (inl k) = p r s h k
one_of P Q p q apart r s (inl h) (inr k) = absurd (apart r s h k)
one_of P Q p q apart r s (inr h) (inl k) = absurd (apart s r k h)
one_of P Q p q apart r s (inr h) (inr k) = q r s h k

-- ---- the causes by their stages

-- the refusal of a lexeme
abbrev of_lexeme : lexing.Evaluation → Place → Refusal
of_lexeme lexing.skipped place = at_place 0 place
of_lexeme (lexing.token what) place = at_place 0 place
of_lexeme lexing.bad place = at_place 1 place
of_lexeme lexing.unsupported place = at_place 2 place
of_lexeme (lexing.too_long n) place = counted 3 0 n

-- the source has no tokens
data NoTokens (text : List ℕ) : Refusal → Type 0 where
  long : 1048576 < length text → NoTokens text (counted 3 0 (length text))
  lexeme : (what : lexing.Evaluation) (place : Place) → IsFirstRefused text what place → NoTokens text (of_lexeme what place)

-- it has, and they are no unit that is read
data NoUnit (text : List ℕ) : Refusal → Type 0 where
  deep : (tokens : Tokens) (place : Place) → AreTokens text tokens.items tokens.end → IsTooDeep tokens place → NoUnit text (at_place 5 place)
  broken : (tokens : Tokens) (place : Place) → AreTokens text tokens.items tokens.end → IsBroken text tokens place → NoUnit text (at_place 4 place)

-- the refusal of a unit, if it is no program
abbrev of_excess : Option Exceeded → Option Refusal
of_excess None = None
of_excess (Some e) = Some (counted 7 e.limit e.count)

abbrev of_judgement : tree.Unit → Judged Program → Option Refusal
of_judgement u (Broken place number) = Some (of_rule place number)
of_judgement u (Good p) = of_excess (first_excess u p)

abbrev of_unit : tree.Unit → Option Refusal
of_unit u = of_judgement u (judged_by_rules u)

-- they are, and the unit is no program
abbrev NoProgram : List ℕ → Refusal → Type 0
NoProgram text r = (u : tree.Unit) × IsUnit text u × (of_unit u ≡ Some r)

sorted : {text : List ℕ} {r : Refusal} → IsRefused text r → NoTokens text r ⊎ (NoUnit text r ⊎ NoProgram text r)
sorted (long_source h) = inl (long h)
sorted (long_name n place h) = inl (lexeme (lexing.too_long n) place h)
sorted (no_token place h) = inl (lexeme lexing.bad place h)
sorted (unsupported place h) = inl (lexeme lexing.unsupported place h)
sorted (too_deep tokens place l h) = inr (inl (deep tokens place l h))
sorted (no_unit tokens place l h) = inr (inl (broken tokens place l h))
sorted (broken_rule u place number reads h) = inr (inr (u, reads, ap (of_judgement u) h))
sorted (over_limit u p number count reads good h) = inr (inr (u, reads, ap (of_judgement u) good ∙ ap of_excess h))

-- ---- no tokens

no_tokens : {text : List ℕ} {r : Refusal} (tokens : Tokens) → NoTokens text r → AreTokens text tokens.items tokens.end → ⊥
no_tokens tokens (long h) l = omega (arith, h, l.fits)
no_tokens {text = text} tokens (lexeme what place h) l = tokens_or_refused text tokens.items tokens.end place what l h

one_lexing : (text : List ℕ) → One (NoTokens text)
one_lexing text r s (long h) (long k) = refl
one_lexing text r s (long h) (lexeme what place k) = absurd (omega (arith, h, k.fits))
one_lexing text r s (lexeme what place h) (long k) = absurd (omega (arith, k, h.fits))
one_lexing text r s (lexeme what place h) (lexeme other at k) =
    let e = refused_same text what other place at h k in
    ap (λ w. of_lexeme w place) e.0 ∙ ap (of_lexeme other) e.1

-- ---- no unit

reads_here : (text : List ℕ) (tokens : Tokens) (u : tree.Unit) → AreTokens text tokens.items tokens.end → IsUnit text u → Reads text tokens u
reads_here text tokens u l is = subst (λ z. Reads text z u) (one_tokens text is.reads.tokens tokens is.reads.lexed l) is.reads.parsed

no_units : {text : List ℕ} {r : Refusal} (u : tree.Unit) → NoUnit text r → IsUnit text u → ⊥
no_units {text = text} u (deep tokens place l h) is =
    level.never_both tokens place (subst IsShallow (one_tokens text is.reads.tokens tokens is.reads.lexed l) is.shallow) h
no_units {text = text} u (broken tokens place l h) is = grammar.unit_is_whole text tokens u place (reads_here text tokens u l is) h.at

one_parsing : (text : List ℕ) → One (NoUnit text)
one_parsing text r s (deep tokens place l h) (deep others at m k) =
    ap (at_place 5) (level.one_place others place at (subst (λ z. IsTooDeep z place) (one_tokens text tokens others l m) h) k)
one_parsing text r s (deep tokens place l h) (broken others at m k) =
    absurd (level.never_both others place k.shallow (subst (λ z. IsTooDeep z place) (one_tokens text tokens others l m) h))
one_parsing text r s (broken tokens place l h) (deep others at m k) =
    absurd (level.never_both tokens at h.shallow (subst (λ z. IsTooDeep z at) (one_tokens text others tokens m l) k))
one_parsing text r s (broken tokens place l h) (broken others at m k) =
    let here : IsBroken text others place = subst (λ z. IsBroken text z place) (one_tokens text tokens others l m) h in
    ap (at_place 4) (grammar.one_place text others place at here.at k.at)

no_unit_no_tokens : {text : List ℕ} {r s : Refusal} → NoTokens text r → NoUnit text s → ⊥
no_unit_no_tokens h (deep tokens place l k) = no_tokens tokens h l
no_unit_no_tokens h (broken tokens place l k) = no_tokens tokens h l

-- ---- no program

same_judgement : {text : List ℕ} (u v : tree.Unit) → IsUnit text u → IsUnit text v → judged_by_rules u ≡ judged_by_rules v
same_judgement {text = text} u v is there = ap judged_by_rules (one_unit text u v is.reads there.reads)

one_good : (p q : Program) → Good p ≡ Good q → p ≡ q
one_good p q e = cc

same_refusal : {text : List ℕ} (u v : tree.Unit) → IsUnit text u → IsUnit text v → of_unit u ≡ of_unit v
same_refusal {text = text} u v is there = ap of_unit (one_unit text u v is.reads there.reads)

one_checking : (text : List ℕ) → One (NoProgram text)
one_checking text r s (u, is, h) (v, there, k) = same_Some r s (sym h ∙ same_refusal u v is there ∙ k)

-- ---- the laws

pub one_program : (text : List ℕ) (p q : Program) → IsProgram text p → IsProgram text q → p ≡ q
one_program text p q h k =
    one_good p q (sym h.good ∙ same_judgement h.unit k.unit h.reads k.reads ∙ k.good)

no_program : (text : List ℕ) (p : Program) (r : Refusal) → IsProgram text p → NoProgram text r → ⊥
no_program text p r h (u, is, k) =
    let good : of_unit h.unit ≡ None = ap (of_judgement h.unit) h.good ∙ ap of_excess h.within in
    none-some r (sym good ∙ same_refusal h.unit u h.reads is ∙ k)

pub not_both : (text : List ℕ) (p : Program) (r : Refusal) → IsProgram text p → IsRefused text r → ⊥
not_both text p r h refused = go (sorted refused)
  where
    go : NoTokens text r ⊎ (NoUnit text r ⊎ NoProgram text r) → ⊥
    go (inl k) = no_tokens h.reads.reads.tokens k h.reads.reads.lexed
    go (inr (inl k)) = no_units h.unit k h.reads
    go (inr (inr k)) = no_program text p r h k

pub one_refusal : (text : List ℕ) (r s : Refusal) → IsRefused text r → IsRefused text s → r ≡ s
one_refusal text r s h k =
    one_of (NoTokens text) (λ r. NoUnit text r ⊎ NoProgram text r) (one_lexing text)
    (one_of (NoUnit text) (NoProgram text) (one_parsing text) (one_checking text) (λ r s a b. no_units b.0 a b.1)) lexed_before r s (sorted h) (sorted k)
  where
    lexed_before : (r s : Refusal) → NoTokens text r → NoUnit text s ⊎ NoProgram text s → ⊥
    lexed_before r s a (inl b) = no_unit_no_tokens a b
    lexed_before r s a (inr b) = no_tokens b.1.reads.tokens a b.1.reads.lexed
