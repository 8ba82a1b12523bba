-- Two readings of one text are equal.
use Rattle.std.proofs.Common.{◌≡◌, ℕ, ◌<◌, Bool, true, List, [], ◌∷◌, length, take, drop, refl, sym, ap, ◌∙◌, subst, inl, inr, Some, None, Ok, Err, Result, arith, leb}
use Rattle.std.specs.Prelude.{is_none, IfOk, IfErr}
use Rattle.std.proofs.lemmas.Bool.{both_ways, leb-true}
use Rattle.mv_num.specs.declared.kind.Kind.{Kind}
use Rattle.mv_num.specs.declared.kind.Kind.TheVariants.{Int}
use Rattle.mv_syntax.specs.declared.token.Piece.TheVariants as Is
use Rattle.mv_syntax.specs.declared.place.Place.{Place}
use Rattle.mv_syntax.specs.declared.token.Token.{Token}
use Rattle.mv_syntax.specs.declared.token.Tokens.{Tokens}
use Rattle.mv_lexer.specs.declared.error.LexError.{LexError}
use Rattle.mv_lexer.specs.declared.error.LexError.TheVariants.{BadToken, Unsupported, TooLong, Memory}
use Rattle.mv_lexer.specs.Numbers.{IsIntegerConstant, IsLongConstant, kind_of, base, value, suffix, short_suffix, is_floating}
use Rattle.mv_lexer.specs.Characters.{IsQuoted, IsQuote}
use Rattle.mv_lexer.specs.Tables.{IsEntry, entries}
use Rattle.mv_lexer.specs.declared.table.Table.{Table}
use Rattle.mv_lexer.specs.declared.table.Table.TheVariants.{Keywords, UnsupportedKeywords, LongSuffixes}
use Rattle.mv_lexer.specs.declared.class.TokenClass.{TokenClass}
use Rattle.mv_lexer.specs.Place.{start, after}
use Rattle.mv_lexer.specs.Reading.{Evaluation, token, Evaluates, white_space, comment, unclosed, keyword, unsupported_keyword, name, long_name, constant, large, long, floating, malformed, character, no_character, characters, string, punctuator, unsupported_punctuator, other, Lexeme, StandsInFront, IsAccepted, Scans, AreTokens, IsFirstRefused, tokens_of, after_all, bad, unsupported, too_long, IsCause, HasTokens, HasRefusal}
use Rattle.mv_lexer.proofs.LexemeLemmas.{each_passes, passes_at}
use Rattle.mv_lexer.proofs.QuoteLemmas.{spells_same, quote_other}
use Rattle.mv_lexer.proofs.SameLemmas.{entries_apart, entry_same}
use Rattle.mv_lexer.proofs.IncludeLemmas.{front_range, front_same}
use Rattle.mv_lexer.specs.declared.position.Position.{Position}

entry_short : (table : Table) (k : ℕ) (s : List ℕ) → each_passes (λ e. leb (length e) 63) (entries table) ≡ true → IsEntry table k s → 63 < length s → ⊥
entry_short table k s all is above =
    let short = leb-true (length s) 63 (ap (λ e. leb (length e) 63) is.is ∙ passes_at (λ e. leb (length e) 63) (entries table) all k is.in_range) in
    omega (arith, short, above)

unsigned_same : (s : List ℕ) (u v : Bool) → IsIntegerConstant s u → IsIntegerConstant s v → u ≡ v
unsigned_same s u v c d = let same : Some u ≡ Some v = sym c.has_suffix ∙ d.has_suffix in cc

kind_same : (s : List ℕ) (u v : Bool) (k j : Kind) → IsIntegerConstant s u → IsIntegerConstant s v → kind_of (base s) u (value s) ≡ Some k → kind_of (base s) v (value s) ≡ Some j → k ≡ j
kind_same s u v k j c d e f = let same : Some k ≡ Some j = sym e ∙ ap (λ t. kind_of (base s) t (value s)) (unsigned_same s u v c d) ∙ f in cc

kind_or_none : (s : List ℕ) (u v : Bool) (k : Kind) → IsIntegerConstant s u → IsIntegerConstant s v → kind_of (base s) u (value s) ≡ Some k → kind_of (base s) v (value s) ≡ None → ⊥
kind_or_none s u v k c d e f = let same : Some k ≡ None = sym e ∙ ap (λ t. kind_of (base s) t (value s)) (unsigned_same s u v c d) ∙ f in cc

short_or_long : (s : List ℕ) (u : Bool) → IsIntegerConstant s u → IsLongConstant s → ⊥
short_or_long s u c d =
    let none = ap (λ e. is_none (short_suffix e)) d.has_suffix.is ∙ passes_at (λ e. is_none (short_suffix e)) (entries LongSuffixes) refl d.number d.has_suffix.in_range in
    both_ways (is_none (short_suffix (suffix s))) (ap is_none c.has_suffix) none

quoted_same : (quote : ℕ) (s vs ws : List ℕ) → IsQuote quote → IsQuoted quote s vs → IsQuoted quote s ws → vs ≡ ws
quoted_same quote s vs ws is_quote a b = (spells_same quote s (quote_other quote is_quote) 1 a.close b.close vs ws a.spells a.closes b.spells b.closes).1

-- a lexeme evaluates to one thing
evaluation_same : {class : TokenClass} {s : List ℕ} {w v : Evaluation} → Evaluates class s w → Evaluates class s v → w ≡ v
evaluation_same {s = s} (keyword k e) (keyword j f) = ap (λ n. token (Is.Keyword n)) (entry_same Keywords k j s refl e f)
evaluation_same {s = s} (keyword k e) (unsupported_keyword j f) = absurd (entries_apart Keywords UnsupportedKeywords k j s refl e f)
evaluation_same {s = s} (keyword k e) (name m c d) = absurd (c k e)
evaluation_same {s = s} (keyword k e) (long_name m) = absurd (entry_short Keywords k s refl e m)
evaluation_same {s = s} (unsupported_keyword k e) (keyword j f) = absurd (entries_apart Keywords UnsupportedKeywords j k s refl f e)
evaluation_same {s = s} (unsupported_keyword k e) (unsupported_keyword j f) = refl
evaluation_same {s = s} (unsupported_keyword k e) (name m c d) = absurd (d k e)
evaluation_same {s = s} (unsupported_keyword k e) (long_name m) = absurd (entry_short UnsupportedKeywords k s refl e m)
evaluation_same {s = s} (name l a b) (keyword j f) = absurd (a j f)
evaluation_same {s = s} (name l a b) (unsupported_keyword j f) = absurd (b j f)
evaluation_same {s = s} (name l a b) (name m c d) = refl
evaluation_same {s = s} (name l a b) (long_name m) = absurd (omega arith)
evaluation_same {s = s} (long_name l) (keyword j f) = absurd (entry_short Keywords j s refl f l)
evaluation_same {s = s} (long_name l) (unsupported_keyword j f) = absurd (entry_short UnsupportedKeywords j s refl f l)
evaluation_same {s = s} (long_name l) (name m c d) = absurd (omega arith)
evaluation_same {s = s} (long_name l) (long_name m) = refl
evaluation_same {s = s} (constant u k c e) (constant v j d f) = ap (λ kind. token (Is.Number (value s) kind)) (kind_same s u v k j c d e f)
evaluation_same {s = s} (constant u k c e) (large v d f) = absurd (kind_or_none s u v k c d e f)
evaluation_same {s = s} (constant u k c e) (long d) = absurd (short_or_long s u c d)
evaluation_same {s = s} (constant u k c e) (floating d f) = absurd (d u c)
evaluation_same {s = s} (constant u k c e) (malformed x y f) = absurd (x u c)
evaluation_same {s = s} (large u c e) (constant v j d f) = absurd (kind_or_none s v u j d c f e)
evaluation_same {s = s} (large u c e) (large v d f) = refl
evaluation_same {s = s} (large u c e) (long d) = refl
evaluation_same {s = s} (large u c e) (floating d f) = refl
evaluation_same {s = s} (large u c e) (malformed x y f) = absurd (x u c)
evaluation_same {s = s} (long c) (constant v j d f) = absurd (short_or_long s v d c)
evaluation_same {s = s} (long c) (large v d f) = refl
evaluation_same {s = s} (long c) (long d) = refl
evaluation_same {s = s} (long c) (floating d f) = refl
evaluation_same {s = s} (long c) (malformed x y f) = absurd (y c)
evaluation_same {s = s} (floating c e) (constant v j d f) = absurd (c v d)
evaluation_same {s = s} (floating c e) (large v d f) = refl
evaluation_same {s = s} (floating c e) (long d) = refl
evaluation_same {s = s} (floating c e) (floating d f) = refl
evaluation_same {s = s} (floating c e) (malformed x y f) = absurd (both_ways (is_floating s) f e)
evaluation_same {s = s} (malformed a b e) (constant v j d f) = absurd (a v d)
evaluation_same {s = s} (malformed a b e) (large v d f) = absurd (a v d)
evaluation_same {s = s} (malformed a b e) (long d) = absurd (b d)
evaluation_same {s = s} (malformed a b e) (floating d f) = absurd (both_ways (is_floating s) e f)
evaluation_same {s = s} (malformed a b e) (malformed x y f) = refl
evaluation_same {s = s} (character v a) (character x b) = let same = quoted_same 39 s (v ∷ []) (x ∷ []) (inr refl) a b in ap (λ n. token (Is.Number n Int)) cc
evaluation_same {s = s} (character v a) (no_character b) = absurd (let same = quoted_same 39 s (v ∷ []) ([]) (inr refl) a b in cc)
evaluation_same {s = s} (character v a) (characters x y xs b) = absurd (let same = quoted_same 39 s (v ∷ []) (x ∷ y ∷ xs) (inr refl) a b in cc)
evaluation_same {s = s} (no_character a) (character x b) = absurd (let same = quoted_same 39 s ([]) (x ∷ []) (inr refl) a b in cc)
evaluation_same {s = s} (no_character a) (no_character b) = refl
evaluation_same {s = s} (no_character a) (characters x y xs b) = absurd (let same = quoted_same 39 s ([]) (x ∷ y ∷ xs) (inr refl) a b in cc)
evaluation_same {s = s} (characters v w vs a) (character x b) = absurd (let same = quoted_same 39 s (v ∷ w ∷ vs) (x ∷ []) (inr refl) a b in cc)
evaluation_same {s = s} (characters v w vs a) (no_character b) = absurd (let same = quoted_same 39 s (v ∷ w ∷ vs) ([]) (inr refl) a b in cc)
evaluation_same {s = s} (characters v w vs a) (characters x y xs b) = refl
evaluation_same {s = s} (string vs a) (string ws b) = ap (λ l. token (Is.Chars l)) (quoted_same 34 s vs ws (inl refl) a b)
evaluation_same white_space white_space = refl
evaluation_same comment comment = refl
evaluation_same unclosed unclosed = refl
evaluation_same unsupported_punctuator unsupported_punctuator = refl
evaluation_same other other = refl
evaluation_same (punctuator k) (punctuator j) = refl

-- one lexeme is to be taken
lexeme_same : (at_line_start : Bool) (text : List ℕ) (c d : Lexeme) → StandsInFront at_line_start text c → StandsInFront at_line_start text d → c ≡ d
lexeme_same at_line_start text c d is is' =
    let same = front_same at_line_start text c.class d.class (length c.bytes) (length d.bytes) is.here is'.here in
    let bytes = sym is.front ∙ ap (λ n. take n text) same.1 ∙ is'.front in
    let evaluation = evaluation_same (subst (λ s. Evaluates s d.bytes c.evaluation) same.0 (subst (λ b. Evaluates c.class b c.evaluation) bytes is.evaluation)) is'.evaluation in
    λ i. record { class = same.0 i; bytes = bytes i; evaluation = evaluation i }

-- no lexeme that isn't refused stands there
abbrev Stops : Bool → List ℕ → Type 0
Stops at_line_start rest = (c : Lexeme) → StandsInFront at_line_start rest c → IsAccepted c.evaluation → ⊥

no_lexeme_at_end : (at_line_start : Bool) (c : Lexeme) → StandsInFront at_line_start [] c → ⊥
no_lexeme_at_end at_line_start c is = let some = front_range at_line_start [] c.class (length c.bytes) is.here in omega (arith, some.0, some.1)

stops_at_end : (at_line_start : Bool) → Stops at_line_start []
stops_at_end at_line_start c is accepted = no_lexeme_at_end at_line_start c is

stops_at_refused : (at_line_start : Bool) (rest : List ℕ) (r : Lexeme) → StandsInFront at_line_start rest r → (IsAccepted r.evaluation → ⊥) → Stops at_line_start rest
stops_at_refused at_line_start rest r is not_accepted c is' accepted = not_accepted (subst (λ (d : Lexeme). IsAccepted d.evaluation) (lexeme_same at_line_start rest c r is' is) accepted)

lexemes_same : (at : Position) (cs ds : List Lexeme) (text a b : List ℕ) → Scans at cs text a → Stops (after_all at cs).at_line_start a → Scans at ds text b → Stops (after_all at ds).at_line_start b → (cs ≡ ds) × (a ≡ b)
lexemes_same at [] [] text a b x p y q = (refl, sym x ∙ y)
lexemes_same at [] (d ∷ ds) text a b x p y q = absurd (p d (subst (λ t. StandsInFront at.at_line_start t d) x y.0) y.1)
lexemes_same at (c ∷ cs) [] text a b x p y q = absurd (q c (subst (λ t. StandsInFront at.at_line_start t c) y x.0) x.1)
lexemes_same at (c ∷ cs) (d ∷ ds) text a b x p y q =
    let same = lexeme_same at.at_line_start text c d x.0 y.0 in
    let back = sym same in
    let rest = lexemes_same (after at c.class c.bytes) cs ds (drop (length c.bytes) text) a b x.2 p
    (subst (λ (e : Lexeme). Scans (after at e.class e.bytes) ds (drop (length e.bytes) text) b) back y.2)
    (subst (λ (e : Lexeme). Stops (after_all (after at e.class e.bytes) ds).at_line_start b) back q) in
    ((λ i. same i ∷ rest.0 i), rest.1)

pub tokens_same : (text : List ℕ) (items items' : List Token) (end end' : Place) → AreTokens text items end → AreTokens text items' end' → (items ≡ items') × (end ≡ end')
tokens_same text items items' end end' is is' =
    let same = (lexemes_same start is.lexemes is'.lexemes text [] [] is.reading (stops_at_end (after_all start is.lexemes).at_line_start) is'.reading (stops_at_end (after_all start is'.lexemes).at_line_start)).0 in
    (is.tokens ∙ ap (tokens_of start) same ∙ sym is'.tokens, is.at_end ∙ ap (λ (cs : List Lexeme). (after_all start cs).place) same ∙ sym is'.at_end)

stops_for : (text : List ℕ) (evaluation : Evaluation) (place : Place) → (is : IsFirstRefused text evaluation place) → Stops (after_all start is.lexemes).at_line_start is.rest
stops_for text evaluation place is = stops_at_refused (after_all start is.lexemes).at_line_start is.rest is.refused is.next (λ accepted. is.not_accepted (subst IsAccepted is.evaluates_to accepted))

pub refused_same : (text : List ℕ) (evaluation evaluation' : Evaluation) (place place' : Place) → IsFirstRefused text evaluation place → IsFirstRefused text evaluation' place' → (evaluation ≡ evaluation') × (place ≡ place')
refused_same text evaluation evaluation' place place' is is' =
    let same = lexemes_same start is.lexemes is'.lexemes text is.rest is'.rest is.reading (stops_for text evaluation place is) is'.reading (stops_for text evaluation' place' is') in
    let moved = subst (λ t. StandsInFront (after_all start is.lexemes).at_line_start t is.refused) same.1 is.next in
    let there = subst (λ (cs : List Lexeme). StandsInFront (after_all start cs).at_line_start is'.rest is.refused) same.0 moved in
    let lexeme = lexeme_same (after_all start is'.lexemes).at_line_start is'.rest is.refused is'.refused there is'.next in
    (sym is.evaluates_to ∙ ap (λ (c : Lexeme). c.evaluation) lexeme ∙ is'.evaluates_to, is.stands ∙ ap (λ (cs : List Lexeme). (after_all start cs).place) same.0 ∙ sym is'.stands)

pub tokens_or_refused : (text : List ℕ) (items : List Token) (end place : Place) (evaluation : Evaluation) → AreTokens text items end → IsFirstRefused text evaluation place → ⊥
tokens_or_refused text items end place evaluation is is' =
    let same = lexemes_same start is.lexemes is'.lexemes text [] is'.rest is.reading (stops_at_end (after_all start is.lexemes).at_line_start) is'.reading (stops_for text evaluation place is') in
    no_lexeme_at_end (after_all start is'.lexemes).at_line_start is'.refused (subst (λ t. StandsInFront (after_all start is'.lexemes).at_line_start t is'.refused) (sym same.1) is'.next)

-- what an answer with its cause has
pub all_tokens : (text : List ℕ) (result : Result Tokens LexError) → IfOk result (λ tokens. AreTokens text tokens.items tokens.end) →
    IfErr result (IsCause text) → (items : List Token) (end : Place) → AreTokens text items end → HasTokens result items end
all_tokens text (Ok tokens) ok err items end is = tokens_same text tokens.items items tokens.end end ok is
all_tokens text (Err (BadToken at)) ok err items end is = tokens_or_refused text items end at bad is err
all_tokens text (Err (Unsupported at)) ok err items end is = tokens_or_refused text items end at unsupported is err
all_tokens text (Err (TooLong n)) ok (inl beyond) items end is = omega (arith, beyond.0, is.fits)
all_tokens text (Err (TooLong n)) ok (inr found) items end is = tokens_or_refused text items end found.0 (too_long n) is found.1
all_tokens text (Err (Memory e)) ok err items end is = tt

pub all_refusals : (text : List ℕ) (result : Result Tokens LexError) → IfOk result (λ tokens. AreTokens text tokens.items tokens.end) →
    IfErr result (IsCause text) → (evaluation : Evaluation) (place : Place) → IsFirstRefused text evaluation place →
    HasRefusal result evaluation place
all_refusals text (Ok tokens) ok err evaluation place is = tokens_or_refused text tokens.items tokens.end place evaluation ok is
all_refusals text (Err (BadToken at)) ok err evaluation place is = let same = refused_same text evaluation bad place at is err in (same.0, sym same.1)
all_refusals text (Err (Unsupported at)) ok err evaluation place is = let same = refused_same text evaluation unsupported place at is err in (same.0, sym same.1)
all_refusals text (Err (TooLong n)) ok (inl beyond) evaluation place is = absurd (omega (arith, beyond.0, is.fits))
all_refusals text (Err (TooLong n)) ok (inr found) evaluation place is = (refused_same text evaluation (too_long n) place found.0 is found.1).0
all_refusals text (Err (Memory e)) ok err evaluation place is = tt
