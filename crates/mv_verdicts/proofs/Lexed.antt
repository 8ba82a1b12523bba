-- A text is read by its longest lexemes, up to its end or to one that is refused: that neither is so leads to a contradiction.
use Rattle.std.proofs.Common.{◌≡◌, ℕ, zero, suc, ◌+◌, ◌<◌, ◌≤◌, Bool, true, false, List, [], ◌∷◌, length, take, drop, ◌⊎◌, inl, inr, Option, Some, None, refl, sym, ap, subst, arith, length-drop, length-take}
use Rattle.std.proofs.lemmas.Bool.{cases_lt}
use Rattle.mv_num.specs.declared.kind.Kind.{Kind}
use Rattle.mv_num.specs.declared.kind.Kind.TheVariants.{Int}
use Rattle.mv_syntax.specs.declared.token.Piece.TheVariants as Is
use Rattle.mv_lexer.specs.Characters.{IsQuoted}
use Rattle.mv_lexer.specs.Numbers.{IsIntegerConstant, kind_of, base, value, is_floating}
use Rattle.mv_lexer.specs.Lexemes.{IsLexeme, IsLongestLexeme}
use Rattle.mv_lexer.specs.Include.{IsFrontLexeme, include_line, longest_lexeme}
use Rattle.mv_lexer.specs.Place.{after}
use Rattle.mv_lexer.specs.declared.class.TokenClass.{TokenClass}
use Rattle.mv_lexer.specs.declared.class.TokenClass.TheVariants.{WhiteSpace, Comment, UnclosedComment, CharacterConstant, StringLiteral, Identifier, PreprocessingNumber, Punctuator, UnsupportedPunctuator, Other}
use Rattle.mv_lexer.specs.declared.position.Position.{Position}
use Rattle.mv_lexer.specs.Reading.{Evaluation, skipped, token, bad, unsupported, too_long, Evaluates, white_space, comment, unclosed, keyword, unsupported_keyword, name, long_name, constant, large, long, floating, malformed, character, no_character, characters, string, punctuator, unsupported_punctuator, other, Lexeme, StandsInFront, IsAccepted, Scans, after_all}
use Rattle.mv_lexer.proofs.IncludeLemmas.{front_range}

-- ---- what a lexeme evaluates to

-- that it evaluates to nothing is refuted
abbrev NoEvaluation : TokenClass → List ℕ → Type 0
NoEvaluation class s = (e : Evaluation) → Evaluates class s e → ⊥

no_constant : (s : List ℕ) → NoEvaluation PreprocessingNumber s → (unsigned : Bool) → IsIntegerConstant s unsigned → ⊥
no_constant s k unsigned c = by (kind_of (base s) unsigned (value s)) refl
  where
    by : (o : Option Kind) → kind_of (base s) unsigned (value s) ≡ o → ⊥
    by (Some kind) e = k (token (Is.Number (value s) kind)) (constant unsigned kind c e)
    by None e = k unsupported (large unsigned c e)

number_there : (s : List ℕ) → NoEvaluation PreprocessingNumber s → ⊥
number_there s k = by (is_floating s) refl
  where
    by : (b : Bool) → is_floating s ≡ b → ⊥
    by true e = k unsupported (floating (no_constant s k) e)
    by false e = k bad (malformed (no_constant s k) (λ l. k unsupported (long l)) e)

name_there : (s : List ℕ) → NoEvaluation Identifier s → ⊥
name_there s k = by (cases_lt 63 (length s))
  where
    by : (63 < length s) ⊎ (length s ≤ 63) → ⊥
    by (inl above) = k (too_long (length s)) (long_name above)
    by (inr within) = k (token Is.Name) (name within (λ n e. k (token (Is.Keyword n)) (keyword n e)) (λ n e. k unsupported (unsupported_keyword n e)))

character_there : (s values : List ℕ) → IsQuoted 39 s values → NoEvaluation CharacterConstant s → ⊥
character_there s [] is k = k bad (no_character is)
character_there s (v ∷ []) is k = k (token (Is.Number v Int)) (character v is)
character_there s (v ∷ w ∷ vs) is k = k unsupported (characters v w vs is)

evaluated : (class : TokenClass) (s : List ℕ) → IsLexeme class s → NoEvaluation class s → ⊥
evaluated WhiteSpace s is k = k skipped white_space
evaluated Comment s is k = k skipped comment
evaluated UnclosedComment s is k = k bad unclosed
evaluated CharacterConstant s is k = character_there s is.0 is.1 k
evaluated StringLiteral s is k = k (token (Is.Chars is.0)) (string is.0 is.1)
evaluated Identifier s is k = name_there s k
evaluated PreprocessingNumber s is k = number_there s k
evaluated (Punctuator n) s is k = k (token (Is.Mark n)) (punctuator n)
evaluated UnsupportedPunctuator s is k = k unsupported unsupported_punctuator
evaluated Other s is k = k bad other

-- ---- the lexeme in front

-- that a lexeme is the longest one is refuted
abbrev NoLongest : List ℕ → Type 0
NoLongest text = (class : TokenClass) (n : ℕ) → IsLongestLexeme text class n → ⊥

-- from one lexeme on there are so many longer ones at most
longer : (text : List ℕ) → NoLongest text → (more n : ℕ) (class : TokenClass) → n ≤ length text → length text ≤ n + more → IsLexeme class (take n text) → ⊥
longer text k zero n class within all is = k class n (record { in_range = within; lexeme = is; longest = λ m d lt le also. absurd (omega (arith, lt, le, all)) })
longer text k (suc more) n class within all is =
    k class n (record { in_range = within; lexeme = is; longest = λ m d lt le also. longer text k more m d le (omega (arith, lt, all)) also })

-- the first byte of a text
one : (text : List ℕ) → 0 < length text → length (take 1 text) ≡ 1
one [] some = absurd (omega (arith, some))
one (b ∷ text) some = refl

longest : (text : List ℕ) → 0 < length text → NoLongest text → ⊥
longest text some k = by Other (record {
  one = one text some;
  no_blank = by WhiteSpace;
  no_name = by Identifier;
  no_number = by PreprocessingNumber;
  no_punctuator = λ n. by (Punctuator n);
  no_unsupported_punctuator = λ n e. by UnsupportedPunctuator (n, e);
})
  where
    by : (class : TokenClass) → IsLexeme class (take 1 text) → ⊥
    by class is = longer text k (length text) 1 class (omega (arith, some)) (omega arith) is

front : (at_line_start : Bool) (text : List ℕ) → 0 < length text → ((class : TokenClass) (n : ℕ) → IsFrontLexeme at_line_start text class n → IsLexeme class (take n text) → ⊥) →
    ((n : ℕ) → IsFrontLexeme at_line_start text WhiteSpace n → ⊥) → ⊥
front at_line_start text some k l = longest text some (λ class n is. k class n (longest_lexeme (λ a m line. l m (include_line a refl line)) is) is.lexeme)

module _ (at_line_start : Bool) (text : List ℕ) (some : 0 < length text) (k : (c : Lexeme) → StandsInFront at_line_start text c → ⊥) where
  stands : (class : TokenClass) (n : ℕ) → IsFrontLexeme at_line_start text class n → (e : Evaluation) → Evaluates class (take n text) e → ⊥
  stands class n here e is =
      let within = (front_range at_line_start text class n here).1 in
      let size : length (take n text) ≡ n = omega (arith, within, length-take n text) in
      k (record { class = class; bytes = take n text; evaluation = e })
      (record { front = ap (λ m. take m text) size; here = subst (IsFrontLexeme at_line_start text class) (sym size) here; evaluation = is })

  in_front : ⊥
  in_front =
      front at_line_start text some (λ class n here is. evaluated class (take n text) is (λ e v. stands class n here e v)) (λ n here. stands WhiteSpace n here skipped white_space)

-- ---- the whole text

accepted_or_not : (e : Evaluation) → IsAccepted e ⊎ (IsAccepted e → ⊥)
accepted_or_not skipped = inl tt
accepted_or_not (token what) = inl tt
accepted_or_not bad = inr (λ h. h)
accepted_or_not unsupported = inr (λ h. h)
accepted_or_not (too_long n) = inr (λ h. h)

-- From a position on: the text is lexemes up to its end, or up to one that is refused.
pub scanned : (fuel : ℕ) (at : Position) (text : List ℕ) → length text ≤ fuel → ((cs : List Lexeme) → Scans at cs text [] → ⊥) →
    ((cs : List Lexeme) (rest : List ℕ) (c : Lexeme) → Scans at cs text rest → StandsInFront (after_all at cs).at_line_start rest c → (IsAccepted c.evaluation → ⊥) → ⊥) → ⊥
scanned fuel at [] le whole broken = whole [] refl
scanned zero at (b ∷ bs) le whole broken = absurd (omega (arith, le))
scanned (suc fuel) at (b ∷ bs) le whole broken = in_front at.at_line_start (b ∷ bs) (omega arith) (λ c is. by c is (accepted_or_not c.evaluation) (λ passes.
    let some = (front_range at.at_line_start (b ∷ bs) c.class (length c.bytes) is.here).0 in
    scanned fuel (after at c.class c.bytes) (drop (length c.bytes) (b ∷ bs)) (less (length c.bytes) some) (λ cs s. whole (c ∷ cs) (is, passes, s))
    (λ cs rest d s next fails. broken (c ∷ cs) rest d (is, passes, s) next fails)))
  where
    less : (n : ℕ) → 0 < n → length (drop n (b ∷ bs)) ≤ fuel
    less n some = omega (arith, some, le, length-drop n (b ∷ bs))

    by : (c : Lexeme) → StandsInFront at.at_line_start (b ∷ bs) c → IsAccepted c.evaluation ⊎ (IsAccepted c.evaluation → ⊥) → (IsAccepted c.evaluation → ⊥) → ⊥
    by c is (inr fails) on = broken [] (b ∷ bs) c refl is fails
    by c is (inl passes) on = on passes
