-- The longest lexeme, by the first byte of a text.
use Rattle.std.proofs.Common.{◌≡◌, ℕ, zero, suc, subst, ◌+◌, ◌-◌, ◌<◌, ◌≤◌, Bool, true, false, List, [], ◌∷◌, length, get_or, take, refl, sym, ap, ◌∙◌, inl, inr, arith, ltb}
use Rattle.std.specs.Prelude.{not, ◌&&◌, ◌==◌, ◌⊎◌, nat_eq}
use Rattle.std.specs.List.{starts_with}
use Rattle.std.proofs.lemmas.Bool.{both_ways, and_parts, not-true, or_left, or_right, ltb-true, eqb-true, eq-eqb, and_from, false≢true}
use Rattle.std.proofs.lemmas.Bool.Decides.{nat_tests}
use Rattle.std.proofs.lemmas.List.{length-take-le, get_or-take}
use Rattle.std.specs.Char.{is_ascii_digit}
use Rattle.mv_lexer.specs.Bytes.{is_white_space, is_nondigit, is_identifier_byte, begins_comment}
use Rattle.mv_lexer.specs.Characters.{IsQuoted, IsClosing, NoClosing}
use Rattle.mv_lexer.proofs.QuoteLemmas.{closing_of, closing_same, front_quoted}
use Rattle.mv_lexer.specs.Tables.{entries, IsEntry, NoLonger}
use Rattle.mv_lexer.specs.Lexemes.{ClosesComment, continues_number, IsLexeme, IsLongestLexeme}
use Rattle.mv_lexer.specs.declared.table.Table.{Table}
use Rattle.mv_lexer.specs.declared.table.Table.TheVariants.{Punctuators, UnsupportedPunctuators}
use Rattle.mv_lexer.specs.declared.class.TokenClass.{TokenClass}
use Rattle.mv_lexer.specs.declared.class.TokenClass.TheVariants.{WhiteSpace, Comment, UnclosedComment, CharacterConstant, StringLiteral, Identifier, PreprocessingNumber, Punctuator, UnsupportedPunctuator, Other}

-- a test holds of each list
abbrev pub each_passes : (List ℕ → Bool) → List (List ℕ) → Bool
each_passes p [] = true
each_passes p (x ∷ xs) = p x && each_passes p xs

pub passes_at : (p : List ℕ → Bool) (xs : List (List ℕ)) → each_passes p xs ≡ true → (k : ℕ) → k < length xs → p (get_or xs k []) ≡ true
passes_at p [] all k below = absurd (omega arith)
passes_at p (x ∷ xs) all zero below = (and_parts (p x) (each_passes p xs) all).0
passes_at p (x ∷ xs) all (suc k) below = passes_at p xs (and_parts (p x) (each_passes p xs) all).1 k (omega arith)

-- two bytes stand in front
pub record Opens (a b : ℕ) (s : List ℕ) : Type 0 where
  pub long : 2 ≤ length s
  pub first : get_or s 0 0 ≡ a
  pub second : get_or s 1 0 ≡ b

pub opening : (a b : ℕ) (s : List ℕ) → starts_with nat_eq s (a ∷ b ∷ []) ≡ true → Opens a b s
opening a b [] h = absurd (false≢true h)
opening a b (x ∷ []) h = absurd (false≢true (and_parts (nat_eq a x) false h).1)
opening a b (x ∷ y ∷ s) h =
    let parts = and_parts (nat_eq a x) (nat_eq b y && true) h in
    let last = and_parts (nat_eq b y) true parts.1 in
    record { long = omega arith; first = sym (eqb-true a x parts.0); second = sym (eqb-true b y last.0) }

pub opened : (a b : ℕ) (s : List ℕ) → 2 ≤ length s → get_or s 0 0 ≡ a → get_or s 1 0 ≡ b → starts_with nat_eq s (a ∷ b ∷ []) ≡ true
opened a b [] long first second = absurd (omega arith)
opened a b (x ∷ []) long first second = absurd (omega arith)
opened a b (x ∷ y ∷ s) long first second = and_from _ _ (eq-eqb a x (sym first)) (and_from _ _ (eq-eqb b y (sym second)) refl)

-- a byte with which a punctuator may begin
abbrev pub is_punctuator_byte : ℕ → Bool
is_punctuator_byte b = (not (is_white_space b) && not (is_identifier_byte b)) && (not (b == 34) && not (b == 39))

abbrev begins_punctuator : List ℕ → Bool
begins_punctuator s = is_punctuator_byte (get_or s 0 0)

-- a byte with which a lexeme of this class may begin
abbrev pub begins : TokenClass → ℕ → Bool
begins WhiteSpace b = is_white_space b
begins Identifier b = is_nondigit b
begins Comment b = b == 47
begins UnclosedComment b = b == 47
begins CharacterConstant b = b == 39
begins StringLiteral b = b == 34
begins PreprocessingNumber b = is_ascii_digit b
begins (Punctuator k) b = is_punctuator_byte b
begins UnsupportedPunctuator b = is_punctuator_byte b
begins Other b = true

pub lexeme_begins : (class : TokenClass) (s : List ℕ) → IsLexeme class s → begins class (get_or s 0 0) ≡ true
lexeme_begins WhiteSpace s is = is.first
lexeme_begins Identifier s is = is.first
lexeme_begins Comment s (inl is) = eq-eqb (get_or s 0 0) 47 (opening 47 47 s is.opens).first
lexeme_begins Comment s (inr is) = eq-eqb (get_or s 0 0) 47 (opening 47 42 s is.opens).first
lexeme_begins UnclosedComment s is = eq-eqb (get_or s 0 0) 47 (opening 47 42 s is.opens).first
lexeme_begins CharacterConstant s is = eq-eqb (get_or s 0 0) 39 is.1.opens
lexeme_begins StringLiteral s is = eq-eqb (get_or s 0 0) 34 is.1.opens
lexeme_begins PreprocessingNumber s is = is.first
lexeme_begins (Punctuator k) s is = ap begins_punctuator is.is ∙ passes_at begins_punctuator (entries Punctuators) refl k is.in_range
lexeme_begins UnsupportedPunctuator s is = ap begins_punctuator is.1.is ∙ passes_at begins_punctuator (entries UnsupportedPunctuators) refl is.0 is.1.in_range
lexeme_begins Other s is = refl

blank_or_letter : (b : ℕ) → is_white_space b ≡ true → is_nondigit b ≡ true → ⊥
blank_or_letter b x y = grind (arith, nat_tests)

pub punctuator_no_blank : (b : ℕ) → is_punctuator_byte b ≡ true → is_white_space b ≡ false
punctuator_no_blank b y = not-true _ (and_parts (not (is_white_space b)) (not (is_identifier_byte b)) (and_parts (not (is_white_space b) && not (is_identifier_byte b)) (not (b == 34) && not (b == 39)) y).0).0

pub punctuator_no_name : (b : ℕ) → is_punctuator_byte b ≡ true → is_identifier_byte b ≡ false
punctuator_no_name b y = not-true _ (and_parts (not (is_white_space b)) (not (is_identifier_byte b)) (and_parts (not (is_white_space b) && not (is_identifier_byte b)) (not (b == 34) && not (b == 39)) y).0).1

pub punctuator_no_quote : (b : ℕ) → is_punctuator_byte b ≡ true → ((b == 34) ≡ false) × ((b == 39) ≡ false)
punctuator_no_quote b y =
    let parts = and_parts (not (b == 34)) (not (b == 39)) (and_parts (not (is_white_space b) && not (is_identifier_byte b)) (not (b == 34) && not (b == 39)) y).1 in
    (not-true _ parts.0, not-true _ parts.1)

blank_no_quote : (b : ℕ) → is_white_space b ≡ true → (b ≡ 34) ⊎ (b ≡ 39) → ⊥
blank_no_quote b x (inl is) = false≢true (sym (ap is_white_space is) ∙ x)
blank_no_quote b x (inr is) = false≢true (sym (ap is_white_space is) ∙ x)

letter_no_quote : (b : ℕ) → is_nondigit b ≡ true → (b ≡ 34) ⊎ (b ≡ 39) → ⊥
letter_no_quote b x (inl is) = false≢true (sym (ap is_nondigit is) ∙ x)
letter_no_quote b x (inr is) = false≢true (sym (ap is_nondigit is) ∙ x)

digit_no_quote : (b : ℕ) → is_ascii_digit b ≡ true → (b ≡ 34) ⊎ (b ≡ 39) → ⊥
digit_no_quote b x (inl is) = false≢true (sym (ap is_ascii_digit is) ∙ x)
digit_no_quote b x (inr is) = false≢true (sym (ap is_ascii_digit is) ∙ x)

blank_no_punctuator : (b : ℕ) → is_white_space b ≡ true → is_punctuator_byte b ≡ true → ⊥
blank_no_punctuator b x y = both_ways (is_white_space b) (punctuator_no_blank b y) x

letter_no_punctuator : (b : ℕ) → is_nondigit b ≡ true → is_punctuator_byte b ≡ true → ⊥
letter_no_punctuator b x y = both_ways (is_identifier_byte b) (punctuator_no_name b y) (or_left (is_nondigit b) (is_ascii_digit b) x)

blank_or_digit : (b : ℕ) → is_white_space b ≡ true → is_ascii_digit b ≡ true → ⊥
blank_or_digit b x y = grind (arith, nat_tests)

letter_or_digit : (b : ℕ) → is_nondigit b ≡ true → is_ascii_digit b ≡ true → ⊥
letter_or_digit b x y = grind (arith, nat_tests)

digit_no_punctuator : (b : ℕ) → is_ascii_digit b ≡ true → is_punctuator_byte b ≡ true → ⊥
digit_no_punctuator b x y = both_ways (is_identifier_byte b) (punctuator_no_name b y) (or_right (is_nondigit b) (is_ascii_digit b) x)

blank_no_slash : (b : ℕ) → is_white_space b ≡ true → (b == 47) ≡ true → ⊥
blank_no_slash b x y = grind (arith, nat_tests)

letter_no_slash : (b : ℕ) → is_nondigit b ≡ true → (b == 47) ≡ true → ⊥
letter_no_slash b x y = grind (arith, nat_tests)

digit_no_slash : (b : ℕ) → is_ascii_digit b ≡ true → (b == 47) ≡ true → ⊥
digit_no_slash b x y = grind (arith, nat_tests)

-- how a comment begins
line_begins : (s : List ℕ) → get_or s 0 0 ≡ 47 → get_or s 1 0 ≡ 47 → begins_comment s ≡ true
line_begins s first second = and_from _ _ (eq-eqb (get_or s 0 0) 47 first) (or_left _ _ (eq-eqb (get_or s 1 0) 47 second))

block_begins : (s : List ℕ) → get_or s 0 0 ≡ 47 → get_or s 1 0 ≡ 42 → begins_comment s ≡ true
block_begins s first second = and_from _ _ (eq-eqb (get_or s 0 0) 47 first) (or_right _ _ (eq-eqb (get_or s 1 0) 42 second))

pub comment_begins : (s : List ℕ) → IsLexeme Comment s → begins_comment s ≡ true
comment_begins s (inl is) = let o = opening 47 47 s is.opens in line_begins s o.first o.second
comment_begins s (inr is) = let o = opening 47 42 s is.opens in block_begins s o.first o.second

pub unclosed_begins : (s : List ℕ) → IsLexeme UnclosedComment s → begins_comment s ≡ true
unclosed_begins s is = let o = opening 47 42 s is.opens in block_begins s o.first o.second

pub comment_long : (s : List ℕ) → IsLexeme Comment s → 2 ≤ length s
comment_long s (inl is) = (opening 47 47 s is.opens).long
comment_long s (inr is) = omega (arith, is.ends, is.behind)

-- no punctuator begins a comment
pub entry_no_comment : (table : Table) (k : ℕ) (s : List ℕ) → each_passes (λ e. not (begins_comment e)) (entries table) ≡ true → IsEntry table k s → begins_comment s ≡ false
entry_no_comment table k s all is = not-true _ (ap (λ e. not (begins_comment e)) is.is ∙ passes_at (λ e. not (begins_comment e)) (entries table) all k is.in_range)

module _ (text : List ℕ) (some : 0 < length text) where
  -- the first byte of a lexeme is the text's
  first_byte : (class : TokenClass) (m : ℕ) → 0 < m → IsLexeme class (take m text) → begins class (get_or text 0 0) ≡ true
  first_byte class m positive is = subst (λ b. begins class b ≡ true) (get_or-take m text 0 0 positive) (lexeme_begins class (take m text) is)

  -- a front of two bytes and more begins as the text does
  opened_front : (a b n : ℕ) → 2 ≤ n → n ≤ length text → get_or text 0 0 ≡ a → get_or text 1 0 ≡ b → starts_with nat_eq (take n text) (a ∷ b ∷ []) ≡ true
  opened_front a b n long fits first second =
      opened a b (take n text) (omega (arith, length-take-le n text fits)) (get_or-take n text 0 0 (omega arith) ∙ first) (get_or-take n text 1 0 (omega arith) ∙ second)

  -- no lexeme of one byte has more than one
  not_one : (n m : ℕ) → 0 < n → n < m → m ≤ length text → length (take m text) ≡ 1 → ⊥
  not_one n m positive longer in_range one = omega (arith, length-take-le m text in_range)

  -- a quoted lexeme begins with a quote
  quote_first : (m : ℕ) (quote : ℕ) (values : List ℕ) → m ≤ length text → IsQuoted quote (take m text) values → get_or text 0 0 ≡ quote
  quote_first m quote values in_range is = sym (closing_of text quote m values in_range is).0

  -- a lexeme begins with a byte of its class
  not_first : (class : TokenClass) (m b : ℕ) → get_or text 0 0 ≡ b → begins class b ≡ false → 0 < m → IsLexeme class (take m text) → ⊥
  not_first class m b first differs positive is = false≢true (sym differs ∙ ap (begins class) (sym first) ∙ first_byte class m positive is)

  -- a character goes on to its closing quote
  pub character_longest : (close : ℕ) → get_or text 0 0 ≡ 39 → IsClosing text close → IsLongestLexeme text CharacterConstant (close + 1)
  character_longest close first closing = record {
    in_range = omega (arith, closing.within);
    lexeme = (closing.values, subst (λ q. IsQuoted q (take (close + 1) text) closing.values) first (front_quoted text close closing));
    longest = beyond;
  }
    where
      beyond : (m : ℕ) (other : TokenClass) → close + 1 < m → m ≤ length text → IsLexeme other (take m text) → ⊥
      beyond m WhiteSpace longer in_range is = not_first WhiteSpace m 39 first refl (omega arith) is
      beyond m Comment longer in_range is = not_first Comment m 39 first refl (omega arith) is
      beyond m UnclosedComment longer in_range is = not_first UnclosedComment m 39 first refl (omega arith) is
      beyond m CharacterConstant longer in_range is =
          let found = closing_of text 39 m is.0 in_range is.1 in
          let same = closing_same text close found.1.0 (inr first) closing found.1.2 in
          omega (arith, same, found.1.1, longer)
      beyond m StringLiteral longer in_range is = not_first StringLiteral m 39 first refl (omega arith) is
      beyond m Identifier longer in_range is = not_first Identifier m 39 first refl (omega arith) is
      beyond m PreprocessingNumber longer in_range is = not_first PreprocessingNumber m 39 first refl (omega arith) is
      beyond m (Punctuator k) longer in_range is = not_first (Punctuator k) m 39 first refl (omega arith) is
      beyond m UnsupportedPunctuator longer in_range is = not_first UnsupportedPunctuator m 39 first refl (omega arith) is
      beyond m Other longer in_range is = not_one (close + 1) m (omega arith) longer in_range is.one

  -- and so does a string
  pub string_longest : (close : ℕ) → get_or text 0 0 ≡ 34 → IsClosing text close → IsLongestLexeme text StringLiteral (close + 1)
  string_longest close first closing = record {
    in_range = omega (arith, closing.within);
    lexeme = (closing.values, subst (λ q. IsQuoted q (take (close + 1) text) closing.values) first (front_quoted text close closing));
    longest = beyond;
  }
    where
      beyond : (m : ℕ) (other : TokenClass) → close + 1 < m → m ≤ length text → IsLexeme other (take m text) → ⊥
      beyond m WhiteSpace longer in_range is = not_first WhiteSpace m 34 first refl (omega arith) is
      beyond m Comment longer in_range is = not_first Comment m 34 first refl (omega arith) is
      beyond m UnclosedComment longer in_range is = not_first UnclosedComment m 34 first refl (omega arith) is
      beyond m CharacterConstant longer in_range is = not_first CharacterConstant m 34 first refl (omega arith) is
      beyond m StringLiteral longer in_range is =
          let found = closing_of text 34 m is.0 in_range is.1 in
          let same = closing_same text close found.1.0 (inl first) closing found.1.2 in
          omega (arith, same, found.1.1, longer)
      beyond m Identifier longer in_range is = not_first Identifier m 34 first refl (omega arith) is
      beyond m PreprocessingNumber longer in_range is = not_first PreprocessingNumber m 34 first refl (omega arith) is
      beyond m (Punctuator k) longer in_range is = not_first (Punctuator k) m 34 first refl (omega arith) is
      beyond m UnsupportedPunctuator longer in_range is = not_first UnsupportedPunctuator m 34 first refl (omega arith) is
      beyond m Other longer in_range is = not_one (close + 1) m (omega arith) longer in_range is.one

  -- whether a lexeme begins a comment, if it has two bytes
  same_start : (m : ℕ) → 2 ≤ m → begins_comment (take m text) ≡ begins_comment text
  same_start m long = rw (get_or-take m text 0 0 (omega arith), get_or-take m text 1 0 (omega arith))

  -- no entry of a row is longer, where a comment begins
  no_entry : (table : Table) (k m : ℕ) → each_passes (λ e. not (begins_comment e)) (entries table) ≡ true → begins_comment text ≡ true → 2 ≤ m → IsEntry table k (take m text) → ⊥
  no_entry table k m all begins long is = both_ways (begins_comment text) (sym (same_start m long) ∙ entry_no_comment table k (take m text) all is) begins

  -- a comment goes on to the line feed
  pub line_longest : (n : ℕ) → get_or text 0 0 ≡ 47 → get_or text 1 0 ≡ 47 → 2 ≤ n → n ≤ length text → ((i : ℕ) → i < n → get_or text i 0 ≡ 10 → ⊥) → (n < length text → get_or text n 0 ≡ 10) → IsLongestLexeme text Comment n
  line_longest n first second long fits each stops = record {
    in_range = fits;
    lexeme = inl (record {
      opens = opened_front 47 47 n long fits first second;
      each = λ i below is. let near : i < n = omega (arith, length-take-le n text fits) in each i near (sym (get_or-take n text i 0 near) ∙ is);
    });
    longest = beyond;
  }
    where
      beyond : (m : ℕ) (other : TokenClass) → n < m → m ≤ length text → IsLexeme other (take m text) → ⊥
      beyond m WhiteSpace longer in_range is = not_one n m (omega arith) longer in_range is.one
      beyond m Comment longer in_range (inl is) = is.each n (omega (arith, length-take-le m text in_range)) (get_or-take m text n 0 longer ∙ stops (omega arith))
      beyond m Comment longer in_range (inr is) = omega (arith, second, (opening 47 42 (take m text) is.opens).second, get_or-take m text 1 0 (omega arith))
      beyond m UnclosedComment longer in_range is = omega (arith, second, (opening 47 42 (take m text) is.opens).second, get_or-take m text 1 0 (omega arith))
      beyond m CharacterConstant longer in_range is = not_first CharacterConstant m 47 first refl (omega arith) is
      beyond m StringLiteral longer in_range is = not_first StringLiteral m 47 first refl (omega arith) is
      beyond m Identifier longer in_range is = letter_no_slash (get_or text 0 0) (first_byte Identifier m (omega arith) is) (eq-eqb (get_or text 0 0) 47 first)
      beyond m PreprocessingNumber longer in_range is = digit_no_slash (get_or text 0 0) (first_byte PreprocessingNumber m (omega arith) is) (eq-eqb (get_or text 0 0) 47 first)
      beyond m (Punctuator k) longer in_range is = no_entry Punctuators k m refl (line_begins text first second) (omega arith) is
      beyond m UnsupportedPunctuator longer in_range is = no_entry UnsupportedPunctuators is.0 m refl (line_begins text first second) (omega arith) is.1
      beyond m Other longer in_range is = not_one n m (omega arith) longer in_range is.one

  -- what closes a text's comment closes it in a front of the text
  close_within : (m i : ℕ) → i + 1 < m → ClosesComment text i → ClosesComment (take m text) i
  close_within m i within is = (get_or-take m text i 0 (omega arith) ∙ is.0, get_or-take m text (i + 1) 0 within ∙ is.1)

  close_before : (m i : ℕ) → i + 1 < m → ClosesComment (take m text) i → ClosesComment text i
  close_before m i within is = (sym (get_or-take m text i 0 (omega arith)) ∙ is.0, sym (get_or-take m text (i + 1) 0 within) ∙ is.1)

  -- a comment goes on to the first */
  pub block_longest : (close : ℕ) → get_or text 0 0 ≡ 47 → get_or text 1 0 ≡ 42 → 2 ≤ close → close + 1 < length text → ClosesComment text close →
      ((i : ℕ) → 2 ≤ i → i < close → ClosesComment text i → ⊥) → IsLongestLexeme text Comment (close + 2)
  block_longest close first second behind within closes none = record {
    in_range = omega arith;
    lexeme = inr (record {
      opens = opened_front 47 42 (close + 2) (omega arith) (omega arith) first second;
      close = close;
      behind = behind;
      ends = length-take-le (close + 2) text (omega arith);
      closes = close_within (close + 2) close (omega arith) closes;
      none_before = λ i from below is. none i from below (close_before (close + 2) i (omega arith) is);
    });
    longest = beyond;
  }
    where
      beyond : (m : ℕ) (other : TokenClass) → close + 2 < m → m ≤ length text → IsLexeme other (take m text) → ⊥
      beyond m WhiteSpace longer in_range is = not_one (close + 2) m (omega arith) longer in_range is.one
      beyond m Comment longer in_range (inl is) = omega (arith, second, (opening 47 47 (take m text) is.opens).second, get_or-take m text 1 0 (omega arith))
      beyond m Comment longer in_range (inr is) = is.none_before close behind (omega (arith, is.ends, length-take-le m text in_range)) (close_within m close (omega arith) closes)
      beyond m UnclosedComment longer in_range is = is.none close behind (omega (arith, length-take-le m text in_range)) (close_within m close (omega arith) closes)
      beyond m CharacterConstant longer in_range is = not_first CharacterConstant m 47 first refl (omega arith) is
      beyond m StringLiteral longer in_range is = not_first StringLiteral m 47 first refl (omega arith) is
      beyond m Identifier longer in_range is = letter_no_slash (get_or text 0 0) (first_byte Identifier m (omega arith) is) (eq-eqb (get_or text 0 0) 47 first)
      beyond m PreprocessingNumber longer in_range is = digit_no_slash (get_or text 0 0) (first_byte PreprocessingNumber m (omega arith) is) (eq-eqb (get_or text 0 0) 47 first)
      beyond m (Punctuator k) longer in_range is = no_entry Punctuators k m refl (block_begins text first second) (omega arith) is
      beyond m UnsupportedPunctuator longer in_range is = no_entry UnsupportedPunctuators is.0 m refl (block_begins text first second) (omega arith) is.1
      beyond m Other longer in_range is = not_one (close + 2) m (omega arith) longer in_range is.one

  -- a comment that nothing closes goes on to the end
  pub unclosed_longest : (n : ℕ) → n ≡ length text → 2 ≤ n → get_or text 0 0 ≡ 47 → get_or text 1 0 ≡ 42 → ((i : ℕ) → 2 ≤ i → i + 1 < n → ClosesComment text i → ⊥) → IsLongestLexeme text UnclosedComment n
  unclosed_longest n all long first second none = record {
    in_range = omega arith;
    lexeme = record {
      opens = opened_front 47 42 n long (omega arith) first second;
      none = λ i from below is. let near : i + 1 < n = omega (arith, length-take-le n text (omega arith)) in none i from near (close_before n i near is);
    };
    longest = λ m other longer in_range is. omega arith;
  }

  -- white space stands alone
  pub blank_longest : is_white_space (get_or text 0 0) ≡ true → IsLongestLexeme text WhiteSpace 1
  blank_longest blank = record {
    in_range = some;
    lexeme = record { one = length-take-le 1 text some; first = ap is_white_space (get_or-take 1 text 0 0 (omega arith)) ∙ blank };
    longest = beyond;
  }
    where
      beyond : (m : ℕ) (other : TokenClass) → 1 < m → m ≤ length text → IsLexeme other (take m text) → ⊥
      beyond m WhiteSpace longer in_range is = not_one 1 m (omega arith) longer in_range is.one
      beyond m CharacterConstant longer in_range is = blank_no_quote (get_or text 0 0) blank (inr (quote_first m 39 is.0 in_range is.1))
      beyond m StringLiteral longer in_range is = blank_no_quote (get_or text 0 0) blank (inl (quote_first m 34 is.0 in_range is.1))
      beyond m Identifier longer in_range is = blank_or_letter (get_or text 0 0) blank (first_byte Identifier m (omega arith) is)
      beyond m Comment longer in_range is = blank_no_slash (get_or text 0 0) blank (first_byte Comment m (omega arith) is)
      beyond m UnclosedComment longer in_range is = blank_no_slash (get_or text 0 0) blank (first_byte UnclosedComment m (omega arith) is)
      beyond m PreprocessingNumber longer in_range is = blank_or_digit (get_or text 0 0) blank (first_byte PreprocessingNumber m (omega arith) is)
      beyond m (Punctuator k) longer in_range is = blank_no_punctuator (get_or text 0 0) blank (first_byte (Punctuator k) m (omega arith) is)
      beyond m UnsupportedPunctuator longer in_range is = blank_no_punctuator (get_or text 0 0) blank (first_byte UnsupportedPunctuator m (omega arith) is)
      beyond m Other longer in_range is = not_one 1 m (omega arith) longer in_range is.one

  -- a name goes on as far as its bytes do
  pub identifier_longest : (n : ℕ) → is_nondigit (get_or text 0 0) ≡ true → 0 < n → n ≤ length text →
      ((i : ℕ) → i < n → is_identifier_byte (get_or text i 0) ≡ true) → (n < length text → is_identifier_byte (get_or text n 0) ≡ false) →
      IsLongestLexeme text Identifier n
  identifier_longest n letter positive fits each stops = record {
    in_range = fits;
    lexeme = record {
      some = omega (arith, length-take-le n text fits);
      first = ap is_nondigit (get_or-take n text 0 0 positive) ∙ letter;
      each = λ i below. let near : i < n = omega (arith, length-take-le n text fits) in ap is_identifier_byte (get_or-take n text i 0 near) ∙ each i near;
    };
    longest = beyond;
  }
    where
      beyond : (m : ℕ) (other : TokenClass) → n < m → m ≤ length text → IsLexeme other (take m text) → ⊥
      beyond m WhiteSpace longer in_range is = not_one n m positive longer in_range is.one
      beyond m CharacterConstant longer in_range is = letter_no_quote (get_or text 0 0) letter (inr (quote_first m 39 is.0 in_range is.1))
      beyond m StringLiteral longer in_range is = letter_no_quote (get_or text 0 0) letter (inl (quote_first m 34 is.0 in_range is.1))
      beyond m Identifier longer in_range is = both_ways (is_identifier_byte (get_or text n 0)) (stops (omega arith)) (ap is_identifier_byte (sym (get_or-take m text n 0 longer)) ∙ is.each n (omega (arith, length-take-le m text in_range)))
      beyond m Comment longer in_range is = letter_no_slash (get_or text 0 0) letter (first_byte Comment m (omega arith) is)
      beyond m UnclosedComment longer in_range is = letter_no_slash (get_or text 0 0) letter (first_byte UnclosedComment m (omega arith) is)
      beyond m PreprocessingNumber longer in_range is = letter_or_digit (get_or text 0 0) letter (first_byte PreprocessingNumber m (omega arith) is)
      beyond m (Punctuator k) longer in_range is = letter_no_punctuator (get_or text 0 0) letter (first_byte (Punctuator k) m (omega arith) is)
      beyond m UnsupportedPunctuator longer in_range is = letter_no_punctuator (get_or text 0 0) letter (first_byte UnsupportedPunctuator m (omega arith) is)
      beyond m Other longer in_range is = not_one n m positive longer in_range is.one

  -- a number goes on as long as bytes may follow
  pub number_longest : (n : ℕ) → is_ascii_digit (get_or text 0 0) ≡ true → 0 < n → n ≤ length text →
      ((i : ℕ) → i + 1 < n → continues_number (get_or text i 0) (get_or text (i + 1) 0) ≡ true) →
      (n < length text → continues_number (get_or text (n - 1) 0) (get_or text n 0) ≡ false) → IsLongestLexeme text PreprocessingNumber n
  number_longest n digit positive fits each stops = record {
    in_range = fits;
    lexeme = record {
      some = omega (arith, length-take-le n text fits);
      first = ap is_ascii_digit (get_or-take n text 0 0 positive) ∙ digit;
      each = λ i below.
          let near : i + 1 < n = omega (arith, length-take-le n text fits) in
          let here : i < n = omega arith in
          rw (get_or-take n text i 0 here, get_or-take n text (i + 1) 0 near) (each i near);
    };
    longest = beyond;
  }
    where
      beyond : (m : ℕ) (other : TokenClass) → n < m → m ≤ length text → IsLexeme other (take m text) → ⊥
      beyond m WhiteSpace longer in_range is = not_one n m positive longer in_range is.one
      beyond m CharacterConstant longer in_range is = digit_no_quote (get_or text 0 0) digit (inr (quote_first m 39 is.0 in_range is.1))
      beyond m StringLiteral longer in_range is = digit_no_quote (get_or text 0 0) digit (inl (quote_first m 34 is.0 in_range is.1))
      beyond m Identifier longer in_range is = letter_or_digit (get_or text 0 0) (first_byte Identifier m (omega arith) is) digit
      beyond m Comment longer in_range is = digit_no_slash (get_or text 0 0) digit (first_byte Comment m (omega arith) is)
      beyond m UnclosedComment longer in_range is = digit_no_slash (get_or text 0 0) digit (first_byte UnclosedComment m (omega arith) is)
      beyond m PreprocessingNumber longer in_range is =
          let here : n - 1 < m = omega arith in
          let back : n - 1 + 1 ≡ n = omega arith in
          let at : continues_number (get_or (take m text) (n - 1) 0) (get_or (take m text) (n - 1 + 1) 0) ≡ true = is.each (n - 1) (omega (arith, length-take-le m text in_range)) in
          let at' = rw back at at in
          let at'' = rw (get_or-take m text (n - 1) 0 here, get_or-take m text n 0 longer) at at' in
          both_ways (continues_number (get_or text (n - 1) 0) (get_or text n 0)) (stops (omega arith)) at''
      beyond m (Punctuator k) longer in_range is = digit_no_punctuator (get_or text 0 0) digit (first_byte (Punctuator k) m (omega arith) is)
      beyond m UnsupportedPunctuator longer in_range is = digit_no_punctuator (get_or text 0 0) digit (first_byte UnsupportedPunctuator m (omega arith) is)
      beyond m Other longer in_range is = not_one n m positive longer in_range is.one

  module _ (no_blank : is_white_space (get_or text 0 0) ≡ false) (no_letter : is_nondigit (get_or text 0 0) ≡ false)
      (no_digit : is_ascii_digit (get_or text 0 0) ≡ false) (no_comment : begins_comment text ≡ false) (no_closing : NoClosing text) where
    -- at another byte only punctuators are longer
    only_punctuators : (n : ℕ) → 0 < n → NoLonger Punctuators (length (entries Punctuators)) n text →
        NoLonger UnsupportedPunctuators (length (entries UnsupportedPunctuators)) n text → (m : ℕ) (other : TokenClass) → n < m → m ≤ length text →
        IsLexeme other (take m text) → ⊥
    only_punctuators n positive no_punctuator no_unsupported m WhiteSpace longer in_range is = not_one n m positive longer in_range is.one
    only_punctuators n positive no_punctuator no_unsupported m CharacterConstant longer in_range is = let found = closing_of text 39 m is.0 in_range is.1 in no_closing (inr (sym found.0)) found.1.0 found.1.2
    only_punctuators n positive no_punctuator no_unsupported m StringLiteral longer in_range is = let found = closing_of text 34 m is.0 in_range is.1 in no_closing (inl (sym found.0)) found.1.0 found.1.2
    only_punctuators n positive no_punctuator no_unsupported m Identifier longer in_range is = both_ways (is_nondigit (get_or text 0 0)) no_letter (first_byte Identifier m (omega arith) is)
    only_punctuators n positive no_punctuator no_unsupported m Comment longer in_range is =
        both_ways (begins_comment text) no_comment
        (sym (same_start m (omega (arith, length-take-le m text in_range, comment_long (take m text) is))) ∙ comment_begins (take m text) is)
    only_punctuators n positive no_punctuator no_unsupported m UnclosedComment longer in_range is =
        both_ways (begins_comment text) no_comment
        (sym (same_start m (omega (arith, length-take-le m text in_range, (opening 47 42 (take m text) is.opens).long))) ∙
        unclosed_begins (take m text) is)
    only_punctuators n positive no_punctuator no_unsupported m PreprocessingNumber longer in_range is = both_ways (is_ascii_digit (get_or text 0 0)) no_digit (first_byte PreprocessingNumber m (omega arith) is)
    only_punctuators n positive no_punctuator no_unsupported m (Punctuator k) longer in_range is = no_punctuator k m is.in_range longer in_range (sym is.is)
    only_punctuators n positive no_punctuator no_unsupported m UnsupportedPunctuator longer in_range is = no_unsupported is.0 m is.1.in_range longer in_range (sym is.1.is)
    only_punctuators n positive no_punctuator no_unsupported m Other longer in_range is = not_one n m positive longer in_range is.one

    -- an entry of either row, longer than the entries of the other
    shorter_too : (table : Table) (n n' : ℕ) → n ≤ n' → NoLonger table (length (entries table)) n text → NoLonger table (length (entries table)) n' text
    shorter_too table n n' less before k m below longer = before k m below (omega arith)

    pub punctuator_longest : (k n other : ℕ) → 0 < n → n ≤ length text → IsEntry Punctuators k (take n text) →
        NoLonger Punctuators (length (entries Punctuators)) n text → other ≤ n →
        NoLonger UnsupportedPunctuators (length (entries UnsupportedPunctuators)) other text → IsLongestLexeme text (Punctuator k) n
    punctuator_longest k n other positive fits is no_punctuator less no_unsupported = record {
      in_range = fits;
      lexeme = is;
      longest = only_punctuators n positive no_punctuator (shorter_too UnsupportedPunctuators other n less no_unsupported);
    }

    pub unsupported_punctuator_longest : (k n other : ℕ) → 0 < n → n ≤ length text → IsEntry UnsupportedPunctuators k (take n text) →
        NoLonger UnsupportedPunctuators (length (entries UnsupportedPunctuators)) n text → other ≤ n →
        NoLonger Punctuators (length (entries Punctuators)) other text → IsLongestLexeme text UnsupportedPunctuator n
    unsupported_punctuator_longest k n other positive fits is no_unsupported less no_punctuator = record {
      in_range = fits;
      lexeme = (k, is);
      longest = only_punctuators n positive (shorter_too Punctuators other n less no_punctuator) no_unsupported;
    }

    pub other_longest : (n n' : ℕ) → n ≤ 0 → n' ≤ 0 → NoLonger Punctuators (length (entries Punctuators)) n text → NoLonger UnsupportedPunctuators (length (entries UnsupportedPunctuators)) n' text → IsLongestLexeme text Other 1
    other_longest n n' none none' no_punctuator no_unsupported = record {
      in_range = some;
      lexeme = record {
        one = length-take-le 1 text some;
        no_blank = λ is. both_ways (is_white_space (get_or text 0 0)) no_blank (first_byte WhiteSpace 1 (omega arith) is);
        no_name = λ is. both_ways (is_nondigit (get_or text 0 0)) no_letter (first_byte Identifier 1 (omega arith) is);
        no_number = λ is. both_ways (is_ascii_digit (get_or text 0 0)) no_digit (first_byte PreprocessingNumber 1 (omega arith) is);
        no_punctuator = λ k is. no_punctuator k 1 is.in_range (omega arith) some (sym is.is);
        no_unsupported_punctuator = λ k is. no_unsupported k 1 is.in_range (omega arith) some (sym is.is);
      };
      longest = only_punctuators 1 (omega arith) (shorter_too Punctuators n 1 (omega arith) no_punctuator) (shorter_too UnsupportedPunctuators n' 1 (omega arith) no_unsupported);
    }

-- an entry has at least a byte
pub entry_some : (table : Table) (k : ℕ) (s : List ℕ) → each_passes (λ e. ltb 0 (length e)) (entries table) ≡ true → IsEntry table k s → 0 < length s
entry_some table k s all is = ltb-true 0 (length s) (ap (λ e. ltb 0 (length e)) is.is ∙ passes_at (λ e. ltb 0 (length e)) (entries table) all k is.in_range)

-- a lexeme has at least a byte
pub lexeme_some : (class : TokenClass) (s : List ℕ) → IsLexeme class s → 0 < length s
lexeme_some WhiteSpace s is = omega (arith, is.one)
lexeme_some Identifier s is = is.some
lexeme_some Comment s is = omega (arith, comment_long s is)
lexeme_some UnclosedComment s is = omega (arith, (opening 47 42 s is.opens).long)
lexeme_some CharacterConstant s is = omega (arith, is.1.ends)
lexeme_some StringLiteral s is = omega (arith, is.1.ends)
lexeme_some PreprocessingNumber s is = is.some
lexeme_some (Punctuator k) s is = entry_some Punctuators k s refl is
lexeme_some UnsupportedPunctuator s is = entry_some UnsupportedPunctuators is.0 s refl is.1
lexeme_some Other s is = omega (arith, is.one)
