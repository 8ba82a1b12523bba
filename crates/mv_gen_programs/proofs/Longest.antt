-- A part that fits before a byte is the lexeme to take before that byte.
use Rattle.std.proofs.Common.{◌≡◌, ℕ, zero, suc, ◌+◌, ◌-◌, ◌<◌, ◌≤◌, ◌^◌, Bool, true, false, Option, Some, None, List, [], ◌∷◌, ◌++◌, length, get_or, take, refl, sym, ap, subst, ◌∙◌, inl, inr, arith, length-append}
use Rattle.std.specs.Prelude.{◌&&◌, ◌||◌, ◌⊎◌, ◌==◌, not, nat_eq, nat_le, nat_lt}
use Rattle.std.proofs.lemmas.Bool.{and_parts, not-true, or_left, or_right, both_ways, eq-eqb, eqb-true, ltb-true, leb-true, false≢true}
use Rattle.std.proofs.lemmas.Cmp.{nat_list_eq_equiv}
use Rattle.std.proofs.Math.ListN.{get_or-append}
use Rattle.std.proofs.Math.Seq.{take-append_seam, take-append-add}
use Rattle.std.specs.Fmt.{decimal}
use Rattle.std.specs.List.{list_all}
use Rattle.std.specs.Char.{is_ascii_digit}
use Rattle.mv_num.specs.declared.kind.Kind.TheVariants.{Int}
use Rattle.mv_syntax.specs.declared.token.Piece.TheVariants as piece
use Rattle.mv_lexer.specs.Bytes.{is_white_space, is_nondigit, is_identifier_byte, begins_comment}
use Rattle.mv_lexer.specs.Characters.{NoClosing}
use Rattle.mv_lexer.specs.Include.{IsIncludeLine, longest_lexeme}
use Rattle.mv_lexer.specs.Lexemes.{IsLongestLexeme, continues_number}
use Rattle.mv_lexer.specs.Numbers.{digits, base, value, suffix, short_suffix, are_digits, kind_of, IsIntegerConstant}
use Rattle.mv_lexer.specs.Reading.{Evaluates, white_space, keyword, constant, punctuator, token, StandsInFront, IsAccepted}
use Rattle.mv_lexer.specs.Reading as reading
use Rattle.mv_lexer.specs.Tables.{IsEntry, NoLonger, entries, keywords, unsupported_keywords, punctuators, unsupported_punctuators}
use Rattle.mv_lexer.specs.declared.table.Table.{Table}
use Rattle.mv_lexer.specs.declared.table.Table.TheVariants.{Keywords, UnsupportedKeywords, Punctuators, UnsupportedPunctuators}
use Rattle.mv_lexer.specs.declared.class.TokenClass.TheVariants.{WhiteSpace, Identifier, PreprocessingNumber}
use Rattle.mv_lexer.proofs.LexemeLemmas.{each_passes, passes_at, is_punctuator_byte, punctuator_no_blank, punctuator_no_name, punctuator_no_quote, blank_longest, identifier_longest, number_longest, punctuator_longest}
use Rattle.mv_gen_programs.proofs.Parts.{Part, blank, word, name, number, sign, bytes, class_of, evaluation_of, lexeme, ends_word, word_fits, is_name, is_plain, is_constant, is_number, ends_number, is_longest, sign_fits, fits}
use Rattle.mv_check_outline.specs.Names.{same_name}

-- ---- lists

pub all_at : (p : ℕ → Bool) (s : List ℕ) → list_all p s ≡ true → (i : ℕ) → i < length s → p (get_or s i 0) ≡ true
all_at p [] h i lt = absurd (omega arith)
all_at p (x ∷ s) h zero lt = (and_parts (p x) (list_all p s) h).0
all_at p (x ∷ s) h (suc i) lt = all_at p s (and_parts (p x) (list_all p s) h).1 i (omega arith)

-- the first byte behind a front
pub next_at : (s rest : List ℕ) → get_or (s ++ rest) (length s) 0 ≡ get_or rest 0 0
next_at [] rest = refl
next_at (x ∷ s) rest = next_at s rest

take_within : (n m : ℕ) (s : List ℕ) → n ≤ m → take n (take m s) ≡ take n s
take_within zero m s h = refl
take_within (suc n) zero s h = absurd (omega arith)
take_within (suc n) (suc m) [] h = refl
take_within (suc n) (suc m) (x ∷ s) h = ap (λ t. x ∷ t) (take_within n m s (omega arith))

take_one : (s : List ℕ) → 0 < length s → take 1 s ≡ get_or s 0 0 ∷ []
take_one [] h = absurd (omega arith)
take_one (x ∷ s) h = refl

-- ---- entries

-- what passes as none of a row is none
pub no_entry : (table : Table) (s : List ℕ) → each_passes (λ e. not (same_name s e)) (entries table) ≡ true → (k : ℕ) → IsEntry table k s → ⊥
no_entry table s h k is =
    let differs : not (same_name s (get_or (entries table) k [])) ≡ true = passes_at (λ e. not (same_name s e)) (entries table) h k is.in_range in
    both_ways (same_name s (get_or (entries table) k [])) (not-true (same_name s (get_or (entries table) k [])) differs) (ap (same_name s) (sym is.is) ∙ nat_list_eq_equiv.refl s)

-- no entry of a row is longer
no_longer : (table : Table) (s rest : List ℕ) → is_longest s (get_or rest 0 0) (entries table) ≡ true → NoLonger table (length (entries table)) (length s) (s ++ rest)
no_longer table s rest h = λ k m below longer in_range is.
    let e = get_or (entries table) k [] in
    let whole : length (s ++ rest) ≡ length s + length rest = length-append s rest in
    let some : 0 < length rest = omega (arith, whole, longer, in_range) in
    let front : take (length s + 1) e ≡ s ++ (get_or rest 0 0 ∷ []) =
    ap (take (length s + 1)) is
    ∙ (take_within (length s + 1) m (s ++ rest) (omega (arith, longer))
    ∙ (take-append-add s rest 1
    ∙ ap (λ t. s ++ t) (take_one rest some))) in
    let differs = passes_at (λ e. not (same_name (take (length s + 1) e) (s ++ (get_or rest 0 0 ∷ [])))) (entries table) h k below in
    let t = same_name (take (length s + 1) e) (s ++ (get_or rest 0 0 ∷ [])) in
    both_ways t (not-true t differs) (ap (λ x. same_name x (s ++ (get_or rest 0 0 ∷ []))) front ∙ nat_list_eq_equiv.refl (s ++ (get_or rest 0 0 ∷ [])))

-- ---- lexemes

-- no include line begins with another byte than `#`
no_include : (p : ℕ → Bool) (text : List ℕ) → p (get_or text 0 0) ≡ true → p 35 ≡ false → (m : ℕ) → IsIncludeLine text m → ⊥
no_include p text h other m is = false≢true (sym other ∙ ap p (sym is.hash) ∙ h)

pub blank_front : (b : ℕ) (rest : List ℕ) → is_white_space b ≡ true → IsLongestLexeme (b ∷ rest) WhiteSpace 1
blank_front b rest h = blank_longest (b ∷ rest) (omega arith) h

-- the bytes of a name or keyword
module _ (s rest : List ℕ) (some : 0 < length s) where
  first_of : get_or (s ++ rest) 0 0 ≡ get_or s 0 0
  first_of = get_or-append s rest 0 0 some

  long : length s ≤ length (s ++ rest)
  long = omega (arith, length-append s rest)

  pub identifier_front : is_nondigit (get_or s 0 0) ≡ true → list_all is_identifier_byte s ≡ true → ends_word (get_or rest 0 0) ≡ true →
      IsLongestLexeme (s ++ rest) Identifier (length s)
  identifier_front letter each ends =
      identifier_longest (s ++ rest) (omega (arith, long, some)) (length s) (ap is_nondigit first_of ∙ letter) some long
      (λ i lt. ap is_identifier_byte (get_or-append s rest 0 i lt) ∙ all_at is_identifier_byte s each i lt)
      (λ _. ap is_identifier_byte (next_at s rest) ∙ not-true (is_identifier_byte (get_or rest 0 0)) ends)

  digit_continues : (a b : ℕ) → is_ascii_digit b ≡ true → continues_number a b ≡ true
  digit_continues a b h = or_left _ _ (or_left _ _ (or_right (is_nondigit b) (is_ascii_digit b) h))

  no_continue : (a b : ℕ) → ends_number b ≡ true → continues_number a b ≡ false
  no_continue a b h =
      let parts = and_parts (not (is_identifier_byte b) && not (b == 46)) (not (b == 43) && not (b == 45)) h in
      let one = and_parts (not (is_identifier_byte b)) (not (b == 46)) parts.0 in
      let two = and_parts (not (b == 43)) (not (b == 45)) parts.1 in
      let e : is_identifier_byte b ≡ false = not-true _ one.0 in
      let f : (b == 46) ≡ false = not-true _ one.1 in
      let g : (b == 43) ≡ false = not-true _ two.0 in
      let k : (b == 45) ≡ false = not-true _ two.1 in
      rw (e, f, g, k) refl

  pub number_front : list_all is_ascii_digit s ≡ true → ends_number (get_or rest 0 0) ≡ true → IsLongestLexeme (s ++ rest) PreprocessingNumber (length s)
  number_front each ends =
      number_longest (s ++ rest) (omega (arith, long, some)) (length s) (ap is_ascii_digit first_of ∙ all_at is_ascii_digit s each 0 some) some long
      (λ i lt.
      digit_continues (get_or (s ++ rest) i 0) (get_or (s ++ rest) (i + 1) 0)
      (ap is_ascii_digit (get_or-append s rest 0 (i + 1) lt) ∙ all_at is_ascii_digit s each (i + 1) lt))
      (λ _. no_continue (get_or (s ++ rest) (length s - 1) 0) (get_or (s ++ rest) (length s) 0) (ap ends_number (next_at s rest) ∙ ends))

  pub no_comment : begins_comment (s ++ get_or rest 0 0 ∷ []) ≡ false → begins_comment (s ++ rest) ≡ false
  no_comment h = by s some h
    where
      by : (t : List ℕ) → 0 < length t → begins_comment (t ++ get_or rest 0 0 ∷ []) ≡ false → begins_comment (t ++ rest) ≡ false
      by [] lt h = absurd (omega arith)
      by (a ∷ []) lt h = h
      by (a ∷ b ∷ t) lt h = h

-- ---- parts

plain_suffix : (o : Option Bool) → is_plain o ≡ true → o ≡ Some false
plain_suffix None h = absurd (false≢true h)
plain_suffix (Some true) h = absurd (false≢true h)
plain_suffix (Some false) h = refl

kind_int : (b n : ℕ) → nat_lt n (2 ^ 31) ≡ true → kind_of b false n ≡ Some Int
kind_int b n h = rw h refl

-- the length of the bytes, whatever part has them
stands_as : (at_line_start : Bool) (x : Part) (rest : List ℕ) → ((m : ℕ) → IsIncludeLine (bytes x ++ rest) m → ⊥) → IsLongestLexeme (bytes x ++ rest) (class_of x) (length (bytes x)) →
    Evaluates (class_of x) (bytes x) (evaluation_of x) → StandsInFront at_line_start (bytes x ++ rest) (lexeme x)
stands_as at_line_start x rest none longest evaluates =
    record { front = take-append_seam (bytes x) rest; here = longest_lexeme (λ _. none) longest; evaluation = evaluates }

blank_stands : (at_line_start : Bool) (b : ℕ) (rest : List ℕ) → is_white_space b ≡ true → StandsInFront at_line_start (b ∷ rest) (lexeme (blank b))
blank_stands at_line_start b rest h = stands_as at_line_start (blank b) rest (no_include is_white_space (b ∷ rest) h refl) (blank_front b rest h) white_space

-- each keyword is an identifier
abbrev is_word : List ℕ → Bool
is_word e = nat_lt 0 (length e) && (is_nondigit (get_or e 0 0) && list_all is_identifier_byte e)

word_stands : (at_line_start : Bool) (k : ℕ) (rest : List ℕ) → word_fits k (get_or rest 0 0) ≡ true → StandsInFront at_line_start (bytes (word k) ++ rest) (lexeme (word k))
unfolding word_fits
word_stands at_line_start k rest h =
    let s = get_or keywords k [] in
    let parts = and_parts (nat_lt k 22) (ends_word (get_or rest 0 0)) h in
    let below : k < 22 = ltb-true k 22 parts.0 in
    let is = passes_at is_word keywords refl k below in
    let one = and_parts (nat_lt 0 (length s)) (is_nondigit (get_or s 0 0) && list_all is_identifier_byte s) is in
    let two = and_parts (is_nondigit (get_or s 0 0)) (list_all is_identifier_byte s) one.1 in
    let some : 0 < length s = ltb-true 0 (length s) one.0 in
    stands_as at_line_start (word k) rest (no_include is_nondigit (s ++ rest) (ap is_nondigit (get_or-append s rest 0 0 some) ∙ two.0) refl)
    (identifier_front s rest some two.0 two.1 parts.1) (keyword k (record { in_range = below; is = refl }))

name_stands : (at_line_start : Bool) (s : List ℕ) (rest : List ℕ) → is_name s ≡ true → ends_word (get_or rest 0 0) ≡ true → StandsInFront at_line_start (s ++ rest) (lexeme (name s))
unfolding is_name
name_stands at_line_start s rest h ends =
    let a = nat_lt 0 (length s) && is_nondigit (get_or s 0 0) in
    let b = list_all is_identifier_byte s && nat_le (length s) 63 in
    let c = each_passes (λ e. not (same_name s e)) keywords && each_passes (λ e. not (same_name s e)) unsupported_keywords in
    let halves = and_parts a (b && c) h in
    let one = and_parts (nat_lt 0 (length s)) (is_nondigit (get_or s 0 0)) halves.0 in
    let rests = and_parts b c halves.1 in
    let two = and_parts (list_all is_identifier_byte s) (nat_le (length s) 63) rests.0 in
    let three = and_parts (each_passes (λ e. not (same_name s e)) keywords) (each_passes (λ e. not (same_name s e)) unsupported_keywords) rests.1 in
    let some : 0 < length s = ltb-true 0 (length s) one.0 in
    stands_as at_line_start (name s) rest (no_include is_nondigit (s ++ rest) (ap is_nondigit (get_or-append s rest 0 0 some) ∙ one.1) refl)
    (identifier_front s rest some one.1 two.0 ends) (reading.name (leb-true (length s) 63 two.1) (no_entry Keywords s three.0) (no_entry UnsupportedKeywords s three.1))

constant_of : (s : List ℕ) (n : ℕ) → IsIntegerConstant s false → value s ≡ n → nat_lt n (2 ^ 31) ≡ true → Evaluates PreprocessingNumber s (token (piece.Number n Int))
constant_of s n is e small =
    subst (λ v. Evaluates PreprocessingNumber s (token (piece.Number v Int))) e
    (constant false Int is (kind_int (base s) (value s) (ap (λ v. nat_lt v (2 ^ 31)) e ∙ small)))

number_stands : (at_line_start : Bool) (n : ℕ) (rest : List ℕ) → is_constant n ≡ true → ends_number (get_or rest 0 0) ≡ true → StandsInFront at_line_start (decimal n ++ rest) (lexeme (number n))
unfolding is_constant
number_stands at_line_start n rest h ends = by (decimal n) refl h
  where
    by : (s : List ℕ) → s ≡ decimal n →
        ((nat_lt 0 (length s) && list_all is_ascii_digit s)
        && ((nat_lt 0 (length (digits s)) && are_digits (base s) (digits s))
        && (is_plain (short_suffix (suffix s)) && (nat_eq (value s) n && nat_lt n (2 ^ 31))))) ≡ true →
        StandsInFront at_line_start (decimal n ++ rest) (lexeme (number n))
    by s e h =
        let a = nat_lt 0 (length s) && list_all is_ascii_digit s in
        let b = nat_lt 0 (length (digits s)) && are_digits (base s) (digits s) in
        let d = nat_eq (value s) n && nat_lt n (2 ^ 31) in
        let c = is_plain (short_suffix (suffix s)) && d in
        let halves = and_parts a (b && c) h in
        let rests = and_parts b c halves.1 in
        let one = and_parts (nat_lt 0 (length s)) (list_all is_ascii_digit s) halves.0 in
        let two = and_parts (nat_lt 0 (length (digits s))) (are_digits (base s) (digits s)) rests.0 in
        let three = and_parts (is_plain (short_suffix (suffix s))) d rests.1 in
        let four = and_parts (nat_eq (value s) n) (nat_lt n (2 ^ 31)) three.1 in
        let some : 0 < length s = ltb-true 0 (length s) one.0 in
        let first : is_ascii_digit (get_or (s ++ rest) 0 0) ≡ true = ap is_ascii_digit (get_or-append s rest 0 0 some) ∙ all_at is_ascii_digit s one.1 0 some in
        let is : IsIntegerConstant s false = record {
          has_digits = record { some = ltb-true 0 (length (digits s)) two.0; each = two.1 };
          has_suffix = plain_suffix (short_suffix (suffix s)) three.0;
        } in
        stands_as at_line_start (number n) rest
        (subst (λ t. (m : ℕ) → IsIncludeLine (t ++ rest) m → ⊥) e (no_include is_ascii_digit (s ++ rest) first refl))
        (subst (λ t. IsLongestLexeme (t ++ rest) PreprocessingNumber (length t)) e (number_front s rest some one.1 ends))
        (subst (λ t. Evaluates PreprocessingNumber t (token (piece.Number n Int))) e (constant_of s n is (eqb-true (value s) n four.0) four.1))

sign_stands : (at_line_start : Bool) (k : ℕ) (rest : List ℕ) → sign_fits k (get_or rest 0 0) ≡ true → StandsInFront at_line_start (bytes (sign k) ++ rest) (lexeme (sign k))
unfolding sign_fits
sign_stands at_line_start k rest h =
    let s = get_or punctuators k [] in
    let next = get_or rest 0 0 in
    let b = get_or s 0 0 in
    let first_two = nat_lt k 43 && nat_lt 0 (length s) in
    let first_byte = is_punctuator_byte b && not (b == 35) in
    let entries_too = is_longest s next punctuators && is_longest s next unsupported_punctuators in
    let last = not (begins_comment (s ++ next ∷ [])) && entries_too in
    let halves = and_parts first_two (first_byte && last) h in
    let rests = and_parts first_byte last halves.1 in
    let one = and_parts (nat_lt k 43) (nat_lt 0 (length s)) halves.0 in
    let two = and_parts (is_punctuator_byte b) (not (b == 35)) rests.0 in
    let three = and_parts (not (begins_comment (s ++ next ∷ []))) entries_too rests.1 in
    let four = and_parts (is_longest s next punctuators) (is_longest s next unsupported_punctuators) three.1 in
    let some : 0 < length s = ltb-true 0 (length s) one.1 in
    let below : k < 43 = ltb-true k 43 one.0 in
    let text = s ++ rest in
    let e : get_or text 0 0 ≡ b = get_or-append s rest 0 0 some in
    let fits_text : length s ≤ length text = omega (arith, length-append s rest) in
    let some_text : 0 < length text = omega (arith, fits_text, some) in
    let no_name = punctuator_no_name b two.0 in
    let no_letter : is_nondigit b ≡ false = no_left (is_nondigit b) (is_ascii_digit b) no_name in
    let no_digit : is_ascii_digit b ≡ false = no_right (is_nondigit b) (is_ascii_digit b) no_name in
    let quotes = punctuator_no_quote b two.0 in
    let no_closing : NoClosing text = λ is close closing. no_quote b quotes (subst (λ c. (c ≡ 34) ⊎ (c ≡ 39)) e is) in
    stands_as at_line_start (sign k) rest (no_include (λ c. not (c == 35)) text (ap (λ c. not (c == 35)) e ∙ two.1) refl)
    (punctuator_longest text some_text (ap is_white_space e ∙ punctuator_no_blank b two.0) (ap is_nondigit e ∙ no_letter) (ap is_ascii_digit e ∙ no_digit)
    (no_comment s rest some (not-true _ three.0)) no_closing k (length s) (length s) some fits_text
    (record { in_range = below; is = take-append_seam s rest }) (no_longer Punctuators s rest four.0) (omega arith) (no_longer UnsupportedPunctuators s rest four.1))
    (punctuator k)
  where
    no_left : (x y : Bool) → (x || y) ≡ false → x ≡ false
    no_left true y h = absurd (false≢true (sym h))
    no_left false y h = refl

    no_right : (x y : Bool) → (x || y) ≡ false → y ≡ false
    no_right true y h = absurd (false≢true (sym h))
    no_right false y h = h

    no_quote : (b : ℕ) → ((b == 34) ≡ false) × ((b == 39) ≡ false) → (b ≡ 34) ⊎ (b ≡ 39) → ⊥
    no_quote b h (inl is) = both_ways (b == 34) h.0 (eq-eqb b 34 is)
    no_quote b h (inr is) = both_ways (b == 39) h.1 (eq-eqb b 39 is)

constant_is : (n : ℕ) → is_number n ≡ true → is_constant n ≡ true
unfolding is_number
constant_is n h = (and_parts (is_constant n) (nat_le (length (decimal n)) 63) h).0

-- a part is the lexeme in front
pub stands : (at_line_start : Bool) (x : Part) (rest : List ℕ) → fits x (get_or rest 0 0) ≡ true → StandsInFront at_line_start (bytes x ++ rest) (lexeme x)
stands at_line_start (blank b) rest h = blank_stands at_line_start b rest h
stands at_line_start (word k) rest h = word_stands at_line_start k rest h
stands at_line_start (name s) rest h =
    let parts = and_parts (is_name s) (ends_word (get_or rest 0 0)) h in name_stands at_line_start s rest parts.0 parts.1
stands at_line_start (number n) rest h =
    let parts = and_parts (is_number n) (ends_number (get_or rest 0 0)) h in number_stands at_line_start n rest (constant_is n parts.0) parts.1
stands at_line_start (sign k) rest h = sign_stands at_line_start k rest h

pub accepted : (x : Part) → IsAccepted (evaluation_of x)
accepted (blank b) = tt
accepted (word k) = tt
accepted (name s) = tt
accepted (number n) = tt
accepted (sign k) = tt

-- a part that fits has a byte
pub lexeme_bytes : (x : Part) (next : ℕ) → fits x next ≡ true → 0 < length (bytes x)
unfolding word_fits is_name is_constant sign_fits
lexeme_bytes (blank b) next h = omega arith
lexeme_bytes (word k) next h =
    let below : k < 22 = ltb-true k 22 (and_parts (nat_lt k 22) (ends_word next) h).0 in
    let is = passes_at is_word keywords refl k below in
    ltb-true 0 (length (bytes (word k))) (and_parts (nat_lt 0 (length (bytes (word k)))) (is_nondigit (get_or (bytes (word k)) 0 0) && list_all is_identifier_byte (bytes (word k))) is).0
lexeme_bytes (name s) next h = ltb-true 0 (length s) (and_parts (nat_lt 0 (length s)) _ (and_parts _ _ (and_parts (is_name s) (ends_word next) h).0).0).0
lexeme_bytes (number n) next h = ltb-true 0 (length (decimal n)) (and_parts (nat_lt 0 (length (decimal n))) _ (and_parts _ _ (constant_is n (and_parts (is_number n) (ends_number next) h).0)).0).0
lexeme_bytes (sign k) next h = ltb-true 0 (length (bytes (sign k))) (and_parts (nat_lt k 43) (nat_lt 0 (length (bytes (sign k)))) (and_parts (nat_lt k 43 && nat_lt 0 (length (bytes (sign k)))) _ h).0).1

-- nor more than 63
pub short_bytes : (x : Part) (next : ℕ) → fits x next ≡ true → length (bytes x) ≤ 63
unfolding word_fits is_name is_number sign_fits
short_bytes (blank b) next h = omega arith
short_bytes (word k) next h =
    leb-true (length (bytes (word k))) 63 (passes_at (λ e. nat_le (length e) 63) keywords refl k (ltb-true k 22 (and_parts (nat_lt k 22) (ends_word next) h).0))
short_bytes (name s) next h =
    let a = nat_lt 0 (length s) && is_nondigit (get_or s 0 0) in
    let b = list_all is_identifier_byte s && nat_le (length s) 63 in
    let c = each_passes (λ e. not (same_name s e)) keywords && each_passes (λ e. not (same_name s e)) unsupported_keywords in
    leb-true (length s) 63 (and_parts (list_all is_identifier_byte s) (nat_le (length s) 63) (and_parts b c (and_parts a (b && c) (and_parts (is_name s) (ends_word next) h).0).1).0).1
short_bytes (number n) next h =
    leb-true (length (decimal n)) 63 (and_parts (is_constant n) (nat_le (length (decimal n)) 63) (and_parts (is_number n) (ends_number next) h).0).1
short_bytes (sign k) next h =
    let below : k < 43 = ltb-true k 43 (and_parts (nat_lt k 43) (nat_lt 0 (length (bytes (sign k)))) (and_parts (nat_lt k 43 && nat_lt 0 (length (bytes (sign k)))) _ h).0).0 in
    leb-true (length (bytes (sign k))) 63 (passes_at (λ e. nat_le (length e) 63) punctuators refl k below)
