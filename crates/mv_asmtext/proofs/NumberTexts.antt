-- The numbers that are printed are read as themselves.
use Rattle.std.proofs.Common.{◌≡◌, ℕ, zero, suc, ◌+◌, ◌*◌, ◌/◌, ◌%◌, ◌^◌, ◌<◌, ◌≤◌, lit≤, min, refl, sym, ap, ◌∙◌, List, [], ◌∷◌, ◌++◌, length, map, get_or, Bool, true, false, eqb, leb, ltb, Some, arith, length-append}
use Rattle.std.specs.List.{list_all}
use Rattle.std.specs.Int.Digits.{digits_of, number_from_digits, number_from_digits_after, AllBelowBase}
use Rattle.std.proofs.lemmas.Int.Digits.{number_digits_of, all_below_base_digits_of, first_digits_of, number_after_ge, length-digits_of-le}
use Rattle.std.proofs.lemmas.Bool.Decides.{nat_tests}
use Rattle.std.proofs.lemmas.List.{length-map}
use Rattle.std.proofs.lemmas.List.Folds.{list_all-append}
use Rattle.mv_asmtext.specs.declared.number.Number.{Number}
use Rattle.mv_asmtext.specs.Lexemes.{is_word_byte, is_name_byte, is_name}
use Rattle.mv_asmtext.specs.Numbers.{digit, value_from, are_digits, is_decimal, begins_hexadecimal, number, number_of}
use Rattle.mv_asmtext.specs.Printing.{hex, hex_digit, digit_bytes, decimal, number_text}
use Rattle.mv_asmtext.proofs.Turns.{digits_more}
use Rattle.mv_asmtext.proofs.Words.{is_word, is_short_word}

-- ---- hexadecimal

-- one more digit at the end
value_push : (base n : ℕ) (ds : List ℕ) (d : ℕ) → value_from base n (ds ++ d ∷ []) ≡ min (value_from base n ds * base + digit d) (2 ^ 32)
value_push base n [] d = refl
value_push base n (e ∷ ds) d = value_push base (min (n * base + digit e) (2 ^ 32)) ds d

digit_hex : (d : ℕ) → d < 16 → digit (hex_digit d) ≡ d
digit_hex d h = grind (arith, nat_tests)

-- the last hexadecimal digits of a number write what they leave
hex_value : (k w : ℕ) → w < 16 ^ k → w < 2 ^ 32 → value_from 16 0 (hex k w) ≡ w
unfolding hex
hex_value zero w h small = omega arith
hex_value (suc k) w h small =
    let front = hex_value k (w / 16) (omega arith) (omega arith) in
    value_push 16 0 (hex k (w / 16)) (hex_digit (w % 16)) ∙ rw (front, digit_hex (w % 16) (omega arith)) (omega arith)

pub hex_length : (k w : ℕ) → length (hex k w) ≡ k
unfolding hex
hex_length zero w = refl
hex_length (suc k) w = omega (arith, length-append (hex k (w / 16)) (hex_digit (w % 16) ∷ []), hex_length k (w / 16))

hex_digits : (k w : ℕ) → are_digits 16 (hex k w) ≡ true
unfolding hex
hex_digits zero w = refl
hex_digits (suc k) w =
    let last : ltb (digit (hex_digit (w % 16))) 16 ≡ true = rw (digit_hex (w % 16) (omega arith)) (grind (arith, nat_tests)) in
    list_all-append (λ d. ltb (digit d) 16) (hex k (w / 16)) (hex_digit (w % 16) ∷ []) ∙ rw (hex_digits k (w / 16), last) refl

hex_digit_word : (d : ℕ) → d < 16 → is_word_byte (hex_digit d) ≡ true
unfolding is_word_byte is_name_byte
hex_digit_word d h = grind (arith, nat_tests)

hex_bytes : (k w : ℕ) → list_all is_word_byte (hex k w) ≡ true
unfolding hex
hex_bytes zero w = refl
hex_bytes (suc k) w =
    list_all-append is_word_byte (hex k (w / 16)) (hex_digit (w % 16) ∷ []) ∙ rw (hex_bytes k (w / 16), hex_digit_word (w % 16) (omega arith)) refl

-- a word in hexadecimal, as it is printed
abbrev pub hex_text : ℕ → List ℕ
hex_text w = 48 ∷ 120 ∷ hex 8 w

pub hex_word : (w : ℕ) → is_word (hex_text w) ≡ true
unfolding is_word_byte is_name_byte
hex_word w = hex_bytes 8 w

pub hex_back : (w : ℕ) → w < 2 ^ 32 → number_of (hex_text w) ≡ Some (number false w)
unfolding number_of
hex_back w h = rw (hex_length 8 w, hex_digits 8 w, hex_value 8 w (omega arith) h) refl

-- ---- decimal

digit_decimal : (d : ℕ) → d < 10 → digit (48 + d) ≡ d
digit_decimal d h = grind (arith, nat_tests)

value_digits : (n : ℕ) (ds : List ℕ) → AllBelowBase 10 ds → number_from_digits_after 10 n ds < 2 ^ 32 → value_from 10 n (map (λ d. 48 + d) ds) ≡ number_from_digits_after 10 n ds
value_digits n [] all small = refl
value_digits n (d ∷ ds) all small =
    let e = digit_decimal d all.0 in
    let least = number_after_ge 10 (n * 10 + d) ds (omega arith) in
    let same : min (n * 10 + digit (48 + d)) (2 ^ 32) ≡ n * 10 + d = rw e (omega (arith, least, small)) in
    ap (λ m. value_from 10 m (map (λ d. 48 + d) ds)) same ∙ value_digits (n * 10 + d) ds all.1 small

digits_are : (ds : List ℕ) → AllBelowBase 10 ds → are_digits 10 (map (λ d. 48 + d) ds) ≡ true
digits_are [] all = refl
digits_are (d ∷ ds) all =
    let e = digit_decimal d all.0 in
    let less : ltb (digit (48 + d)) 10 ≡ true = rw e (grind (arith, nat_tests)) in
    rw (less, digits_are ds all.1) refl

no_zero : (d : ℕ) → 0 < d → eqb (48 + d) 48 ≡ false
no_zero d h = grind (arith, nat_tests)

no_hexadecimal : (a : ℕ) (bs : List ℕ) → eqb a 48 ≡ false → begins_hexadecimal (a ∷ bs) ≡ false
no_hexadecimal a [] h = refl
no_hexadecimal a (b ∷ bs) h = rw h refl

digits_decimal : (d : ℕ) (ds : List ℕ) → AllBelowBase 10 (d ∷ ds) → 0 < d → is_decimal (map (λ d. 48 + d) (d ∷ ds)) ≡ true
digits_decimal d ds all some = rw (no_zero d some) (digits_are (d ∷ ds) all)

-- digits without a leading 0 are read as their number
digits_back : (ds : List ℕ) → AllBelowBase 10 ds → 0 < get_or ds 0 0 → number_from_digits 10 ds < 2 ^ 32 → number_of (map (λ d. 48 + d) ds) ≡ Some (number false (number_from_digits 10 ds))
unfolding number_of
digits_back [] all some small = absurd (omega arith)
digits_back (d ∷ ds) all some small =
    let no_sign : eqb (48 + d) 45 ≡ false = grind (arith, nat_tests) in
    rw (no_hexadecimal (48 + d) (map (λ d. 48 + d) ds) (no_zero d some), no_sign, digits_decimal d ds all some, value_digits 0 (d ∷ ds) all small) refl

negative_back : (ds : List ℕ) → AllBelowBase 10 ds → 0 < get_or ds 0 0 → number_from_digits 10 ds < 2 ^ 32 → number_of (45 ∷ map (λ d. 48 + d) ds) ≡ Some (number true (number_from_digits 10 ds))
unfolding number_of
negative_back [] all some small = absurd (omega arith)
negative_back (d ∷ ds) all some small = rw (digits_decimal d ds all some, no_zero d some, value_digits 0 (d ∷ ds) all small) refl

positive : (m : ℕ) → 0 < m → decimal m ≡ map (λ d. 48 + d) (digits_of 10 m)
unfolding decimal digit_bytes
positive m h = sym (digits_more m h)

module _ (m : ℕ) (small : m < 2 ^ 32) (some : 0 < m) where
  below : AllBelowBase 10 (digits_of 10 m)
  below = all_below_base_digits_of 10 m (lit≤ tt)

  first : 0 < get_or (digits_of 10 m) 0 0
  first = first_digits_of 10 m (lit≤ tt) some

  same : number_from_digits 10 (digits_of 10 m) ≡ m
  same = number_digits_of 10 m (lit≤ tt)

  few : number_from_digits 10 (digits_of 10 m) < 2 ^ 32
  few = rw same small

  positive_back : number_of (decimal m) ≡ Some (number false m)
  positive_back = ap number_of (positive m some) ∙ (digits_back (digits_of 10 m) below first few ∙ ap (λ k. Some (number false k)) same)

  minus_back : number_of (45 ∷ decimal m) ≡ Some (number true m)
  minus_back = ap (λ ds. number_of (45 ∷ ds)) (positive m some) ∙ (negative_back (digits_of 10 m) below first few ∙ ap (λ k. Some (number true k)) same)

unsigned_back : (m : ℕ) → m < 2 ^ 32 → number_of (decimal m) ≡ Some (number false m)
unfolding number_of decimal digit_bytes
unsigned_back zero h = refl
unsigned_back (suc m) h = positive_back (suc m) h (omega arith)

signed_back : (b : Bool) (m : ℕ) → m < 2 ^ 32 → (b ≡ true → 0 < m) → number_of (number_text (number b m)) ≡ Some (number b m)
unfolding number_text
signed_back false m h some = unsigned_back m h
signed_back true m h some = minus_back m h (some refl)

pub number_back : (n : Number) → n.magnitude < 2 ^ 32 → (n.negative ≡ true → 0 < n.magnitude) → number_of (number_text n) ≡ Some n
number_back n h some = signed_back n.negative n.magnitude h some

-- ---- numbers are short words, and no names

digit_word : (d : ℕ) → d < 10 → is_word_byte (48 + d) ≡ true
unfolding is_word_byte is_name_byte
digit_word d h = grind (arith, nat_tests)

digits_word : (ds : List ℕ) → AllBelowBase 10 ds → list_all is_word_byte (map (λ d. 48 + d) ds) ≡ true
digits_word [] all = refl
digits_word (d ∷ ds) all = rw (digit_word d all.0, digits_word ds all.1) refl

decimal_word : (m : ℕ) → list_all is_word_byte (decimal m) ≡ true
unfolding decimal digit_bytes
decimal_word m =
    list_all-append is_word_byte (map (λ d. 48 + d) (digits_of 10 (m / 10))) ((48 + m % 10) ∷ []) ∙
    rw (digits_word (digits_of 10 (m / 10)) (all_below_base_digits_of 10 (m / 10) (lit≤ tt)), digit_word (m % 10) (omega arith)) refl

decimal_length : (m : ℕ) → m ≤ 2 ^ 20 → length (decimal m) ≤ 7
unfolding decimal digit_bytes
decimal_length m h =
    let digits = length-digits_of-le 10 6 (m / 10) (lit≤ tt) (omega arith) in
    omega (arith, digits, length-append (map (λ d. 48 + d) (digits_of 10 (m / 10))) ((48 + m % 10) ∷ []), length-map (digits_of 10 (m / 10)) (λ d. 48 + d))

nonempty : (bs : List ℕ) (b : ℕ) → is_word (bs ++ b ∷ []) ≡ list_all is_word_byte (bs ++ b ∷ [])
nonempty [] b = refl
nonempty (c ∷ bs) b = refl

decimal_is_word : (m : ℕ) → is_word (decimal m) ≡ true
unfolding decimal
decimal_is_word m = nonempty (digit_bytes (m / 10)) (48 + m % 10) ∙ decimal_word m

short_by : (w : List ℕ) → is_word w ≡ true → length w ≤ 8 → is_short_word w ≡ true
unfolding is_short_word
short_by w h k = let few : leb (length w) 8 ≡ true = grind (arith, nat_tests) in rw (h, few) refl

minus_word : (m : ℕ) → is_word (45 ∷ decimal m) ≡ true
unfolding is_word_byte is_name_byte
minus_word m = decimal_word m

text_word : (b : Bool) (m : ℕ) → m ≤ 2 ^ 20 → is_short_word (number_text (number b m)) ≡ true
unfolding number_text
text_word false m h = short_by (decimal m) (decimal_is_word m) (omega (arith, decimal_length m h))
text_word true m h = short_by (45 ∷ decimal m) (minus_word m) (omega (arith, decimal_length m h))

pub number_word : (n : Number) → n.magnitude ≤ 2 ^ 20 → is_short_word (number_text n) ≡ true
number_word n h = text_word n.negative n.magnitude h

digit_no_name : (d : ℕ) (bs : List ℕ) → d < 10 → is_name ((48 + d) ∷ bs) ≡ false
digit_no_name d bs h = grind (arith, nat_tests)

digits_no_name : (ds bs : List ℕ) (d : ℕ) → AllBelowBase 10 ds → d < 10 → is_name (map (λ d. 48 + d) ds ++ (48 + d) ∷ bs) ≡ false
digits_no_name [] bs d all h = digit_no_name d bs h
digits_no_name (e ∷ ds) bs d all h = digit_no_name e (map (λ d. 48 + d) ds ++ (48 + d) ∷ bs) all.0

text_no_name : (b : Bool) (m : ℕ) → is_name (number_text (number b m)) ≡ false
unfolding number_text decimal digit_bytes
text_no_name false m = digits_no_name (digits_of 10 (m / 10)) [] (m % 10) (all_below_base_digits_of 10 (m / 10) (lit≤ tt)) (omega arith)
text_no_name true m = refl

pub number_no_name : (n : Number) → is_name (number_text n) ≡ false
number_no_name n = text_no_name n.negative n.magnitude
