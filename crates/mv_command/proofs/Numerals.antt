-- What is not a decimal numeral of a number up to a bound, and what is.
use Rattle.std.proofs.Common.{ℕ, zero, suc, ◌≡◌, ◌<◌, ◌≤◌, ◌+◌, ◌-◌, ◌*◌, ◌^◌, List, length, take, get_or, sym, ap, ◌∙◌, subst, arith, lit<, lit≤, ◌⊎◌, inl, inr}
use Rattle.std.specs.Fmt.{decimal}
use Rattle.std.specs.Int.{IsInRange}
use Rattle.std.specs.Str.Parse.{AllDigits, digits_value}
use Rattle.std.proofs.lemmas.Fmt.{decimal_is_IsNumeral, decimal_nonempty, decimal_digit, first_decimal, decimal-digits_value}
use Rattle.std.proofs.lemmas.Str.{digit_value_digit}
use Rattle.std.proofs.lemmas.Str.Parse.{digit_at, tells_digits, numerals_by_value, digits_value-take-le}
use Rattle.std.proofs.lemmas.Int.Digits.{digits_value_more, digits_more}

pub not_empty : (n : ℕ) (text : List ℕ) → n < 2 ^ 59 → text ≡ decimal n → length text ≡ 0 → ⊥
not_empty n text h e z = omega (arith, decimal_nonempty n (omega arith), ap length e)

pub no_leading_zero : (n : ℕ) (text : List ℕ) → n < 2 ^ 59 → text ≡ decimal n → get_or text 0 0 ≡ 48 → 1 < length text → ⊥
no_leading_zero zero text h e lead long = omega (arith, ap length (e ∙ decimal_digit 0 (lit< tt)))
no_leading_zero (suc n) text h e lead long = omega (arith, first_decimal (suc n) (omega arith) (omega arith), ap (λ t. get_or t 0 0) e)

pub digits_alone : (n k : ℕ) (text : List ℕ) → n < 2 ^ 59 → text ≡ decimal n → k < length text → IsInRange 48 57 (get_or text k 0)
digits_alone n k text h e l = subst (λ t. k < length t → IsInRange 48 57 (get_or t k 0)) (sym e) (digit_at (decimal n) k (decimal_is_IsNumeral n (omega arith)).0.1) l

pub not_above : (n i most : ℕ) (text : List ℕ) → n ≤ most → most < 2 ^ 59 → text ≡ decimal n → most < digits_value 10 (take i text) → ⊥
not_above n i most text h b e above =
    omega (arith, digits_value-take-le 10 text i (lit≤ tt), ap (digits_value 10) e, (decimal_is_IsNumeral n (omega arith)).1)

-- one digit more
pub value_more : (i value : ℕ) (text : List ℕ) → i < length text → IsInRange 48 57 (get_or text i 0) → value ≡ digits_value 10 (take i text) → 10 * value + (get_or text i 0 - 48) ≡ digits_value 10 (take (i + 1) text)
value_more i value text l d e = omega (arith, digits_value_more 10 text i l, digit_value_digit (get_or text i 0) d, e)

pub all_digits_more : (i : ℕ) (text : List ℕ) → i < length text → IsInRange 48 57 (get_or text i 0) → AllDigits 10 (take i text) → AllDigits 10 (take (i + 1) text)
all_digits_more i text l d a = digits_more 10 text i l a (omega (arith, digit_value_digit (get_or text i 0) d, d))

pub is_numeral : (text : List ℕ) → AllDigits 10 text → 0 < length text → (get_or text 0 0 ≡ 48 → length text ≡ 1) → digits_value 10 text < 2 ^ 59 → text ≡ decimal (digits_value 10 text)
is_numeral text a some lead small = sym (decimal-digits_value (numerals_by_value _ tells_digits) text a some lead (omega arith))

pub single_zero : {A : Type 0} (count : ℕ) → (A × (count ≤ 1)) ⊎ (A → ⊥) → A → 0 < count → count ≡ 1
single_zero count (inl p) a some = omega (arith, p.1)
single_zero count (inr never) a some = absurd (never a)
