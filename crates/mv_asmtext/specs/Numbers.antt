-- Numbers: decimal without a leading zero, with a sign where negative, or 0x and one to eight hexadecimal digits.
use Rattle.std.specs.Prelude.{ℕ, ℤ, pos, negsuc, neg_ℤ, Bool, true, false, not, ◌+◌, ◌-◌, ◌*◌, ◌^◌, ◌==◌, ◌&&◌, min, nat_lt, nat_le, List, [], ◌∷◌, length, drop, if◌then◌else◌, Option, Some, None, codes}
use Rattle.std.specs.List.{list_all}
use Rattle.std.specs.Int.{is_in_range}
use Rattle.std.specs.Str.{bytes_eq}
use Rattle.mv_asmtext.specs.declared.number.Number.{Number}

-- the value of a digit; every other byte has 16
abbrev pub digit : ℕ → ℕ
digit b =
    if is_in_range 48 57 b then b - 48
    else (if is_in_range 97 102 b then b - 97 + 10
    else (if is_in_range 65 70 b then b - 65 + 10
    else 16))

-- the number n with these digits behind it; no field holds a number from 2 ^ 32 on, which stands for all these
abbrev pub value_from : ℕ → ℕ → List ℕ → ℕ
value_from base n [] = n
value_from base n (d ∷ ds) = value_from base (min (n * base + digit d) (2 ^ 32)) ds

abbrev pub are_digits : ℕ → List ℕ → Bool
are_digits base ds = list_all (λ d. nat_lt (digit d) base) ds

abbrev pub is_decimal : List ℕ → Bool
is_decimal [] = false
is_decimal (d ∷ ds) = if d == 48 then length ds == 0 else are_digits 10 (d ∷ ds)

abbrev pub number : Bool → ℕ → Number
number negative magnitude = record { negative = negative; magnitude = magnitude }

-- the digits behind 0x
abbrev pub hexadecimal : List ℕ → Option Number
hexadecimal ds =
    if (not (length ds == 0) && nat_le (length ds) 8) && are_digits 16 ds then Some (number false (value_from 16 0 ds)) else None

-- the digits behind a sign
abbrev pub negative : List ℕ → Option Number
negative ds = if is_decimal ds && not (bytes_eq ds (codes "0")) then Some (number true (value_from 10 0 ds)) else None

abbrev pub decimal : List ℕ → Option Number
decimal ds = if is_decimal ds then Some (number false (value_from 10 0 ds)) else None

abbrev pub begins_hexadecimal : List ℕ → Bool
begins_hexadecimal (a ∷ b ∷ ds) = (a == 48) && (b == 120)
begins_hexadecimal ds = false

abbrev pub begins_negative : List ℕ → Bool
begins_negative (a ∷ ds) = a == 45
begins_negative [] = false

-- the number that a word spells
unfoldable pub number_of : List ℕ → Option Number
number_of word =
    if begins_hexadecimal word then hexadecimal (drop 2 word)
    else (if begins_negative word then negative (drop 1 word)
    else decimal word)

-- ---- numbers and immediates

unfoldable pub signed : Number → ℤ
signed n = if n.negative then neg_ℤ (pos n.magnitude) else pos n.magnitude

unfoldable pub number_from : ℤ → Number
number_from (pos n) = number false n
number_from (negsuc n) = number true (n + 1)

-- how far one address is above another
abbrev pub distance : (at to : ℕ) → Number
distance at to = if nat_lt to at then number true (at - to) else number false (to - at)
