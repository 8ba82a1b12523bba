-- The arithmetic of words of 32 bits: that of C11 6.5 on `int` and `unsigned int` where signed overflow wraps, and that of RV32IM. A
-- word is a number below 2 ^ 32, and each operator is a formula over whole numbers.
use Rattle.std.specs.Prelude.{ℕ, ◌+◌, ◌-◌, ◌*◌, ◌/◌, ◌%◌, ◌^◌, Bool, ltb, cond, eqb, ℤ, pos, negsuc, ◌-ℤ◌, ◌*ℤ◌, unsigned_abs, int_lt, int_div, int_rem, if◌then◌else◌}
use Rattle.std.specs.Int.{int_rem_euclid}
use Rattle.mv_num.specs.declared.kind.Kind.{Kind}
use Rattle.mv_num.specs.declared.kind.Kind.TheVariants as kind

-- ---- the two views of a word

-- a word as a signed number: itself below 2 ^ 31, else less 2 ^ 32
unfoldable pub signed : ℕ → ℤ
signed a = cond (ltb a (2 ^ 31)) (pos a) (pos a -ℤ pos (2 ^ 32))

-- the word that a whole number leaves modulo 2 ^ 32
unfoldable pub word_of : ℤ → ℕ
word_of z = unsigned_abs (int_rem_euclid z (pos (2 ^ 32)))

-- the quotient rounded down, of a divisor above 0
unfoldable pub floor_div : ℤ → ℕ → ℤ
floor_div (pos n) d = pos (n / d)
floor_div (negsuc n) d = negsuc (n / d)

-- ---- sums and products, modulo 2 ^ 32 (C11 6.5.5, 6.5.6; RISC-V 2.4, 7.1)

unfoldable pub add : ℕ → ℕ → ℕ
add a b = (a + b) % 2 ^ 32

unfoldable pub sub : ℕ → ℕ → ℕ
sub a b = word_of (pos a -ℤ pos b)

unfoldable pub mul : ℕ → ℕ → ℕ
mul a b = (a * b) % 2 ^ 32

-- the upper words of the products of two signed numbers, of a signed and an unsigned one, and of two unsigned ones (MULH, MULHSU and
-- MULHU of RISC-V 7.1)
unfoldable pub mul_high_ss : ℕ → ℕ → ℕ
mul_high_ss a b = word_of (floor_div (signed a *ℤ signed b) (2 ^ 32))

unfoldable pub mul_high_su : ℕ → ℕ → ℕ
mul_high_su a b = word_of (floor_div (signed a *ℤ pos b) (2 ^ 32))

unfoldable pub mul_high_uu : ℕ → ℕ → ℕ
mul_high_uu a b = a * b / 2 ^ 32

-- ---- division, of a divisor that is not 0; a signed quotient is rounded toward 0, and -2 ^ 31 by -1 wraps (C11 6.5.5; RISC-V 7.2)

unfoldable pub div_s : ℕ → ℕ → ℕ
div_s a b = word_of (int_div (signed a) (signed b))

unfoldable pub div_u : ℕ → ℕ → ℕ
div_u a b = a / b

unfoldable pub rem_s : ℕ → ℕ → ℕ
rem_s a b = word_of (int_rem (signed a) (signed b))

unfoldable pub rem_u : ℕ → ℕ → ℕ
rem_u a b = a % b

-- ---- shifts, by a count modulo 32; a signed shift to the right rounds down (C11 6.5.7; RISC-V 2.4)

unfoldable pub shl : ℕ → ℕ → ℕ
shl a b = (a * 2 ^ (b % 32)) % 2 ^ 32

unfoldable pub shr_s : ℕ → ℕ → ℕ
shr_s a b = word_of (floor_div (signed a) (2 ^ (b % 32)))

unfoldable pub shr_u : ℕ → ℕ → ℕ
shr_u a b = a / 2 ^ (b % 32)

-- ---- order (C11 6.5.8; RISC-V 2.4)

unfoldable pub lt_s : ℕ → ℕ → Bool
lt_s a b = int_lt (signed a) (signed b)

unfoldable pub lt_u : ℕ → ℕ → Bool
lt_u a b = ltb a b

-- ---- conversion (C11 6.3.1.2 to `_Bool`, 6.3.1.3 to the other types, modulo 2 ^ n into the range of a signed one)

-- the low n bits of a word, as a number whose sign is their highest bit
unfoldable pub sign_extend : ℕ → ℕ → ℕ
sign_extend n a = let low = a % 2 ^ n in cond (ltb low (2 ^ (n - 1))) low (word_of (pos low -ℤ pos (2 ^ n)))

-- the word to which a word is converted: the value of a signed type stands as its word of 32 bits
unfoldable pub narrow : Kind → ℕ → ℕ
narrow kind.Bool a = cond (eqb a 0) 0 1
narrow kind.SChar a = sign_extend 8 a
narrow kind.UChar a = a % 2 ^ 8
narrow kind.Short a = sign_extend 16 a
narrow kind.UShort a = a % 2 ^ 16
narrow kind.Int a = a
narrow kind.UInt a = a

-- 1 for true and 0 for false
abbrev pub as_word : Bool → ℕ
as_word b = if b then 1 else 0
