-- The views of a word that the definitions take are those of the language's casts.
use Rattle.std.proofs.Common.{◌≡◌, ℕ, ◌+◌, ◌-◌, ◌/◌, ◌%◌, ◌^◌, ◌<◌, ◌≤◌, ℤ, pos, negsuc, ◌-ℤ◌, ◌+ℤ◌, ◌*ℤ◌, unsigned_abs, refl, sym, ap, ◌∙◌, arith, suc, zero, FitsSigned, neg_ℤ, lit<}
use Rattle.std.proofs.lemmas.Int.{ints, to_z-of_z, of_z-to_z, int_rem_euclid_is, fits_signed_mul}
use Rattle.std.proofs.lemmas.Bool.Decides.{nat_tests}
use Rattle.std.proofs.lemmas.Nat.{mod_below, pow_pos}
use Rattle.std.proofs.Math.Nat.{div-le_self}
use Rattle.std.specs.Int.{w32, w64, cast_signed, cast_unsigned}
use lib.Signed.{mag, shr_z, quot_z, rem_z, mag_rem, mag_shr, lt_z}
use Rattle.mv_num.specs.Words.{signed, word_of, floor_div, sub, sign_extend, div_s, rem_s, shr_s, lt_s, mul_high_ss, mul_high_su}

-- ---- the views

pub signed_is : (a : ℕ) → a < 2 ^ 32 → signed a ≡ cast_signed w32 a
unfolding signed
signed_is a h = grind (arith, ints, nat_tests)

pub word_of_is : (z : ℤ) → mag z < 2 ^ 32 → word_of z ≡ cast_unsigned w32 z
unfolding word_of
word_of_is (pos n) h = omega arith
word_of_is (negsuc n) h = omega arith

pub floor_div_is : (z : ℤ) (d : ℕ) → floor_div z d ≡ shr_z z d
unfolding floor_div
floor_div_is (pos n) d = refl
floor_div_is (negsuc n) d = refl

-- what a number that needs one turn of the words leaves
word_of_turned : (z : ℤ) (m : ℕ) → z +ℤ pos (2 ^ 32) ≡ pos m → word_of z ≡ m % 2 ^ 32
unfolding word_of
word_of_turned z m e = ap unsigned_abs (int_rem_euclid_is z (pos (2 ^ 32)) (2 ^ 32) 1 m (omega arith) refl e)

pub sub_is : (a b : ℕ) → a < 2 ^ 32 → b < 2 ^ 32 → sub a b ≡ (a + (2 ^ 32 - b)) % 2 ^ 32
unfolding sub
sub_is a b p q = word_of_turned _ (a + (2 ^ 32 - b)) (omega (arith, ints))

-- ---- signs of short numbers

pub sign_extend_low : (n a : ℕ) → a % 2 ^ n < 2 ^ (n - 1) → sign_extend n a ≡ a % 2 ^ n
unfolding sign_extend
sign_extend_low n a h = grind (arith, nat_tests)

pub sign_extend_high : (n a : ℕ) → 2 ^ n ≤ 2 ^ 32 → 2 ^ (n - 1) ≤ a % 2 ^ n → sign_extend n a ≡ a % 2 ^ n + (2 ^ 32 - 2 ^ n)
unfolding sign_extend
sign_extend_high n a k h =
    let low = a % 2 ^ n in
    let e : word_of (pos low -ℤ pos (2 ^ n)) ≡ (low + (2 ^ 32 - 2 ^ n)) % 2 ^ 32 = word_of_turned (pos low -ℤ pos (2 ^ n)) (low + (2 ^ 32 - 2 ^ n)) (omega (arith, ints)) in
    let b : low < 2 ^ n = mod_below a (2 ^ n) (pow_pos n) in
    let m : (low + (2 ^ 32 - 2 ^ n)) % 2 ^ 32 ≡ low + (2 ^ 32 - 2 ^ n) = omega arith in
    grind (arith, nat_tests, e, m)

pub ruleset sign_extend_ways = (sign_extend_low, sign_extend_high)

-- ---- quotients

mag_neg : (n m : ℕ) → n ≤ m → mag (neg_ℤ (pos n)) ≤ m
mag_neg zero m h = omega arith
mag_neg (suc n) m h = omega arith

mag_quot : (x y : ℤ) → mag (quot_z x y) ≤ mag x + 1
mag_quot (pos a) (pos b) = omega (arith, div-le_self a b)
mag_quot (pos a) (negsuc b) = mag_neg (a / suc b) (a + 1) (omega (arith, div-le_self a (suc b)))
mag_quot (negsuc a) (pos b) = mag_neg (suc a / b) (a + 1) (omega (arith, div-le_self (suc a) b))
mag_quot (negsuc a) (negsuc b) = omega (arith, div-le_self (suc a) (suc b))

-- a signed view is of a number below 2 ^ 31, or not below -2 ^ 31
mag_view : (a : ℕ) → a < 2 ^ 32 → mag (cast_signed w32 a) < 2 ^ 31
mag_view a h = grind (arith, ints, nat_tests)

pub div_s_is : (a b : ℕ) → a < 2 ^ 32 → b < 2 ^ 32 → div_s a b ≡ cast_unsigned w32 (quot_z (cast_signed w32 a) (cast_signed w32 b))
unfolding div_s
div_s_is a b p q =
    let m = mag_quot (cast_signed w32 a) (cast_signed w32 b) in
    let v = mag_view a p in
    rw (signed_is a p, signed_is b q) (word_of_is _ (omega arith))

cast_below : (z : ℤ) → mag z < 2 ^ 32 → cast_unsigned w32 z < 2 ^ 32
cast_below (pos n) h = h
cast_below (negsuc n) h = omega arith

-- the same, cast to a signed number and back
pub div_s_cast : (a b : ℕ) → a < 2 ^ 32 → b < 2 ^ 32 → div_s a b ≡ cast_unsigned w32 (cast_signed w32 (cast_unsigned w32 (quot_z (cast_signed w32 a) (cast_signed w32 b))))
div_s_cast a b p q =
    let z = quot_z (cast_signed w32 a) (cast_signed w32 b) in
    let m = mag_quot (cast_signed w32 a) (cast_signed w32 b) in
    let v = mag_view a p in
    div_s_is a b p q ∙ sym (of_z-to_z w32 (cast_unsigned w32 z) (cast_below z (omega arith)))

pub rem_s_is : (a b : ℕ) → a < 2 ^ 32 → b < 2 ^ 32 → rem_s a b ≡ cast_unsigned w32 (rem_z (cast_signed w32 a) (cast_signed w32 b))
unfolding rem_s
rem_s_is a b p q =
    let m = mag_rem (cast_signed w32 a) (cast_signed w32 b) in
    let v = mag_view a p in
    rw (signed_is a p, signed_is b q) (word_of_is _ (omega arith))

pub shr_s_is : (a b : ℕ) → a < 2 ^ 32 → shr_s a b ≡ cast_unsigned w32 (shr_z (cast_signed w32 a) (2 ^ (b % 32)))
unfolding shr_s
shr_s_is a b p =
    let m = mag_shr (cast_signed w32 a) (2 ^ (b % 32)) in
    let v = mag_view a p in
    rw (signed_is a p, floor_div_is) (word_of_is _ (omega arith))

pub lt_s_is : (a b : ℕ) → a < 2 ^ 32 → b < 2 ^ 32 → lt_s a b ≡ lt_z (cast_signed w32 a) (cast_signed w32 b)
unfolding lt_s
lt_s_is a b p q = rw (signed_is a p, signed_is b q) refl

-- ---- upper words

abs_view : (a : ℕ) → a < 2 ^ 32 → unsigned_abs (cast_signed w32 a) ≤ 2 ^ 31
abs_view a h = grind (arith, ints, nat_tests)

mag_shr_is : (z : ℤ) (m : ℕ) → mag (shr_z z m) ≡ mag z / m
mag_shr_is (pos n) m = refl
mag_shr_is (negsuc n) m = refl

mag_high : (z : ℤ) → FitsSigned w64 z → mag (shr_z z (2 ^ 32)) < 2 ^ 31
mag_high z f = let h : mag z < 2 ^ 63 = f.sfits in omega (arith, mag_shr_is z (2 ^ 32))

-- what the casts of the code make of the upper word of a product
cast_high : (x y : ℤ) → FitsSigned w64 x → FitsSigned w64 y → FitsSigned w64 (x *ℤ y) → cast_unsigned w32 (cast_signed w32 (cast_unsigned w32 (cast_signed w64 (cast_unsigned w64 (shr_z (cast_signed w64 (cast_unsigned w64 (cast_signed w64 (cast_unsigned w64 x) *ℤ cast_signed w64 (cast_unsigned w64 y)))) (2 ^ 32)))))) ≡ word_of (floor_div (x *ℤ y) (2 ^ 32))
cast_high x y f g h =
    let z = shr_z (x *ℤ y) (2 ^ 32) in
    let m : mag z < 2 ^ 31 = mag_high (x *ℤ y) h in
    let k : FitsSigned w64 z = record { sfits = omega arith } in
    let l : FitsSigned w32 z = record { sfits = m } in
    rw (to_z-of_z w64 x f, to_z-of_z w64 y g, to_z-of_z w64 (x *ℤ y) h, to_z-of_z w64 z k, to_z-of_z w32 z l, floor_div_is (x *ℤ y) (2 ^ 32)) (sym (word_of_is z (omega arith)))

pub mul_high_ss_is : (a b : ℕ) (x y : ℤ) → a < 2 ^ 32 → b < 2 ^ 32 → x ≡ cast_signed w32 a → y ≡ cast_signed w32 b → FitsSigned w64 x → FitsSigned w64 y → cast_unsigned w32 (cast_signed w32 (cast_unsigned w32 (cast_signed w64 (cast_unsigned w64 (shr_z (cast_signed w64 (cast_unsigned w64 (cast_signed w64 (cast_unsigned w64 x) *ℤ cast_signed w64 (cast_unsigned w64 y)))) (2 ^ 32)))))) ≡ mul_high_ss a b
unfolding mul_high_ss
mul_high_ss_is a b x y p q e d f g =
    let u : unsigned_abs x ≤ 2 ^ 31 = rw e (abs_view a p) in
    let v : unsigned_abs y ≤ 2 ^ 31 = rw d (abs_view b q) in
    let h = fits_signed_mul w64 x y (2 ^ 31) (2 ^ 31) u v (lit< tt) in
    cast_high x y f g h ∙ rw (signed_is a p, signed_is b q, e, d) refl

pub mul_high_su_is : (a b : ℕ) (x y : ℤ) → a < 2 ^ 32 → b < 2 ^ 32 → x ≡ cast_signed w32 a → y ≡ pos b → FitsSigned w64 x → FitsSigned w64 y → cast_unsigned w32 (cast_signed w32 (cast_unsigned w32 (cast_signed w64 (cast_unsigned w64 (shr_z (cast_signed w64 (cast_unsigned w64 (cast_signed w64 (cast_unsigned w64 x) *ℤ cast_signed w64 (cast_unsigned w64 y)))) (2 ^ 32)))))) ≡ mul_high_su a b
unfolding mul_high_su
mul_high_su_is a b x y p q e d f g =
    let u : unsigned_abs x ≤ 2 ^ 31 = rw e (abs_view a p) in
    let v : unsigned_abs y ≤ 2 ^ 32 - 1 = rw d (omega arith) in
    let h = fits_signed_mul w64 x y (2 ^ 31) (2 ^ 32 - 1) u v (lit< tt) in
    cast_high x y f g h ∙ rw (signed_is a p, e, d) refl
