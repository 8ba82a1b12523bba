-- The operators of words on numbers that keep their order.
use Rattle.std.proofs.Common.{◌≡◌, ℕ, zero, suc, ◌-◌, ◌*◌, ◌/◌, ◌%◌, ◌^◌, ◌<◌, ◌≤◌, arith}
use Rattle.std.proofs.lemmas.Nat.{le-div, mul-le, shr_le}
use Rattle.std.proofs.Math.Nat.{div-mul-le_self, div-le_self, mod-le, div-zero}
use Rattle.mv_num.specs.Words.{floor_div, sub, div_s, div_u, rem_s, rem_u, shr_s, shr_u}
use Rattle.mv_num.proofs.Numbers.{word_of_pos}
use Rattle.mv_num.proofs.Signed.{sub_is}
use Rattle.mv_ir.proofs.Common.{signed_low}

-- ---- quotients keep the order

pub div_le : (a b n : ℕ) → a ≤ b → a / n ≤ b / n
div_le a b zero h = omega (arith, div-zero a, div-zero b)
div_le a b (suc n) h = le-div (a / suc n) b (suc n) (omega arith) (omega (arith, div-mul-le_self a (suc n)))

-- as code shifts, on the left, and as a word is shifted, on the right
pub shr_kept : (a b k : ℕ) → a ≤ b → k < 32 → a / 2 ^ k ≤ b / 2 ^ (k % 32)
shr_kept a b k h p =
    let e : k % 32 ≡ k = omega arith in
    rw e (div_le a b (2 ^ k) h)

-- ---- products

-- the library's `mul-le`, by a name that an attribute can cite
pub mul_kept : (a b m n : ℕ) → a ≤ m → b ≤ n → a * b ≤ m * n
mul_kept = mul-le

-- ---- differences that don't wrap

pub sub_plain : (x y : ℕ) → y ≤ x → x < 2 ^ 32 → sub x y ≡ x - y
sub_plain x y h p = omega (arith, sub_is x y p (omega arith))

-- ---- signed operators on numbers below 2 ^ 31, which are themselves as signed ones

pub shr_s_plain : (x k : ℕ) → x < 2 ^ 31 → shr_s x k ≡ shr_u x k
unfolding shr_s shr_u floor_div
shr_s_plain x k h = rw (signed_low x h) (word_of_pos (x / 2 ^ (k % 32)) (omega (arith, shr_le x (k % 32))))

pub div_s_plain : (x n : ℕ) → x < 2 ^ 31 → n < 2 ^ 31 → div_s x n ≡ div_u x n
unfolding div_s div_u
div_s_plain x n h p = rw (signed_low x h, signed_low n p) (word_of_pos (x / n) (omega (arith, div-le_self x n)))

pub rem_s_plain : (x n : ℕ) → x < 2 ^ 31 → n < 2 ^ 31 → rem_s x n ≡ rem_u x n
unfolding rem_s rem_u
rem_s_plain x n h p = rw (signed_low x h, signed_low n p) (word_of_pos (x % n) (omega (arith, mod-le x n)))
