-- The arithmetic of words that the code of trees goes by.
use Rattle.std.proofs.Common.{◌≡◌, ⊎_elim, ℕ, ◌+◌, ◌-◌, ◌*◌, ◌/◌, ◌%◌, ◌^◌, ◌<◌, ◌≤◌, suc, Bool, true, false, not, cond, eqb, ltb, pos, negsuc, ◌-ℤ◌, refl, sym, ap, ◌∙◌, arith, bit_and, bit_xor}
use Rattle.std.proofs.lemmas.Bool.{cases_lt, cases_eq, eq-eqb, ne_eqb, lt-ltb, le-ltb}
use Rattle.std.proofs.lemmas.Int.{ints}
use Rattle.std.proofs.lemmas.Nat.{and_le_l, and_mask, mod_below}
use Rattle.std.specs.Int.Bits.{xor_add_and}
use Rattle.std.proofs.Math.Nat.{div-le_self}
use Rattle.mv_num.specs.Words.{word_of, add, sub, mul, shl, shr_s, shr_u, lt_u, signed, floor_div, sign_extend, as_word}
use Rattle.mv_num.proofs.Signed.{sub_is, sign_extend_low, sign_extend_high}
use Rattle.mv_isa.specs.Execution.{truth, upper}
use Rattle.mv_select_code.specs.Trees.TreeCode.{upper_bits, lower_bits, minus_one}
use Rattle.mv_num.proofs.Numbers.{word_of_pos, word_small, word_of_negsuc}

-- ---- results are words

pub add_below : (a b : ℕ) → add a b < 2 ^ 32
unfolding add
add_below a b = omega arith

pub sub_below : (a b : ℕ) → sub a b < 2 ^ 32
unfolding sub
sub_below a b = word_small (pos a -ℤ pos b)

pub mul_below : (a b : ℕ) → mul a b < 2 ^ 32
unfolding mul
mul_below a b = mod_below (a * b) (2 ^ 32) (omega arith)

pub and_below : (a b : ℕ) → a < 2 ^ 32 → bit_and a b < 2 ^ 32
and_below a b h = omega (arith, and_le_l a b)

pub shl_below : (a b : ℕ) → shl a b < 2 ^ 32
unfolding shl
shl_below a b = mod_below (a * 2 ^ (b % 32)) (2 ^ 32) (omega arith)

pub shr_s_below : (a b : ℕ) → shr_s a b < 2 ^ 32
unfolding shr_s
shr_s_below a b = word_small (floor_div (signed a) (2 ^ (b % 32)))

pub shr_u_below : (a b : ℕ) → a < 2 ^ 32 → shr_u a b < 2 ^ 32
unfolding shr_u
shr_u_below a b h = omega (arith, div-le_self a (2 ^ (b % 32)))

pub flag_below : (b : Bool) → as_word b < 2 ^ 32
flag_below true = omega arith
flag_below false = omega arith

-- a test as a number, on the machine and in trees
pub truth_is : (b : Bool) → truth b ≡ as_word b
unfolding truth
truth_is b = refl

pub truth_below : (b : Bool) → truth b < 2 ^ 32
unfolding truth
truth_below b = flag_below b

-- ---- small numbers

pub minus_one_is : word_of minus_one ≡ 2 ^ 32 - 1
unfolding word_of
minus_one_is = refl

-- each bit the other way round
pub complement_is : (a : ℕ) → a < 2 ^ 32 → bit_xor a (2 ^ 32 - 1) ≡ sub (2 ^ 32 - 1) a
complement_is a h = omega (arith, xor_add_and a (2 ^ 32 - 1), and_mask a 32, sub_is (2 ^ 32 - 1) a (omega arith) h)

pub add_zero : (n : ℕ) → n < 2 ^ 32 → add 0 n ≡ n
unfolding add
add_zero n h = omega arith

pub zero_add : (n : ℕ) → n < 2 ^ 32 → add n 0 ≡ n
unfolding add
zero_add n h = omega arith

-- a number is added as its word
pub add_word : (a n : ℕ) → add a (word_of (pos n)) ≡ add a n
unfolding add word_of
add_word a n = omega arith

-- ---- the two parts of a number

upper_is : (n : ℕ) → upper (pos (upper_bits n)) ≡ (n + 2048) / 4096 % 1048576 * 4096
unfolding upper upper_bits shl word_of
upper_is n = omega arith

low_word : (n : ℕ) → n % 4096 < 2048 → word_of (lower_bits n) ≡ n % 4096
unfolding lower_bits
low_word n h = rw (lt-ltb (n % 4096) 2048 h) (word_of_pos (n % 4096) (omega arith))

high_word : (n : ℕ) → 2048 ≤ n % 4096 → word_of (lower_bits n) ≡ n % 4096 + (2 ^ 32 - 4096)
unfolding lower_bits
high_word n h = rw (le-ltb (n % 4096) 2048 h) (turned (n % 4096) (omega arith))
  where
    turned : (k : ℕ) → k < 4096 → word_of (pos k -ℤ pos 4096) ≡ k + (2 ^ 32 - 4096)
    turned k lt =
        let e : pos k -ℤ pos 4096 ≡ negsuc (4095 - k) = omega (arith, ints) in
        rw (e, word_of_negsuc (4095 - k) (omega arith)) (omega arith)

-- `lui` and `addi` of the parts of a number give it
pub parts_add : (n : ℕ) → n < 2 ^ 32 → add (upper (pos (upper_bits n))) (word_of (lower_bits n)) ≡ n
unfolding add
parts_add n lt = ⊎_elim low high (cases_lt (n % 4096) 2048)
  where
    low : n % 4096 < 2048 → (upper (pos (upper_bits n)) + word_of (lower_bits n)) % 2 ^ 32 ≡ n
    low h = rw (upper_is n, low_word n h) (omega arith)

    high : 2048 ≤ n % 4096 → (upper (pos (upper_bits n)) + word_of (lower_bits n)) % 2 ^ 32 ≡ n
    high h = rw (upper_is n, high_word n h) (omega arith)

-- where there are no upper bits, `addi` to 0 does
pub lower_add : (n : ℕ) → n < 2 ^ 32 → upper_bits n ≡ 0 → add 0 (word_of (lower_bits n)) ≡ n
unfolding upper shl word_of
lower_add n lt e =
    let zero : upper (pos (upper_bits n)) ≡ 0 = rw e refl in
    ap (λ u. add u (word_of (lower_bits n))) (sym zero) ∙ parts_add n lt

pub upper_below : (n : ℕ) → upper (pos (upper_bits n)) < 2 ^ 32
upper_below n = rw (upper_is n) (omega arith)

-- ---- tests

pub is_zero : (a : ℕ) → truth (lt_u a 1) ≡ as_word (eqb a 0)
unfolding truth lt_u
is_zero a = ap as_word (⊎_elim yes no (cases_eq a 0))
  where
    yes : a ≡ 0 → ltb a 1 ≡ eqb a 0
    yes e = lt-ltb a 1 (omega arith) ∙ sym (eq-eqb a 0 e)

    no : (a ≡ 0 → ⊥) → ltb a 1 ≡ eqb a 0
    no ne = le-ltb a 1 (grind (arith, ne)) ∙ sym (ne_eqb a 0 ne)

pub isnt_zero : (a : ℕ) → truth (lt_u 0 a) ≡ as_word (not (eqb a 0))
unfolding truth lt_u
isnt_zero a = ap as_word (⊎_elim yes no (cases_eq a 0))
  where
    yes : a ≡ 0 → ltb 0 a ≡ not (eqb a 0)
    yes e = le-ltb 0 a (omega arith) ∙ sym (ap not (eq-eqb a 0 e))

    no : (a ≡ 0 → ⊥) → ltb 0 a ≡ not (eqb a 0)
    no ne = lt-ltb 0 a (grind (arith, ne)) ∙ sym (ap not (ne_eqb a 0 ne))

-- the difference is 0 exactly of equal words
pub same_difference : (a b : ℕ) → a < 2 ^ 32 → b < 2 ^ 32 → eqb (sub a b) 0 ≡ eqb a b
same_difference a b p q = ⊎_elim yes no (cases_eq a b)
  where
    yes : a ≡ b → eqb (sub a b) 0 ≡ eqb a b
    yes e = eq-eqb (sub a b) 0 (omega (arith, sub_is a b p q)) ∙ sym (eq-eqb a b e)

    same : (a + (2 ^ 32 - b)) % 2 ^ 32 ≡ 0 → a ≡ b
    same e = omega arith

    no : (a ≡ b → ⊥) → eqb (sub a b) 0 ≡ eqb a b
    no ne = ne_eqb (sub a b) 0 (λ e. ne (same (sym (sub_is a b p q) ∙ e))) ∙ sym (ne_eqb a b ne)

-- ---- conversions, by two shifts

pub bool_is : (a : ℕ) → truth (lt_u 0 a) ≡ cond (eqb a 0) 0 1
bool_is a = isnt_zero a ∙ swapped (eqb a 0)
  where
    swapped : (b : Bool) → as_word (not b) ≡ cond b 0 1
    swapped true = refl
    swapped false = refl

pub byte_is : (a : ℕ) → shr_u (shl a 24) 24 ≡ a % 2 ^ 8
unfolding shr_u shl
byte_is a = omega arith

pub half_is : (a : ℕ) → shr_u (shl a 16) 16 ≡ a % 2 ^ 16
unfolding shr_u shl
half_is a = omega arith

shifted_byte : (a : ℕ) → shl a 24 ≡ a % 2 ^ 8 * 2 ^ 24
unfolding shl
shifted_byte a = omega arith

shifted_half : (a : ℕ) → shl a 16 ≡ a % 2 ^ 16 * 2 ^ 16
unfolding shl
shifted_half a = omega arith

signed_low : (x : ℕ) → x < 2 ^ 31 → signed x ≡ pos x
unfolding signed
signed_low x h = ap (λ b. cond b (pos x) (pos x -ℤ pos (2 ^ 32))) (lt-ltb x (2 ^ 31) h)

signed_high : (x : ℕ) → 2 ^ 31 ≤ x → x < 2 ^ 32 → signed x ≡ negsuc (2 ^ 32 - suc x)
unfolding signed
signed_high x h lt = ap (λ b. cond b (pos x) (pos x -ℤ pos (2 ^ 32))) (le-ltb x (2 ^ 31) h) ∙ turned
  where
    turned : pos x -ℤ pos (2 ^ 32) ≡ negsuc (2 ^ 32 - suc x)
    turned = omega (arith, ints)

-- a shift to the right of a number without a sign, and of one with it
shr_low : (x k : ℕ) → x < 2 ^ 31 → shr_s x k ≡ x / 2 ^ (k % 32) % 2 ^ 32
unfolding shr_s floor_div word_of
shr_low x k h = ap (λ z. word_of (floor_div z (2 ^ (k % 32)))) (signed_low x h)

shr_high : (x k : ℕ) → 2 ^ 31 ≤ x → x < 2 ^ 32 → shr_s x k ≡ word_of (negsuc ((2 ^ 32 - suc x) / 2 ^ (k % 32)))
unfolding shr_s floor_div
shr_high x k h lt = ap (λ z. word_of (floor_div z (2 ^ (k % 32)))) (signed_high x h lt)

pub signed_byte : (a : ℕ) → shr_s (shl a 24) 24 ≡ sign_extend 8 a
signed_byte a = ⊎_elim low high (cases_lt (a % 2 ^ 8) (2 ^ 7))
  where
    low : a % 2 ^ 8 < 2 ^ 7 → shr_s (shl a 24) 24 ≡ sign_extend 8 a
    low h = rw (shifted_byte a, shr_low (a % 2 ^ 8 * 2 ^ 24) 24 (omega arith), sign_extend_low 8 a h) (omega arith)

    high : 2 ^ 7 ≤ a % 2 ^ 8 → shr_s (shl a 24) 24 ≡ sign_extend 8 a
    high h =
        let x = a % 2 ^ 8 * 2 ^ 24 in
        rw (shifted_byte a, shr_high x 24 (omega arith) (omega arith), word_of_negsuc ((2 ^ 32 - suc x) / 2 ^ 24) (omega arith), sign_extend_high 8 a (omega arith) h) (omega arith)

pub signed_half : (a : ℕ) → shr_s (shl a 16) 16 ≡ sign_extend 16 a
signed_half a = ⊎_elim low high (cases_lt (a % 2 ^ 16) (2 ^ 15))
  where
    low : a % 2 ^ 16 < 2 ^ 15 → shr_s (shl a 16) 16 ≡ sign_extend 16 a
    low h = rw (shifted_half a, shr_low (a % 2 ^ 16 * 2 ^ 16) 16 (omega arith), sign_extend_low 16 a h) (omega arith)

    high : 2 ^ 15 ≤ a % 2 ^ 16 → shr_s (shl a 16) 16 ≡ sign_extend 16 a
    high h =
        let x = a % 2 ^ 16 * 2 ^ 16 in
        rw (shifted_half a, shr_high x 16 (omega arith) (omega arith), word_of_negsuc ((2 ^ 32 - suc x) / 2 ^ 16) (omega arith), sign_extend_high 16 a (omega arith) h) (omega arith)
