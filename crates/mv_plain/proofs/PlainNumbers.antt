-- What plainer trees rest on, of numbers: which operators give words and truths, and which change nothing.
use Rattle.std.proofs.Common.{arith, ◌≡◌, ℕ, zero, suc, ◌+◌, ◌*◌, ◌%◌, ◌^◌, ◌<◌, ◌≤◌, Bool, true, false, cond, eqb, ltb, not, ◌&&◌, bit_and, bit_xor, refl, sym, ◌∙◌, ap, subst, ◌⊎◌, inl, inr, pos, ◌-ℤ◌}
use Rattle.std.specs.Prelude.{◌||◌}
use Rattle.std.specs.Int.{bit_at}
use Rattle.std.proofs.lemmas.Bool.{eqb-true, eq-eqb}
use Rattle.std.proofs.lemmas.Nat.{and_le_l, and_le_r, and_comm, or_comm, xor_comm, or_of_32, xor_of_32, or_disjoint, shr_le}
use Rattle.std.proofs.lemmas.Nat.Bits.{same_from_bits, bit_at_xor, bit_at-zero, bit_at-lt}
use Rattle.mv_num.specs.declared.kind.Kind.{Kind}
use Rattle.mv_num.specs.declared.kind.Kind.TheVariants as kind
use Rattle.mv_num.specs.Words.{as_word, word_of, add, sub, mul, shl, shr_u, lt_s, lt_u, sign_extend, narrow}
use Rattle.mv_num.proofs.Numbers.{word_small}
use Rattle.mv_num.proofs.Signed.{sub_is}
use Rattle.mv_num.proofs.Booleans.{same_bools, or_cases, and_cases, from_falsity}
use Rattle.mv_ir.specs.Operators as operator
use Rattle.mv_ir.specs.Operators.{is_comparison}
use Rattle.mv_ir.specs.Trees.{unary, binary, keeps_words}
use Rattle.mv_ir.proofs.Common.{one_at_most, truth_small, truth_word}
use Rattle.mv_plain.specs.Plain.{gives_word, is_bool, commutes, is_neutral}

-- ---- words

pub unary_word : (o x : ℕ) → unary o x < 2 ^ 32
unfolding unary sub
unary_word zero x = word_small _
unary_word (suc zero) x = word_small _
unary_word (suc (suc zero)) x = truth_word (eqb x 0)
unary_word (suc (suc (suc o))) x = omega arith

and_word : (x y : ℕ) → (x < 2 ^ 32) ⊎ (y < 2 ^ 32) → bit_and x y < 2 ^ 32
and_word x y (inl h) = omega (arith, h, and_le_l x y)
and_word x y (inr h) = omega (arith, h, and_le_r x y)

either : (a b : Bool) (x y : ℕ) → (a || b) ≡ true → (a ≡ true → x < 2 ^ 32) → (b ≡ true → y < 2 ^ 32) → (x < 2 ^ 32) ⊎ (y < 2 ^ 32)
either a b x y e h k = by (or_cases a b e)
  where
    by : (a ≡ true) ⊎ (b ≡ true) → (x < 2 ^ 32) ⊎ (y < 2 ^ 32)
    by (inl p) = inl (h p)
    by (inr p) = inr (k p)

pub binary_word : (o x y : ℕ) (a b : Bool) → gives_word o a b ≡ true → (a ≡ true → x < 2 ^ 32) → (b ≡ true → y < 2 ^ 32) → binary o x y < 2 ^ 32
unfolding binary add sub mul shl shr_u
binary_word zero x y a b e h k = omega arith
binary_word (suc zero) x y a b e h k = word_small _
binary_word (suc (suc zero)) x y a b e h k = omega arith
binary_word (suc (suc (suc zero))) x y a b e h k = and_word x y (either a b x y e h k)
binary_word (suc (suc (suc (suc zero)))) x y a b e h k = let p = and_cases a b e in or_of_32 x y (h p.0) (k p.1)
binary_word (suc (suc (suc (suc (suc zero))))) x y a b e h k = let p = and_cases a b e in xor_of_32 x y (h p.0) (k p.1)
binary_word (suc (suc (suc (suc (suc (suc zero)))))) x y a b e h k = omega arith
binary_word (suc (suc (suc (suc (suc (suc (suc zero))))))) x y a b e h k = from_falsity e
binary_word (suc (suc (suc (suc (suc (suc (suc (suc zero)))))))) x y a b e h k = omega (arith, h e, shr_le x (y % 32))
binary_word (suc (suc (suc (suc (suc (suc (suc (suc (suc zero))))))))) x y a b e h k = truth_word (lt_s x y)
binary_word (suc (suc (suc (suc (suc (suc (suc (suc (suc (suc zero)))))))))) x y a b e h k = truth_word (lt_u x y)
binary_word (suc (suc (suc (suc (suc (suc (suc (suc (suc (suc (suc zero))))))))))) x y a b e h k = truth_word (eqb x y)
binary_word (suc (suc (suc (suc (suc (suc (suc (suc (suc (suc (suc (suc zero)))))))))))) x y a b e h k = truth_word (not (eqb x y))
binary_word (suc (suc (suc (suc (suc (suc (suc (suc (suc (suc (suc (suc (suc o))))))))))))) x y a b e h k = omega arith

-- a comparison gives a truth
pub comparison_truth : (o x y : ℕ) → is_comparison o ≡ true → binary o x y ≤ 1
unfolding binary
comparison_truth zero x y e = from_falsity e
comparison_truth (suc zero) x y e = from_falsity e
comparison_truth (suc (suc zero)) x y e = from_falsity e
comparison_truth (suc (suc (suc zero))) x y e = from_falsity e
comparison_truth (suc (suc (suc (suc zero)))) x y e = from_falsity e
comparison_truth (suc (suc (suc (suc (suc zero))))) x y e = from_falsity e
comparison_truth (suc (suc (suc (suc (suc (suc zero)))))) x y e = from_falsity e
comparison_truth (suc (suc (suc (suc (suc (suc (suc zero))))))) x y e = from_falsity e
comparison_truth (suc (suc (suc (suc (suc (suc (suc (suc zero)))))))) x y e = from_falsity e
comparison_truth (suc (suc (suc (suc (suc (suc (suc (suc (suc zero))))))))) x y e = truth_small (lt_s x y)
comparison_truth (suc (suc (suc (suc (suc (suc (suc (suc (suc (suc zero)))))))))) x y e = truth_small (lt_u x y)
comparison_truth (suc (suc (suc (suc (suc (suc (suc (suc (suc (suc (suc zero))))))))))) x y e = truth_small (eqb x y)
comparison_truth (suc (suc (suc (suc (suc (suc (suc (suc (suc (suc (suc (suc zero)))))))))))) x y e = truth_small (not (eqb x y))
comparison_truth (suc (suc (suc (suc (suc (suc (suc (suc (suc (suc (suc (suc (suc o))))))))))))) x y e = omega arith

-- ---- conversions

signed_word : (low n : ℕ) (b : Bool) → low < 2 ^ 32 → cond b low (word_of (pos low -ℤ pos n)) < 2 ^ 32
signed_word low n true h = h
signed_word low n false h = word_small _

pub byte_word : (x : ℕ) → sign_extend 8 x < 2 ^ 32
unfolding sign_extend
byte_word x = signed_word (x % 2 ^ 8) (2 ^ 8) (ltb (x % 2 ^ 8) (2 ^ 7)) (omega arith)

pub half_word : (x : ℕ) → sign_extend 16 x < 2 ^ 32
unfolding sign_extend
half_word x = signed_word (x % 2 ^ 16) (2 ^ 16) (ltb (x % 2 ^ 16) (2 ^ 15)) (omega arith)

pub narrow_truth : (k : Kind) (x : ℕ) → is_bool k ≡ true → narrow k x ≤ 1
unfolding narrow
narrow_truth kind.Bool x e = one_at_most (eqb x 0)
narrow_truth kind.SChar x e = from_falsity e
narrow_truth kind.UChar x e = from_falsity e
narrow_truth kind.Short x e = from_falsity e
narrow_truth kind.UShort x e = from_falsity e
narrow_truth kind.Int x e = from_falsity e
narrow_truth kind.UInt x e = from_falsity e

pub narrow_word : (k : Kind) (x : ℕ) (b : Bool) → cond (keeps_words k) b true ≡ true → (b ≡ true → x < 2 ^ 32) → narrow k x < 2 ^ 32
unfolding narrow
narrow_word kind.Bool x b e h = omega (arith, one_at_most (eqb x 0))
narrow_word kind.SChar x b e h = byte_word x
narrow_word kind.UChar x b e h = omega arith
narrow_word kind.Short x b e h = half_word x
narrow_word kind.UShort x b e h = omega arith
narrow_word kind.Int x b e h = h e
narrow_word kind.UInt x b e h = h e

-- which leave what they are of
pub whole_stays : (k : Kind) (x : ℕ) → keeps_words k ≡ true → narrow k x ≡ x
unfolding narrow
whole_stays kind.Bool x e = from_falsity e
whole_stays kind.SChar x e = from_falsity e
whole_stays kind.UChar x e = from_falsity e
whole_stays kind.Short x e = from_falsity e
whole_stays kind.UShort x e = from_falsity e
whole_stays kind.Int x e = refl
whole_stays kind.UInt x e = refl

pub small_stays : (k : Kind) (x : ℕ) → x ≤ 1 → narrow k x ≡ x
unfolding narrow sign_extend
small_stays kind.Bool zero h = refl
small_stays kind.SChar zero h = refl
small_stays kind.UChar zero h = refl
small_stays kind.Short zero h = refl
small_stays kind.UShort zero h = refl
small_stays kind.Int zero h = refl
small_stays kind.UInt zero h = refl
small_stays kind.Bool (suc zero) h = refl
small_stays kind.SChar (suc zero) h = refl
small_stays kind.UChar (suc zero) h = refl
small_stays kind.Short (suc zero) h = refl
small_stays kind.UShort (suc zero) h = refl
small_stays kind.Int (suc zero) h = refl
small_stays kind.UInt (suc zero) h = refl
small_stays k (suc (suc x)) h = absurd (omega (arith, h))

-- ---- operators that may be taken in another way

module _ (n x : ℕ) where
  abbrev Turns : ℕ → Type 0
  Turns o = binary o n x ≡ binary o x n

  turns_or : (o p : ℕ) (rest : Bool) → Turns p → (rest ≡ true → Turns o) → (eqb o p || rest) ≡ true → Turns o
  turns_or o p rest h k e = by (or_cases (eqb o p) rest e)
    where
      by : (eqb o p ≡ true) ⊎ (rest ≡ true) → Turns o
      by (inl same) = subst Turns (sym (eqb-true o p same)) h
      by (inr more) = k more

  same_test : eqb n x ≡ eqb x n
  same_test = same_bools _ _ (λ e. eq-eqb x n (sym (eqb-true n x e))) (λ e. eq-eqb n x (sym (eqb-true x n e)))

  add_turns : Turns operator.add
  unfolding binary add
  add_turns = let e : n + x ≡ x + n = omega arith in ap (λ k. k % 2 ^ 32) e

  mul_turns : Turns operator.mul
  unfolding binary mul
  mul_turns = let e : n * x ≡ x * n = omega arith in ap (λ k. k % 2 ^ 32) e

  and_turns : Turns operator.bit_and
  unfolding binary
  and_turns = and_comm n x

  or_turns : Turns operator.bit_or
  unfolding binary
  or_turns = or_comm n x

  xor_turns : Turns operator.bit_xor
  unfolding binary
  xor_turns = xor_comm n x

  equal_turns : Turns operator.equal
  unfolding binary
  equal_turns = ap as_word same_test

  not_equal_turns : Turns operator.not_equal
  unfolding binary
  not_equal_turns = ap (λ b. as_word (not b)) same_test

  pub turned_same : (o : ℕ) → commutes o ≡ true → binary o n x ≡ binary o x n
  turned_same o e =
      let last = λ (h : eqb o operator.not_equal ≡ true). subst Turns (sym (eqb-true o operator.not_equal h)) not_equal_turns in
      let compared = turns_or o operator.equal _ equal_turns last in
      let bits = turns_or o operator.bit_and _ and_turns (turns_or o operator.bit_or _ or_turns (turns_or o operator.bit_xor _ xor_turns compared)) in
      turns_or o operator.add _ add_turns (turns_or o operator.mul _ mul_turns bits) e

-- ---- operators that change nothing

module _ (x : ℕ) (small : x < 2 ^ 32) where
  abbrev Stays : ℕ → ℕ → Type 0
  Stays n o = binary o x n ≡ x

  add_stays : Stays 0 operator.add
  unfolding binary add
  add_stays = omega (arith, small)

  sub_stays : Stays 0 operator.sub
  unfolding binary
  sub_stays = let e = sub_is x 0 small (omega arith) in omega (arith, small, e)

  mul_stays : Stays 1 operator.mul
  unfolding binary mul
  mul_stays = omega (arith, small)

  none_in : bit_and x 0 ≡ 0
  none_in = let h = and_le_r x 0 in omega (arith, h)

  or_stays : Stays 0 operator.bit_or
  unfolding binary
  or_stays = let e = or_disjoint x 0 none_in in omega (arith, e)

  xor_bits : (i : ℕ) → bit_at (bit_xor x 0) i ≡ bit_at x i
  xor_bits i = let lt = bit_at-lt x i in let z = bit_at-zero i in bit_at_xor x 0 i ∙ ap (λ b. (bit_at x i + b) % 2) z ∙ omega (arith, lt)

  xor_stays : Stays 0 operator.bit_xor
  unfolding binary
  xor_stays = same_from_bits (bit_xor x 0) x xor_bits

  shl_stays : Stays 0 operator.shift_left
  unfolding binary shl
  shl_stays = omega (arith, small)

  shr_stays : Stays 0 operator.shift_right_unsigned
  unfolding binary shr_u
  shr_stays = omega arith

  stays_or : (n o p : ℕ) (rest : Bool) → Stays n p → (rest ≡ true → Stays n o) → (eqb o p || rest) ≡ true → Stays n o
  stays_or n o p rest h k e = by (or_cases (eqb o p) rest e)
    where
      by : (eqb o p ≡ true) ⊎ (rest ≡ true) → Stays n o
      by (inl same) = subst (Stays n) (sym (eqb-true o p same)) h
      by (inr more) = k more

  abbrev shifts : ℕ → Bool
  shifts o = eqb o operator.shift_left || eqb o operator.shift_right_unsigned

  -- the operators that 0 changes nothing under
  abbrev takes_zero : ℕ → Bool
  takes_zero o = eqb o operator.add || (eqb o operator.sub || (eqb o operator.bit_or || (eqb o operator.bit_xor || shifts o)))

  zero_stays : (o : ℕ) → takes_zero o ≡ true → Stays 0 o
  zero_stays o e =
      let last = λ (h : eqb o operator.shift_right_unsigned ≡ true). subst (Stays 0) (sym (eqb-true o operator.shift_right_unsigned h)) shr_stays in
      let bits = stays_or 0 o operator.bit_or _ or_stays (stays_or 0 o operator.bit_xor _ xor_stays (stays_or 0 o operator.shift_left _ shl_stays last)) in
      stays_or 0 o operator.add _ add_stays (stays_or 0 o operator.sub _ sub_stays bits) e

  pub neutral_same : (o n : ℕ) → is_neutral o n ≡ true → binary o x n ≡ x
  neutral_same o n = by (eqb o operator.mul) refl
    where
      by : (c : Bool) → eqb o operator.mul ≡ c → cond c (eqb n 1) (eqb n 0 && takes_zero o) ≡ true → Stays n o
      by true e h = subst (λ k. Stays k o) (sym (eqb-true n 1 h)) (subst (Stays 1) (sym (eqb-true o operator.mul e)) mul_stays)
      by false e h = let p = and_cases (eqb n 0) _ h in subst (λ k. Stays k o) (sym (eqb-true n 0 p.0)) (zero_stays o p.1)

pub shifted_same : (x k : ℕ) → k < 32 → binary operator.mul x (2 ^ k) ≡ binary operator.shift_left x k
unfolding binary mul shl
shifted_same x k lt = let e : k ≡ k % 32 = omega (arith, lt) in ap (λ j. (x * 2 ^ j) % 2 ^ 32) e

-- ---- truths, asked and denied

not_truth : (b : Bool) → as_word (eqb (as_word b) 0) ≡ as_word (not b)
not_truth true = refl
not_truth false = refl

not_not_truth : (b : Bool) → as_word (eqb (as_word (not b)) 0) ≡ as_word b
not_not_truth true = refl
not_not_truth false = refl

pub unequal_same : (x y : ℕ) → unary operator.logical_not (binary operator.equal x y) ≡ binary operator.not_equal x y
unfolding unary binary
unequal_same x y = not_truth (eqb x y)

pub equal_same : (x y : ℕ) → unary operator.logical_not (binary operator.not_equal x y) ≡ binary operator.equal x y
unfolding unary binary
equal_same x y = not_not_truth (eqb x y)

pub twice_same : (x : ℕ) → x ≤ 1 → unary operator.logical_not (unary operator.logical_not x) ≡ x
unfolding unary
twice_same zero h = refl
twice_same (suc zero) h = refl
twice_same (suc (suc x)) h = absurd (omega (arith, h))

pub asked_same : (x : ℕ) → x ≤ 1 → binary operator.not_equal x 0 ≡ x
unfolding binary
asked_same zero h = refl
asked_same (suc zero) h = refl
asked_same (suc (suc x)) h = absurd (omega (arith, h))

pub denied_same : (x : ℕ) → binary operator.equal x 0 ≡ unary operator.logical_not x
unfolding binary unary
denied_same x = refl

pub not_small : (x : ℕ) → unary operator.logical_not x ≤ 1
unfolding unary
not_small x = truth_small (eqb x 0)
