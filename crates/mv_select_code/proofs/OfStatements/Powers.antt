-- Divisions of words by a power of two.
use Rattle.std.proofs.Common.{◌≡◌, ◌≢◌, ◌⊎◌, inl, inr, ℕ, zero, suc, ◌-◌, ◌*◌, ◌%◌, ◌^◌, ◌<◌, ◌≤◌, Bool, true, false, cond, eqb, List, Option, Some, None, pos, refl, ap, ◌∙◌, subst, arith, bit_and}
use Rattle.std.proofs.lemmas.Bool.{eq-eqb, eqb-true}
use Rattle.std.proofs.lemmas.Nat.{and_mask, pow_below, pow_pos}
use Rattle.std.proofs.Math.Nat.{pow-le-pow_right}
use Rattle.mv_num.specs.Words.{shr_u, div_u, rem_u}
use Rattle.mv_isa.specs.declared.instr.Instr.TheVariants.{Andi, Srli}
use Rattle.mv_isa.specs.Encoding.{Fits}
use Rattle.mv_isa.specs.Execution.{Access, reg, put}
use Rattle.mv_isa.proofs.Again.{count_fits}
use Rattle.mv_ir.specs.Trees.{divide}
use Rattle.mv_select_code.specs.Trees.Straight.{Sets}
use Rattle.mv_select_code.proofs.OfTrees.Instructions.{andi_sets, srli_sets}
use Rattle.mv_select_code.proofs.OfTrees.TreesFit.{small_fits}
use Rattle.mv_select_code.specs.Statements.StatementCode.{power_below, power_of, power_division}
use Rattle.mv_num.proofs.Numbers.{word_of_pos}

-- a quotient without signs, or a remainder of few bits
abbrev pub HasShort : (o k : ℕ) → Type 0
HasShort o k = (o ≡ 1) ⊎ ((o ≡ 3) × (k < 12))

pub record IsPower (o k n : ℕ) : Type 0 where
  pub same : n ≡ 2 ^ k
  pub low : k < 32
  pub has : HasShort o k

below_is : (bound n k : ℕ) → power_below bound n ≡ Some k → (n ≡ 2 ^ k) × (k < bound)
unfolding power_below
below_is zero n k e = absurd cc
below_is (suc b) n k e = by_test (below_is b n k) (eqb n (2 ^ b)) refl e
  where
    by_test : (power_below b n ≡ Some k → (n ≡ 2 ^ k) × (k < b)) → (is : Bool) → eqb n (2 ^ b) ≡ is → cond is (Some b) (power_below b n) ≡ Some k → (n ≡ 2 ^ k) × (k < suc b)
    by_test lower true h e = let found : b ≡ k = cc in (eqb-true n (2 ^ b) h ∙ ap (λ z. 2 ^ z) found, omega arith)
    by_test lower false h e = let is = lower e in (is.0, omega (arith, is.1))

-- a number that is the highest of these powers, as it is computed with words
pub power_found : (bound n : ℕ) → bound ≢ 0 → bound ≤ 32 → n ≡ 1 * 2 ^ (bound - 1) % 4294967296 → power_below bound n ≡ Some (bound - 1)
unfolding power_below
power_found zero n ne le e = absurd (ne refl)
power_found (suc k) n ne le e =
    let less : suc k - 1 ≡ k = omega arith in
    let below = pow_below k 32 (omega (arith, le)) in
    let word : 1 * 2 ^ k % 4294967296 ≡ 2 ^ k = omega (arith, below) in
    rw (less, eq-eqb n (2 ^ k) (subst (λ z. n ≡ 1 * 2 ^ z % 4294967296) less e ∙ word)) refl

-- what such a divisor is
pub power_is : (o n k : ℕ) → power_of o (Some n) ≡ Some k → IsPower o k n
unfolding power_of
power_is zero n k e = absurd cc
power_is (suc zero) n k e = let is = below_is 32 n k e in record { same = is.0; low = is.1; has = inl refl }
power_is (suc (suc zero)) n k e = absurd cc
power_is (suc (suc (suc zero))) n k e = let is = below_is 12 n k e in record { same = is.0; low = omega (arith, is.1); has = inr (refl, is.1) }
power_is (suc (suc (suc (suc o)))) n k e = absurd cc

pub power_low : (o k : ℕ) (w : Option ℕ) → power_of o w ≡ Some k → k < 32
unfolding power_of
power_low o k None e = absurd cc
power_low o k (Some n) e = (power_is o n k e).low

power_short : (o k : ℕ) (w : Option ℕ) → power_of o w ≡ Some k → HasShort o k
unfolding power_of
power_short o k None e = absurd cc
power_short o k (Some n) e = (power_is o n k e).has

pub power_above : (o k n : ℕ) → IsPower o k n → n ≡ 0 → ⊥
power_above o k n is e = let positive = pow_pos k in let same = is.same in omega (arith, positive, same, e)

-- the instruction has an encoding
pub power_fits : (o k d a : ℕ) (w : Option ℕ) → power_of o w ≡ Some k → d < 32 → a < 32 → Fits (power_division o k d a)
unfolding power_division
power_fits o k d a w is h p = by_kind (power_short o k w is)
  where
    low : k < 32
    low = power_low o k w is

    by_kind : HasShort o k → Fits (cond (eqb o 1) (Srli d a (pos k)) (Andi d a (pos (2 ^ k - 1))))
    by_kind (inl e) = rw e (h, p, count_fits k low)
    by_kind (inr e) = let few : 2 ^ k ≤ 2 ^ 11 = pow-le-pow_right {n = 2} (omega arith) {i = k} {j = 11} (omega (arith, e.1)) in rw (e.0) (h, p, small_fits (2 ^ k - 1) (omega (arith, few)))

shifted : (a k n : ℕ) → k < 32 → n ≡ 2 ^ k → shr_u a k ≡ div_u a n
unfolding shr_u div_u
shifted a k n low same = let count : k % 32 ≡ k = omega arith in rw (count, same) refl

masked : (a k n : ℕ) → n ≡ 2 ^ k → bit_and a (2 ^ k - 1) ≡ rem_u a n
unfolding rem_u
masked a k n same = rw same (and_mask a k)

module _ {M : Type 0} (access : Access M) (m : M) where
  -- and does what the division means
  pub power_sets : (o k n d p a : ℕ) (regs : List ℕ) → IsPower o k n → reg regs p ≡ a → Sets access m (power_division o k d p) regs (put regs d (divide o a n))
  unfolding power_division divide
  power_sets o k n d p a regs is e = by_kind is.has
    where
      by_kind : HasShort o k → Sets access m (power_division o k d p) regs (put regs d (divide o a n))
      by_kind (inl e1) = rw e1 (srli_sets access m d p (pos k) regs a k (div_u a n) e (word_of_pos k (omega (arith, is.low))) (shifted a k n is.low is.same))
      by_kind (inr e3) =
          let few : 2 ^ k < 2 ^ 32 = pow_below k 32 is.low in
          rw (e3.0) (andi_sets access m d p (pos (2 ^ k - 1)) regs a (2 ^ k - 1) (rem_u a n) e (word_of_pos (2 ^ k - 1) (omega (arith, few))) (masked a k n is.same))
