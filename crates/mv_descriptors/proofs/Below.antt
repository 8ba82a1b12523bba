-- What holds of each number below another.
use Rattle.std.proofs.Common.{◌≡◌, ℕ, zero, suc, ◌+◌, ◌<◌, Bool, true, false, refl, arith, inl, inr, subst}
use Rattle.std.proofs.lemmas.Bool.{cases_lt}
use Rattle.mv_descriptors.specs.Guards.{each_below}
use Rattle.mv_num.proofs.Booleans.{and_right, and_left, and_false}

pub each_below-none : (test : ℕ → Bool) → each_below test 0 ≡ true
unfolding each_below
each_below-none test = refl

pub each_below-more : (test : ℕ → Bool) (k : ℕ) → each_below test k ≡ true → test k ≡ true → each_below test (k + 1) ≡ true
unfolding each_below
each_below-more test k all here = let e : k + 1 ≡ suc k = omega arith in rw (e, all, here) refl

pub each_below-fails : (test : ℕ → Bool) (n k : ℕ) → k < n → test k ≡ false → each_below test n ≡ false
unfolding each_below
each_below-fails test zero k lt fails = absurd (omega arith)
each_below-fails test (suc n) k lt fails =
    elim (cases_lt k n) [
      | inl below ↦ rw (each_below-fails test n k below fails) refl
      | inr above ↦ let e : k ≡ n = omega arith in let f : test n ≡ false = rw e at fails in rw f (and_false (each_below test n))
    ]

pub each_of : (test : ℕ → Bool) (n k : ℕ) → k < n → each_below test n ≡ true → test k ≡ true
unfolding each_below
each_of test zero k lt e = absurd (omega arith)
each_of test (suc n) k lt e =
    elim (cases_lt k n) [
      | inl below ↦ each_of test n k below (and_left _ _ e)
      | inr above ↦ let same : n ≡ k = omega arith in subst (λ (j : ℕ). test j ≡ true) same (and_right _ _ e)
    ]

pub each_below-all : (test : ℕ → Bool) (n : ℕ) → ((k : ℕ) → k < n → test k ≡ true) → each_below test n ≡ true
unfolding each_below
each_below-all test zero all = refl
each_below-all test (suc n) all = rw (each_below-all test n (λ k lt. all k (omega (arith, lt))), all n (omega arith)) refl
