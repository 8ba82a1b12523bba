-- A scan position by position, and temporary by temporary: what each step adds.
use Rattle.std.proofs.Common.{arith, ◌≡◌, ℕ, zero, suc, ◌+◌, ◌<◌, ◌≤◌, Bool, true, false, cond, eqb, ltb, ◌&&◌, ◌||◌, List, [], ◌∷◌, ◌++◌, refl, sym, ap, ◌∙◌, ◌⊎◌, inl, inr, append_assoc, append-nil}
use Rattle.std.proofs.lemmas.Bool.{cases_lt, cases_eq, lt-ltb, le-ltb, eq-eqb, ne_eqb}
use Rattle.mv_regalloc.specs.Scan.{Interval, Placed, busy, has, lowest_free, placed, scan}
use Rattle.mv_regalloc.specs.Intervals.{first_from, last_from, span, beginning, by_first, range, given}
use Rattle.mv_regalloc.proofs.Scanned.{free_is_free, free_is_lowest}
use Rattle.mv_ast.specs.Names.{any_of}

pub scan_append : (done : List Placed) (xs ys : List Interval) → scan done (xs ++ ys) ≡ scan (scan done xs) ys
scan_append done [] ys = refl
scan_append done (x ∷ xs) ys = scan_append (placed done x ∷ done) xs ys

module _ (marks : ℕ → List Bool) where
  -- one position more
  pub by_first_more : (ts : List ℕ) (at steps : ℕ) → by_first marks ts at (suc steps) ≡ by_first marks ts at steps ++ beginning marks (at + steps) ts
  by_first_more ts at zero = let e : at ≡ at + 0 = omega arith in append-nil (beginning marks at ts) ∙ ap (λ n. beginning marks n ts) e
  by_first_more ts at (suc steps) =
      let e : suc at + steps ≡ at + suc steps = omega arith in
      ap (λ l. beginning marks at ts ++ l) (by_first_more ts (suc at) steps) ∙ sym (append_assoc (beginning marks at ts) (by_first marks ts (suc at) steps) (beginning marks (suc at + steps) ts)) ∙
      ap (λ n. beginning marks at ts ++ by_first marks ts (suc at) steps ++ beginning marks n ts) e

  pub beginning_append : (at : ℕ) (ts us : List ℕ) → beginning marks at (ts ++ us) ≡ beginning marks at ts ++ beginning marks at us
  beginning_append at [] us = refl
  beginning_append at (t ∷ ts) us = by (any_of (marks t) && eqb (first_from 0 (marks t)) at) (beginning_append at ts us)
    where
      by : (c : Bool) → beginning marks at (ts ++ us) ≡ beginning marks at ts ++ beginning marks at us →
          cond c (span marks t ∷ beginning marks at (ts ++ us)) (beginning marks at (ts ++ us)) ≡ cond c (span marks t ∷ beginning marks at ts)
          (beginning marks at ts) ++ beginning marks at us
      by true e = ap (λ l. span marks t ∷ l) e
      by false e = e

  -- one temporary more at a position: its interval where it begins there
  pub beginning_more : (at a n : ℕ) → beginning marks at (range a (suc n)) ≡ beginning marks at (range a n) ++ beginning marks at ((a + n) ∷ [])
  beginning_more at a n = beginning_append at (range a n) ((a + n) ∷ [])

  -- ---- parameters

  given_has : (n m : ℕ) → has m (busy 0 (given marks n)) ≡ ltb m n
  given_has zero m = sym (le-ltb m 0 (omega arith))
  given_has (suc n) m =
      ap (λ c. has m (cond c (busy 0 (given marks n)) (n ∷ busy 0 (given marks n)))) (le-ltb (last_from 0 (marks n)) 0 (omega arith)) ∙ ap (λ c. eqb n m || c) (given_has n m) ∙ by (cases_eq n m) (cases_lt m n)
    where
      by : (n ≡ m) ⊎ (n ≡ m → ⊥) → (m < n) ⊎ (n ≤ m) → (eqb n m || ltb m n) ≡ ltb m (suc n)
      by (inl e) l = ap (λ c. c || ltb m n) (eq-eqb n m e) ∙ sym (lt-ltb m (suc n) (omega (arith, e)))
      by (inr e) (inl l) = ap (λ c. c || ltb m n) (ne_eqb n m e) ∙ lt-ltb m n l ∙ sym (lt-ltb m (suc n) (omega (arith, l)))
      by (inr e) (inr l) = ap (λ c. c || ltb m n) (ne_eqb n m e) ∙ le-ltb m n l ∙ sym (le-ltb m (suc n) (far (cases_lt n m)))
        where
          far : (n < m) ⊎ (m ≤ n) → suc n ≤ m
          far (inl k) = k
          far (inr k) = absurd (e (omega (arith, k, l)))

  -- after n parameters the lowest number that is free at the start is n
  pub given_lowest : (n : ℕ) → lowest_free (busy 0 (given marks n)) ≡ n
  given_lowest n = by (cases_lt free n) (cases_lt n free)
    where
      free : ℕ
      free = lowest_free (busy 0 (given marks n))

      by : (free < n) ⊎ (n ≤ free) → (n < free) ⊎ (free ≤ n) → free ≡ n
      by (inl l) k = let e : true ≡ false = sym (lt-ltb free n l) ∙ sym (given_has n free) ∙ free_is_free (busy 0 (given marks n)) in absurd cc
      by (inr l) (inl k) = let e : false ≡ true = sym (le-ltb n n (omega arith)) ∙ sym (given_has n n) ∙ free_is_lowest (busy 0 (given marks n)) n k in absurd cc
      by (inr l) (inr k) = omega (arith, l, k)

  -- a parameter that begins at the start is placed as it was given
  pub given_placed : (n : ℕ) → first_from 0 (marks n) ≡ 0 → placed (given marks n) (span marks n) ∷ given marks n ≡ given marks (suc n)
  given_placed n e = ap (λ k. record { interval = span marks n; number = k } ∷ given marks n) (ap (λ at. lowest_free (busy at (given marks n))) e ∙ given_lowest n)
