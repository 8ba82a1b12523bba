-- Sums over the items of a list.
use Rattle.std.proofs.Common.{◌≡◌, ℕ, zero, suc, ◌+◌, ◌<◌, ◌≤◌, List, [], ◌∷◌, map, take, length, get_or, arith, subst, sym}
use Rattle.std.specs.Prelude.{sum}
use Rattle.std.proofs.lemmas.List.Sums.{sum_by-cons}

module _ {A : Type 0} (f : A → ℕ) where
  pub sum_cons : (x : A) (xs : List A) → sum (map f (x ∷ xs)) ≡ f x + sum (map f xs)
  sum_cons x xs = sum_by-cons (λ n. n) (f x) (map f xs)

  -- the items before one, and that one
  pub before_suc : (xs : List A) (i : ℕ) (d : A) → i < length xs → sum (map f (take i xs)) + f (get_or xs i d) ≤ sum (map f xs)
  before_suc [] i d h = absurd (omega arith)
  before_suc (x ∷ xs) zero d h = let s = sum_cons x xs in omega (arith, s)
  before_suc (x ∷ xs) (suc i) d h =
      let k : i < length xs = omega arith in
      let r = before_suc xs i d k in
      let s = sum_cons x xs in
      let t = sum_cons x (take i xs) in
      omega (arith, r, s, t)

  pub sum_before : (xs : List A) (i : ℕ) (x : A) → i < length xs → x ≡ get_or xs i x → sum (map f (take i xs)) + f x ≤ sum (map f xs)
  sum_before xs i x h e = let p = before_suc xs i x h in subst (λ (y : A). sum (map f (take i xs)) + f y ≤ sum (map f xs)) (sym e) p
