-- A turn of a search through lists of counts.
use Rattle.std.proofs.Common.{◌≡◌, ℕ, ◌+◌, ◌*◌, ◌<◌, sym, ◌∙◌, ap, List, ◌∷◌, ◌++◌, map, length, get_or, drop, nat_lt, mul_assoc, Some, None, if◌then◌else◌, ◌≤◌}
use Rattle.mv_ast.specs.Counts.{product_of}
use Rattle.std.proofs.lemmas.Bool.{le-ltb}
use Rattle.std.proofs.lemmas.List.{drop_more}
use Rattle.std.proofs.lemmas.List.Folds.{find-append}
use Rattle.std.specs.List.{flat_map}
use Rattle.std.specs.Option.{option_or}
use Rattle.mv_check_limits.specs.Limits.{first_above}

module _ {X : Type 0} (counts : X → List ℕ) (n : ℕ) (xs : List X) (i : ℕ) (x : X) (lt : i < length xs) (is : x ≡ get_or xs i x) where
  turn : first_above n (flat_map counts (drop i xs)) ≡
      option_or (first_above n (counts x)) (first_above n (flat_map counts (drop (i + 1) xs)))
  turn =
      ap (λ ys. first_above n (flat_map counts ys)) (drop_more xs i x lt ∙ ap (λ y. y ∷ drop (i + 1) xs) (sym is)) ∙
      find-append (λ c. nat_lt n c) (counts x) (flat_map counts (drop (i + 1) xs))

  -- the search ends at a count above the bound
  pub found : (c : ℕ) → Some c ≡ first_above n (counts x) → first_above n (flat_map counts (drop i xs)) ≡ Some c
  found c h = turn ∙ ap (λ o. option_or o (first_above n (flat_map counts (drop (i + 1) xs)))) (sym h)

  -- and goes on where there is none
  pub passed : None ≡ first_above n (counts x) →
      first_above n (flat_map counts (drop i xs)) ≡ first_above n (flat_map counts (drop (i + 1) xs))
  passed h = turn ∙ ap (λ o. option_or o (first_above n (flat_map counts (drop (i + 1) xs)))) (sym h)

-- A turn of a search past a count that isn't above the bound.
pub below : {X : Type 0} (count : X → ℕ) (n : ℕ) (xs : List X) (i : ℕ) (x : X) → i < length xs → x ≡ get_or xs i x → count x ≤ n →
    first_above n (map count (drop i xs)) ≡ first_above n (map count (drop (i + 1) xs))
below count n xs i x lt is small =
    ap (λ ys. first_above n (map count ys)) (drop_more xs i x lt ∙ ap (λ y. y ∷ drop (i + 1) xs) (sym is)) ∙
    ap (λ b. if b then Some (count x) else first_above n (map count (drop (i + 1) xs))) (le-ltb n (count x) small)

-- A search through two lists.
pub in_first : (n c : ℕ) (xs ys : List ℕ) → Some c ≡ first_above n xs → Some c ≡ first_above n (xs ++ ys)
in_first n c xs ys h = sym (find-append (λ d. nat_lt n d) xs ys ∙ ap (λ o. option_or o (first_above n ys)) (sym h))

pub in_second : (n : ℕ) (xs ys : List ℕ) → None ≡ first_above n xs → first_above n ys ≡ first_above n (xs ++ ys)
in_second n xs ys h = sym (find-append (λ d. nat_lt n d) xs ys ∙ ap (λ o. option_or o (first_above n ys)) (sym h))

-- A turn of a product.
pub multiplied : (sizes : ℕ → ℕ) (xs : List ℕ) (i p v : ℕ) → i < length xs → v ≡ sizes (get_or xs i 0) →
    (p * v) * product_of (map sizes (drop (i + 1) xs)) ≡ p * product_of (map sizes (drop i xs))
multiplied sizes xs i p v lt is =
    mul_assoc p v (product_of (map sizes (drop (i + 1) xs))) ∙
    (ap (λ n. p * (n * product_of (map sizes (drop (i + 1) xs)))) is ∙
    ap (λ ys. p * product_of (map sizes ys)) (sym (drop_more xs i 0 lt)))
