-- A turn of a search through the counts of some parts.
use Rattle.std.proofs.Common.{◌≡◌, ℕ, ◌+◌, ◌<◌, sym, ◌∙◌, ap, List, ◌∷◌, map, length, get_or, drop, nat_lt, Some, None}
use Rattle.std.proofs.lemmas.List.{drop_more}
use Rattle.std.proofs.lemmas.List.Folds.{find-append}
use Rattle.std.specs.List.{concat}
use Rattle.std.specs.Option.{option_or}
use Rattle.mv_check_limits.specs.Limits.{first_above}

module _ {X : Type 0} (counts : X → List ℕ) (n : ℕ) (xs : List X) (i : ℕ) (x : X) (lt : i < length xs) (is : x ≡ get_or xs i x) where
  turn : first_above n (concat (map counts (drop i xs))) ≡
      option_or (first_above n (counts x)) (first_above n (concat (map counts (drop (i + 1) xs))))
  turn =
      ap (λ ys. first_above n (concat (map counts ys))) (drop_more xs i x lt ∙ ap (λ y. y ∷ drop (i + 1) xs) (sym is)) ∙
      find-append (λ c. nat_lt n c) (counts x) (concat (map counts (drop (i + 1) xs)))

  -- the search ends at a count above the bound
  pub found : (c : ℕ) → Some c ≡ first_above n (counts x) → first_above n (concat (map counts (drop i xs))) ≡ Some c
  found c h = turn ∙ ap (λ o. option_or o (first_above n (concat (map counts (drop (i + 1) xs))))) (sym h)

  -- and goes on where there is none
  pub passed : None ≡ first_above n (counts x) →
      first_above n (concat (map counts (drop i xs))) ≡ first_above n (concat (map counts (drop (i + 1) xs)))
  passed h = turn ∙ ap (λ o. option_or o (first_above n (concat (map counts (drop (i + 1) xs))))) (sym h)
