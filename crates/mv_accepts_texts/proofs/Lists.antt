-- The place of a name, what a filter lets pass, and lists with one more element.
use Rattle.std.proofs.Common.{◌≡◌, ℕ, zero, suc, ◌<◌, ◌⊎◌, inl, inr, refl, ap, List, [], ◌∷◌, ◌++◌, length, slice_get, Some}
use Rattle.std.proofs.lemmas.List.Quantifiers.{position-Some}
use Rattle.std.proofs.lemmas.Option.{same_Some}
use Rattle.mv_check_outline.specs.Names.{same_name, place_of}

pub place_within : (name : List ℕ) (ns : List (List ℕ)) (k : ℕ) → place_of name ns ≡ Some k → k < length ns
place_within name ns k h = (position-Some (same_name name) ns k [] h).0

module _ {A : Type 0} where
  pub there_last : (xs : List A) (y : A) (i : ℕ) (x : A) → slice_get (xs ++ y ∷ []) i ≡ Some x → (slice_get xs i ≡ Some x) ⊎ ((i ≡ length xs) × (y ≡ x))
  there_last [] y zero x h = inr (refl, same_Some y x h)
  there_last [] y (suc i) x h = absurd (cc)
  there_last (z ∷ zs) y zero x h = inl h
  there_last (z ∷ zs) y (suc i) x h = by (there_last zs y i x h)
    where
      by : (slice_get zs i ≡ Some x) ⊎ ((i ≡ length zs) × (y ≡ x)) → (slice_get (z ∷ zs) (suc i) ≡ Some x) ⊎ ((suc i ≡ length (z ∷ zs)) × (y ≡ x))
      by (inl q) = inl q
      by (inr q) = inr (ap suc q.0, q.1)
