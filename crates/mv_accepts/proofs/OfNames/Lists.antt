-- What stands at the places of lists that grow or change.
use Rattle.std.proofs.Common.{◌≡◌, ℕ, zero, suc, ◌⊎◌, inl, inr, refl, ap, List, [], ◌∷◌, Some, None, slice_get, slice_set, replicate}
use Rattle.std.proofs.lemmas.Option.{same_Some}

module _ {A : Type 0} where
  -- ---- an element that is set

  pub set_elsewhere : (xs : List A) (n i : ℕ) (y x : A) → slice_get (slice_set xs n y) i ≡ Some x → (slice_get xs i ≡ Some x) ⊎ ((i ≡ n) × (y ≡ x))
  set_elsewhere [] n i y x h = absurd (cc)
  set_elsewhere (z ∷ zs) zero zero y x h = inr (refl, same_Some y x h)
  set_elsewhere (z ∷ zs) zero (suc i) y x h = inl h
  set_elsewhere (z ∷ zs) (suc n) zero y x h = inl h
  set_elsewhere (z ∷ zs) (suc n) (suc i) y x h = by (set_elsewhere zs n i y x h)
    where
      by : (slice_get zs i ≡ Some x) ⊎ ((i ≡ n) × (y ≡ x)) → (slice_get zs i ≡ Some x) ⊎ ((suc i ≡ suc n) × (y ≡ x))
      by (inl q) = inl q
      by (inr q) = inr (ap suc q.0, q.1)

  pub set_before : (xs : List A) (n i : ℕ) (y x : A) → slice_get xs i ≡ Some x → (slice_get (slice_set xs n y) i ≡ Some x) ⊎ (i ≡ n)
  set_before [] n i y x h = absurd (cc)
  set_before (z ∷ zs) zero zero y x h = inr refl
  set_before (z ∷ zs) zero (suc i) y x h = inl h
  set_before (z ∷ zs) (suc n) zero y x h = inl h
  set_before (z ∷ zs) (suc n) (suc i) y x h = by (set_before zs n i y x h)
    where
      by : (slice_get (slice_set zs n y) i ≡ Some x) ⊎ (i ≡ n) → (slice_get (slice_set zs n y) i ≡ Some x) ⊎ (suc i ≡ suc n)
      by (inl q) = inl q
      by (inr q) = inr (ap suc q)

pub nothing_there : {A : Type 0} (n i : ℕ) (x : A) → slice_get (replicate n None) i ≡ Some (Some x) → ⊥
nothing_there zero i x h = absurd (cc)
nothing_there {A} (suc n) zero x h = no (same_Some None (Some x) h)
  where
    no : None ≡ Some x → ⊥
    no q = absurd (cc)
nothing_there (suc n) (suc i) x h = nothing_there n i x h
