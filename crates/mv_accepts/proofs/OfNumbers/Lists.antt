-- Lists at a place, and with one element changed.
use Rattle.std.proofs.Common.{◌≡◌, ℕ, zero, suc, refl, sym, ◌∙◌, ap, ◌⊎◌, inl, inr, Bool, true, false, List, [], ◌∷◌, map, filter, Some, slice_get, if◌then◌else◌, arith}
use Rattle.std.specs.Prelude.{slice_set}
use Rattle.std.specs.List.{AllByRecursion}

module _ {A : Type 0} where
  pub all_both : (P Q R : A → Type 0) → ((x : A) → P x → Q x → R x) → (xs : List A) → AllByRecursion P xs → AllByRecursion Q xs → AllByRecursion R xs
  all_both P Q R f [] h k = tt
  all_both P Q R f (x ∷ xs) h k = (f x h.0 k.0, all_both P Q R f xs h.1 k.1)

  pub all_kept : (P : A → Type 0) (p : A → Bool) (xs : List A) → AllByRecursion P xs → AllByRecursion P (filter p xs)
  all_kept P p [] h = tt
  all_kept P p (x ∷ xs) h = by (p x) (all_kept P p xs h.1)
    where
      by : (b : Bool) → AllByRecursion P (filter p xs) → AllByRecursion P (if b then x ∷ filter p xs else filter p xs)
      by true rest = (h.0, rest)
      by false rest = rest

  -- what stands at a place is what stood there, or what is put there
  pub set_there : (xs : List A) (i : ℕ) (y : A) (j : ℕ) (x : A) → slice_get (slice_set xs i y) j ≡ Some x →
      ((slice_get xs j ≡ Some x) × (i ≡ j → ⊥)) ⊎ ((i ≡ j) × (y ≡ x))
  set_there [] i y j x h = absurd (cc)
  set_there (z ∷ zs) zero y zero x h = inr (refl, cc)
  set_there (z ∷ zs) zero y (suc j) x h = inl (h, λ e. omega (arith, e))
  set_there (z ∷ zs) (suc i) y zero x h = inl (h, λ e. omega (arith, e))
  set_there (z ∷ zs) (suc i) y (suc j) x h = by (set_there zs i y j x h)
    where
      by : ((slice_get zs j ≡ Some x) × (i ≡ j → ⊥)) ⊎ ((i ≡ j) × (y ≡ x)) → ((slice_get (z ∷ zs) (suc j) ≡ Some x) × (suc i ≡ suc j → ⊥)) ⊎ ((suc i ≡ suc j) × (y ≡ x))
      by (inl q) = inl (q.0, λ e. q.1 (omega (arith, e)))
      by (inr q) = inr (ap suc q.0, q.1)

module _ {A B : Type 0} where
  -- a change that leaves alone what is read of an element
  pub set_same : (f : A → B) (xs : List A) (i : ℕ) (x y : A) → slice_get xs i ≡ Some x → f y ≡ f x → map f (slice_set xs i y) ≡ map f xs
  set_same f [] i x y h e = refl
  set_same f (z ∷ zs) zero x y h e = let q : z ≡ x = cc in ap (λ b. b ∷ map f zs) (e ∙ sym (ap f q))
  set_same f (z ∷ zs) (suc i) x y h e = ap (λ bs. f z ∷ bs) (set_same f zs i x y h e)

  -- a filter by what stays the same in a map
  pub filter_map : (p : A → Bool) (q : B → Bool) (f : A → B) (xs : List A) → AllByRecursion (λ x. p x ≡ q (f x)) xs → map f (filter p xs) ≡ filter q (map f xs)
  filter_map p q f [] h = refl
  filter_map p q f (x ∷ xs) h = by (p x) (q (f x)) h.0 (filter_map p q f xs h.1)
    where
      by : (b c : Bool) → b ≡ c → map f (filter p xs) ≡ filter q (map f xs) →
          map f (if b then x ∷ filter p xs else filter p xs) ≡ (if c then f x ∷ filter q (map f xs) else filter q (map f xs))
      by true true e r = ap (λ bs. f x ∷ bs) r
      by false false e r = r
      by true false e r = absurd (cc)
      by false true e r = absurd (cc)
