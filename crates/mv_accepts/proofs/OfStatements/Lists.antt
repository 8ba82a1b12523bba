-- What holds of each element of a list, and what stands at its places.
use Rattle.std.proofs.Common.{◌≡◌, ℕ, zero, suc, refl, ap, subst, List, [], ◌∷◌, ◌++◌, map, Some, slice_get}
use Rattle.std.specs.List.{AllByRecursion}
use Rattle.std.proofs.lemmas.Option.{same_Some}

-- ---- each element

pub each_any : {A : Type 0} (xs : List A) → AllByRecursion (λ x. Unit {0}) xs
each_any [] = tt
each_any (x ∷ xs) = (tt, each_any xs)

module _ {A : Type 0} where
  pub all_append : (P : A → Type 0) (xs ys : List A) → AllByRecursion P xs → AllByRecursion P ys → AllByRecursion P (xs ++ ys)
  all_append P [] ys h k = k
  all_append P (x ∷ xs) ys h k = (h.0, all_append P xs ys h.1 k)

  pub all_last : (P : A → Type 0) (xs : List A) (y : A) → AllByRecursion P xs → P y → AllByRecursion P (xs ++ y ∷ [])
  all_last P xs y h k = all_append P xs (y ∷ []) h (k, tt)

  pub all_at : (P : A → Type 0) (xs : List A) → AllByRecursion P xs → (i : ℕ) (x : A) → slice_get xs i ≡ Some x → P x
  all_at P [] h i x q = absurd (cc)
  all_at P (y ∷ ys) h zero x q = subst P (same_Some y x q) h.0
  all_at P (y ∷ ys) h (suc i) x q = all_at P ys h.1 i x q

  pub all_by : (P : A → Type 0) (xs : List A) → ((i : ℕ) (x : A) → slice_get xs i ≡ Some x → P x) → AllByRecursion P xs
  all_by P [] h = tt
  all_by P (x ∷ xs) h = (h zero x refl, all_by P xs (λ i y q. h (suc i) y q))

  pub all_more : (P Q : A → Type 0) → ((x : A) → P x → Q x) → (xs : List A) → AllByRecursion P xs → AllByRecursion Q xs
  all_more P Q f [] h = tt
  all_more P Q f (x ∷ xs) h = (f x h.0, all_more P Q f xs h.1)

-- ---- mapped lists

module _ {A B : Type 0} where
  pub all_mapped : (P : B → Type 0) (g : A → B) (xs : List A) → AllByRecursion (λ x. P (g x)) xs → AllByRecursion P (map g xs)
  all_mapped P g [] h = tt
  all_mapped P g (x ∷ xs) h = (h.0, all_mapped P g xs h.1)

  pub mapped_there : (g : A → B) (xs : List A) (i : ℕ) (x : A) → slice_get xs i ≡ Some x → slice_get (map g xs) i ≡ Some (g x)
  mapped_there g [] i x h = absurd (cc)
  mapped_there g (y ∷ ys) zero x h = ap (λ z. Some (g z)) (same_Some y x h)
  mapped_there g (y ∷ ys) (suc i) x h = mapped_there g ys i x h

  pub mapped_back : (g : A → B) (xs : List A) (i : ℕ) (y : B) → slice_get (map g xs) i ≡ Some y → (x : A) × (slice_get xs i ≡ Some x) × (g x ≡ y)
  mapped_back g [] i y h = absurd (cc)
  mapped_back g (x ∷ xs) zero y h = (x, refl, same_Some (g x) y h)
  mapped_back g (x ∷ xs) (suc i) y h = mapped_back g xs i y h
