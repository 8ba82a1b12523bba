-- Lists that agree place by place.
use Rattle.std.proofs.Common.{◌≡◌, ℕ, suc, List, [], ◌∷◌, length, map, slice_get, Option, Some, None, option_map, refl, sym, ap, subst}
use Rattle.std.proofs.lemmas.Option.{slice_get-map}
use Rattle.mv_harts_turns.specs.Pairs.{Both, Pairs}

module _ {A B C : Type 0} (f : A → B) (R : A → C → Type 0) (S : B → C → Type 0) where
  pub both_map : (x : Option A) (y : Option C) → Both R x y → ((a : A) (c : C) → x ≡ Some a → y ≡ Some c → R a c → S (f a) c) → Both S (option_map f x) y
  both_map None None both more = tt
  both_map None (Some c) both more = absurd both
  both_map (Some a) None both more = absurd both
  both_map (Some a) (Some c) both more = more a c refl refl both

  pub both_in_map : (xs : List A) (n : ℕ) (y : Option C) → Both R (slice_get xs n) y → ((a : A) (c : C) → slice_get xs n ≡ Some a → y ≡ Some c → R a c → S (f a) c) →
      Both S (slice_get (map f xs) n) y
  both_in_map xs n y both more = subst (λ x. Both S x y) (sym (slice_get-map f xs n)) (both_map (slice_get xs n) y both more)

-- what stands beside one that is there
pub beside_right : {A C : Type 0} (R : A → C → Type 0) (x : Option A) (y : Option C) (c : C) → Both R x y → y ≡ Some c → (a : A) × (x ≡ Some a) × R a c
beside_right R None None c both e = absurd (cc)
beside_right R None (Some d) c both e = absurd both
beside_right R (Some a) None c both e = absurd both
beside_right R (Some a) (Some d) c both e = let same : d ≡ c = cc in (a, refl, subst (R a) same both)

-- lists that agree are of one length
pub same_length : {A C : Type 0} (R : ℕ → A → C → Type 0) (xs : List A) (ys : List C) → Pairs R xs ys → length xs ≡ length ys
same_length R [] [] pairs = refl
same_length R [] (y ∷ ys) pairs = absurd (pairs 0)
same_length R (x ∷ xs) [] pairs = absurd (pairs 0)
same_length R (x ∷ xs) (y ∷ ys) pairs = ap suc (same_length (λ n. R (suc n)) xs ys (λ n. pairs (suc n)))
