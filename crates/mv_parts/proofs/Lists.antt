-- Elements of lists by their index.
use Rattle.std.proofs.Common.{◌≡◌, ℕ, zero, suc, List, [], ◌∷◌, ◌++◌, Some, length, map, slice_get, All, refl, ap, subst}
use Rattle.std.proofs.lemmas.List.Elements.{All-nil, All-cons}
use Rattle.std.proofs.lemmas.Option.{slice_get_within, get_or_from_slice_get, same_Some}

-- what holds of each element holds of all
pub all_by_index : {X : Type 0} (P : X → Type 0) (xs : List X) → ((i : ℕ) (x : X) → slice_get xs i ≡ Some x → P x) → All P xs
all_by_index P [] h = All-nil P
all_by_index P (x ∷ xs) h = All-cons P x xs (h 0 x refl) (all_by_index P xs (λ i y is. h (suc i) y is))

-- what holds of all holds of each
pub one_of_all : {X : Type 0} (P : X → Type 0) (xs : List X) → All P xs → (i : ℕ) (x : X) → slice_get xs i ≡ Some x → P x
one_of_all P xs all i x is = subst P (get_or_from_slice_get xs i x x is) (all i x (slice_get_within xs i x is))

-- one element more, with a fact for each by its index
pub each_push : {X : Type 0} (P : ℕ → X → Type 0) (xs : List X) (x : X) → ((i : ℕ) (y : X) → slice_get xs i ≡ Some y → P i y) → P (length xs) x →
    (i : ℕ) (y : X) → slice_get (xs ++ x ∷ []) i ≡ Some y → P i y
each_push P [] x each last zero y is = subst (P 0) (same_Some x y is) last
each_push P [] x each last (suc i) y is = absurd (cc is)
each_push P (z ∷ xs) x each last zero y is = each 0 y is
each_push P (z ∷ xs) x each last (suc i) y is = each_push (λ k. P (suc k)) xs x (λ k w there. each (suc k) w there) last i y is

pub map_at : {X Y : Type 0} (f : X → Y) (xs : List X) (i : ℕ) (x : X) → slice_get xs i ≡ Some x → slice_get (map f xs) i ≡ Some (f x)
map_at f [] i x e = absurd (cc e)
map_at f (y ∷ xs) zero x e = ap (λ z. Some (f z)) (same_Some y x e)
map_at f (y ∷ xs) (suc i) x e = map_at f xs i x e
