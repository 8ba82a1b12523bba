-- Elements of lists by their index.
use Rattle.std.proofs.Common.{◌≡◌, ℕ, suc, List, [], ◌∷◌, Some, length, map, replicate, slice_get, refl, ap, ap₂, arith}

-- two lists of one length, with elements that are made to the same
pub map_same : {X Y Z : Type 0} (f : X → Z) (g : Y → Z) (xs : List X) (ys : List Y) → length xs ≡ length ys →
    ((i : ℕ) (x : X) (y : Y) → slice_get xs i ≡ Some x → slice_get ys i ≡ Some y → f x ≡ g y) → map f xs ≡ map g ys
map_same f g [] [] e h = refl
map_same f g [] (y ∷ ys) e h = absurd (omega (arith, e))
map_same f g (x ∷ xs) [] e h = absurd (omega (arith, e))
map_same f g (x ∷ xs) (y ∷ ys) e h = ap₂ ◌∷◌ (h 0 x y refl refl) (map_same f g xs ys (omega (arith, e)) (λ i a b there is. h (suc i) a b there is))

-- an element of the first of two lists, one behind the other, and one of the second

-- the same for each element
pub same_for_all : {X Y : Type 0} (y : Y) (xs : List X) → map (λ x. y) xs ≡ replicate (length xs) y
same_for_all y [] = refl
same_for_all y (x ∷ xs) = ap (λ ys. y ∷ ys) (same_for_all y xs)
