-- What is told of some switches, one after the other.
use Rattle.std.proofs.Common.{◌≡◌, ℕ, suc, ◌+◌, ◌<◌, List, [], ◌∷◌, ◌++◌, length, map, take, get_or, set, sym, ap, ap₂, ◌∙◌, arith}
use Rattle.std.proofs.Math.Seq.{take-suc, take-suc-set}
use Rattle.std.proofs.lemmas.List.{map-append}

-- one more item of a list is what a function tells of the item of another
pub map_more : (f : ℕ → ℕ) (xs ys : List ℕ) (i v : ℕ) → i < length xs → i < length ys → v ≡ f (get_or xs i 0) → take i ys ≡ map f (take i xs) → take (i + 1) (set ys i v) ≡ map f (take (i + 1) xs)
map_more f xs ys i v lt within is done =
    let more : i + 1 ≡ suc i = omega arith in
    ap (λ (n : ℕ). take n (set ys i v)) more ∙ take-suc-set ys i v within ∙ ap₂ (λ (l : List ℕ) (x : ℕ). l ++ x ∷ []) done is ∙ sym (map-append f (take i xs) (get_or xs i 0 ∷ []))
    ∙ ap (map f) (sym (take-suc xs i 0 lt)) ∙ ap (λ (n : ℕ). map f (take n xs)) (sym more)
