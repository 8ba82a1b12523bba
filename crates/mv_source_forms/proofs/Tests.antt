-- What holds of each, where tests of several hold.
use Rattle.std.proofs.Common.{◌≡◌, Bool, true, false, ◌&&◌, List, [], ◌∷◌, ◌++◌, refl}
use Rattle.mv_source_forms.specs.Lists.{all_of}

pub one_holds : (a : Bool) → (a && true) ≡ true → a ≡ true
one_holds true q = refl
one_holds false q = q

pub two_hold : (a b : Bool) → (a && (b && true)) ≡ true → (a ≡ true) × (b ≡ true)
two_hold true b q = (refl, one_holds b q)
two_hold false b q = absurd (cc)

pub three_hold : (a b c : Bool) → (a && (b && (c && true))) ≡ true → (a ≡ true) × (b ≡ true) × (c ≡ true)
three_hold true b c q = let r = two_hold b c q in (refl, r.0, r.1)
three_hold false b c q = absurd (cc)

pub all_apart : (xs ys : List Bool) → all_of (xs ++ ys) ≡ true → (all_of xs ≡ true) × (all_of ys ≡ true)
all_apart [] ys q = (refl, q)
all_apart (true ∷ xs) ys q = all_apart xs ys q
all_apart (false ∷ xs) ys q = absurd (cc)

pub last_apart : (xs : List Bool) (b : Bool) → all_of (xs ++ b ∷ []) ≡ true → (all_of xs ≡ true) × (b ≡ true)
last_apart xs b q = let r = all_apart xs (b ∷ []) q in (r.0, one_holds b r.1)
