-- The pairs between two texts.
use Rattle.std.proofs.Common.{◌≡◌, ◌≢◌, ℕ, zero, suc, ◌+◌, ◌*◌, ◌<◌, ◌≤◌, Bool, true, false, cond, eqb, List, [], ◌∷◌, ◌++◌, length, slice_get, get_or, Some, refl, ap, ◌∙◌, subst, arith}
use Rattle.std.specs.List.{All, Contains}
use Rattle.std.proofs.lemmas.Bool.{cond_both, eqb-true, eqb-false}
use Rattle.std.proofs.lemmas.List.Elements.{All-nil, All-cons}
use Rattle.mv_patch.specs.declared.prepared.Pair.{Pair}
use Rattle.mv_patch.specs.Pairs.{place, pair_of, text_start, differing, pairs_between, IsDifference}

-- Pairs of two texts, one behind the other from an index on.
abbrev pub Marches : (old new : List ℕ) → ℕ → List Pair → Type 0
Marches old new m [] = Unit {0}
Marches old new m (pair ∷ pairs) =
    (k : ℕ) × (m ≤ k) × (o : ℕ) × (pair.address ≡ place k) × (slice_get old k ≡ Some o) × (slice_get new k ≡ Some pair.word) × (o ≢ pair.word) × Marches old new (suc k) pairs

pub earlier : (old new : List ℕ) (l m : ℕ) (pairs : List Pair) → l ≤ m → Marches old new m pairs → Marches old new l pairs
earlier old new l m [] le h = tt
earlier old new l m (pair ∷ pairs) le h = (h.0, omega (arith, h.1, le), h.2, h.3, h.4, h.5, h.6, h.7)

-- one list is another from an index on
abbrev IsFrom : ℕ → List ℕ → List ℕ → Type 0
IsFrom m xs all = (k j w : ℕ) → j ≡ m + k → slice_get xs k ≡ Some w → slice_get all j ≡ Some w

marching : (old new : List ℕ) (m at : ℕ) (xs ys : List ℕ) → at ≡ place m → IsFrom m xs old → IsFrom m ys new → Marches old new m (differing at xs ys)
unfolding differing
marching old new m at [] ys e f g = tt
marching old new m at (x ∷ xs) [] e f g = tt
marching old new m at (x ∷ xs) (y ∷ ys) e f g =
    let rest : Marches old new (suc m) (differing (at + 4) xs ys) =
    marching old new (suc m) (at + 4) xs ys (omega (arith, e)) (λ k j w q h. f (suc k) j w (omega (arith, q)) h) (λ k j w q h. g (suc k) j w (omega (arith, q)) h) in
    cond_both (eqb x y) _ _ (Marches old new m)
    (λ same. earlier old new m (suc m) (differing (at + 4) xs ys) (omega arith) rest)
    (λ differ. (m, omega arith, x, e, f 0 m x (omega arith) refl, g 0 m y (omega arith) refl, eqb-false x y differ, rest))

pub pairs_march : (old new : List ℕ) → Marches old new 0 (pairs_between old new)
pairs_march old new = marching old new 0 text_start old new refl (λ k j w e h. subst (λ i. slice_get old i ≡ Some w) (omega (arith, e)) h) (λ k j w e h. subst (λ i. slice_get new i ≡ Some w) (omega (arith, e)) h)

-- the first of them
pub front_marches : (old new : List ℕ) (m : ℕ) (done left : List Pair) → Marches old new m (done ++ left) → Marches old new m done
front_marches old new m [] left h = tt
front_marches old new m (pair ∷ done) left h = (h.0, h.1, h.2, h.3, h.4, h.5, h.6, front_marches old new (suc h.0) done left h.7)

-- the others stand behind all of the first
pub back_marches : (old new : List ℕ) (m : ℕ) (done left : List Pair) → Marches old new m (done ++ left) → Marches old new m left
back_marches old new m [] left h = h
back_marches old new m (pair ∷ done) left h = earlier old new m (suc h.0) left (omega (arith, h.1)) (back_marches old new (suc h.0) done left h.7)

-- ---- each difference has a pair

pub behind_one : (pairs : List Pair) (pair first : Pair) → Contains pairs pair → Contains (first ∷ pairs) pair
behind_one pairs pair first h = (suc h.0, omega (arith, h.1), h.2)

pub difference_has_pair : (at k b o n : ℕ) (xs ys : List ℕ) → b ≡ at + 4 * k → slice_get xs k ≡ Some o → slice_get ys k ≡ Some n → o ≢ n → Contains (differing at xs ys) (pair_of b n)
unfolding differing
difference_has_pair at k b o n [] ys e f g ne = absurd (cc)
difference_has_pair at k b o n (x ∷ xs) [] e f g ne = absurd (cc)
difference_has_pair at zero b o n (x ∷ xs) (y ∷ ys) e f g ne =
    cond_both (eqb x y) _ _ (λ ps. Contains ps (pair_of b n))
    (λ same. let q = eqb-true x y same in absurd (ne cc))
    (λ differ. (let d : at ≡ b = omega (arith, e) in let w : y ≡ n = cc in (0, omega arith, ap (λ (z : ℕ). pair_of z y) d ∙ ap (pair_of b) w)))
difference_has_pair at (suc k) b o n (x ∷ xs) (y ∷ ys) e f g ne =
    let rest : Contains (differing (at + 4) xs ys) (pair_of b n) = difference_has_pair (at + 4) k b o n xs ys (omega (arith, e)) f g ne in
    cond_both (eqb x y) _ _ (λ ps. Contains ps (pair_of b n)) (λ same. rest) (λ differ. behind_one (differing (at + 4) xs ys) (pair_of b n) (pair_of at y) rest)

-- where no pair is, the texts are one
pub none_differ : (at : ℕ) (xs ys : List ℕ) → length ys ≡ length xs → differing at xs ys ≡ [] → xs ≡ ys
unfolding differing
none_differ at [] [] e h = refl
none_differ at [] (y ∷ ys) e h = absurd (omega (arith, e))
none_differ at (x ∷ xs) [] e h = absurd (omega (arith, e))
none_differ at (x ∷ xs) (y ∷ ys) e h = by_test (λ k. none_differ (at + 4) xs ys (omega (arith, e)) k) (eqb x y) refl h
  where
    by_test : (differing (at + 4) xs ys ≡ [] → xs ≡ ys) → (b : Bool) → eqb x y ≡ b → cond b (differing (at + 4) xs ys) ((pair_of at y) ∷ differing (at + 4) xs ys) ≡ [] → x ∷ xs ≡ y ∷ ys
    by_test rest true q k = ap (λ (z : ℕ). z ∷ xs) (eqb-true x y q) ∙ ap (λ (zs : List ℕ). y ∷ zs) (rest k)
    by_test rest false q k = absurd (cc)

-- ---- what the march tells

pub all_differ : (old new : List ℕ) (m : ℕ) (pairs : List Pair) → Marches old new m pairs → All (IsDifference old new) pairs
all_differ old new m [] h = All-nil (IsDifference old new)
all_differ old new m (pair ∷ pairs) h =
    All-cons (IsDifference old new) pair pairs (record { index = h.0; address = h.3; word = h.2; before = h.4; after = h.5; differs = h.6 }) (all_differ old new (suc h.0) pairs h.7)

-- none of them is before the first index
pub at_least : (old new : List ℕ) (m j : ℕ) (d : Pair) (pairs : List Pair) → Marches old new m pairs → j < length pairs → place m ≤ (get_or pairs j d).address
at_least old new m j d [] h lt = absurd (omega (arith, lt))
at_least old new m zero d (pair ∷ pairs) h lt = omega (arith, h.1, h.3)
at_least old new m (suc j) d (pair ∷ pairs) h lt = omega (arith, h.1, at_least old new (suc h.0) j d pairs h.7 (omega (arith, lt)))

pub ascending : (old new : List ℕ) (m i j : ℕ) (d : Pair) (pairs : List Pair) → Marches old new m pairs → i < j → j < length pairs → (get_or pairs i d).address + 4 ≤ (get_or pairs j d).address
ascending old new m i j d [] h lt below = absurd (omega (arith, below))
ascending old new m i zero d (pair ∷ pairs) h lt below = absurd (omega (arith, lt))
ascending old new m zero (suc j) d (pair ∷ pairs) h lt below = omega (arith, h.3, at_least old new (suc h.0) j d pairs h.7 (omega (arith, below)))
ascending old new m (suc i) (suc j) d (pair ∷ pairs) h lt below = ascending old new (suc h.0) i j d pairs h.7 (omega (arith, lt)) (omega (arith, below))
