-- Two ascending lists of addresses as one.
use Rattle.std.proofs.Common.{◌≡◌, ◌≢◌, ◌⊎◌, inl, inr, ⊎_elim, ℕ, suc, ◌<◌, ◌≤◌, Bool, true, false, cond, ltb, List, [], ◌∷◌, refl, arith}
use Rattle.std.proofs.lemmas.Bool.{cond_both, cases_lt, ltb-true, ltb-false}
use Rattle.mv_patch.specs.Pairs.{place}
use Rattle.mv_patch.specs.Tables.{merged_behind, merged}

-- an address is one of a list
abbrev pub Has : ℕ → List ℕ → Type 0
Has a [] = ⊥
Has a (x ∷ xs) = (x ≡ a) ⊎ Has a xs

-- ---- what is in both lists is in one

left_behind : (x : ℕ) (later : List ℕ → List ℕ) (a : ℕ) (ys : List ℕ) → ((x ≡ a) ⊎ ((zs : List ℕ) → Has a (later zs))) → Has a (merged_behind x later ys)
left_behind x later a [] (inl e) = inl e
left_behind x later a [] (inr g) = inr (g [])
left_behind x later a (y ∷ ys) h =
    cond_both (ltb x y) _ _ (Has a)
    (λ t. ⊎_elim (λ (e : x ≡ a). inl e) (λ (g : (zs : List ℕ) → Has a (later zs)). inr (g (y ∷ ys))) h)
    (λ t. inr (left_behind x later a ys h))

pub merged_left : (xs ys : List ℕ) (a : ℕ) → Has a xs → Has a (merged xs ys)
unfolding merged
merged_left [] ys a h = absurd h
merged_left (x ∷ xs) ys a (inl e) = left_behind x (merged xs) a ys (inl e)
merged_left (x ∷ xs) ys a (inr h) = left_behind x (merged xs) a ys (inr (λ zs. merged_left xs zs a h))

right_behind : (x : ℕ) (later : List ℕ → List ℕ) (a : ℕ) (ys : List ℕ) → ((zs : List ℕ) → Has a zs → Has a (later zs)) → Has a ys → Has a (merged_behind x later ys)
right_behind x later a [] g h = absurd h
right_behind x later a (y ∷ ys) g h =
    cond_both (ltb x y) _ _ (Has a)
    (λ t. inr (g (y ∷ ys) h))
    (λ t. ⊎_elim (λ (e : y ≡ a). inl e) (λ (k : Has a ys). inr (right_behind x later a ys g k)) h)

pub merged_right : (xs ys : List ℕ) (a : ℕ) → Has a ys → Has a (merged xs ys)
unfolding merged
merged_right [] ys a h = h
merged_right (x ∷ xs) ys a h = right_behind x (merged xs) a ys (λ zs k. merged_right xs zs a k) h

-- ---- and nothing else is

has_behind : (x : ℕ) (later : List ℕ → List ℕ) (a : ℕ) (xs ys : List ℕ) → ((zs : List ℕ) → Has a (later zs) → Has a xs ⊎ Has a zs) → Has a (merged_behind x later ys) → Has a (x ∷ xs) ⊎ Has a ys
has_behind x later a xs [] g (inl e) = inl (inl e)
has_behind x later a xs [] g (inr h) = ⊎_elim (λ (p : Has a xs). inl (inr p)) (λ (q : Has a []). absurd q) (g [] h)
has_behind x later a xs (y ∷ ys) g h = by_test (λ p. has_behind x later a xs ys g p) (ltb x y) h
  where
    by_test : (Has a (merged_behind x later ys) → Has a (x ∷ xs) ⊎ Has a ys) → (b : Bool) → Has a (cond b (x ∷ later (y ∷ ys)) (y ∷ merged_behind x later ys)) → Has a (x ∷ xs) ⊎ Has a (y ∷ ys)
    by_test rest true (inl e) = inl (inl e)
    by_test rest true (inr p) = ⊎_elim (λ (q : Has a xs). inl (inr q)) (λ (q : Has a (y ∷ ys)). inr q) (g (y ∷ ys) p)
    by_test rest false (inl e) = inr (inl e)
    by_test rest false (inr p) = ⊎_elim (λ (q : Has a (x ∷ xs)). inl q) (λ (q : Has a ys). inr (inr q)) (rest p)

pub merged_has : (xs ys : List ℕ) (a : ℕ) → Has a (merged xs ys) → Has a xs ⊎ Has a ys
unfolding merged
merged_has [] ys a h = inr h
merged_has (x ∷ xs) ys a h = has_behind x (merged xs) a xs ys (λ zs p. merged_has xs zs a p) h

-- ---- the merged list ascends

-- addresses of words, by their indices from one on up to another
abbrev pub Climbs : ℕ → ℕ → List ℕ → Type 0
Climbs n m [] = Unit {0}
Climbs n m (a ∷ places) = (k : ℕ) × (m ≤ k) × (k < n) × (a ≡ place k) × Climbs n (suc k) places

-- no address is in both
abbrev pub Apart : List ℕ → List ℕ → Type 0
Apart xs ys = (a : ℕ) → Has a xs → Has a ys → ⊥

climbs_behind : (n k m x : ℕ) (later : List ℕ → List ℕ) (xs ys : List ℕ) → x ≡ place k → k < n → m ≤ k → ((zs : List ℕ) → Climbs n (suc k) zs → Apart xs zs → Climbs n (suc k) (later zs))
    → Climbs n m ys → Apart (x ∷ xs) ys → Climbs n m (merged_behind x later ys)
climbs_behind n k m x later xs [] e lt le rec h apart = (k, le, lt, e, rec [] tt (λ a p q. q))
climbs_behind n k m x later xs (y ∷ ys) e lt le rec h apart =
    cond_both (ltb x y) _ _ (Climbs n m)
    (λ t. (
    let below = ltb-true x y t in
    let at = h.3 in
    (k, le, lt, e, rec (y ∷ ys) (h.0, omega (arith, below, at, e), h.2, h.3, h.4) (λ a p q. apart a (inr p) q))))
    (λ t. (
    let above = ltb-false x y t in
    let at = h.3 in
    let other : x ≢ y = λ same. apart y (inl same) (inl refl) in
    let before : h.0 < k = ⊎_elim (λ (l : h.0 < k). l) (λ (g : k ≤ h.0). absurd (other (omega (arith, g, above, at, e)))) (cases_lt h.0 k) in
    (h.0, h.1, h.2, h.3, climbs_behind n k (suc h.0) x later xs ys e lt before rec h.4 (λ a p q. apart a p (inr q)))))

pub merged_climbs : (n m : ℕ) (xs ys : List ℕ) → Climbs n m xs → Climbs n m ys → Apart xs ys → Climbs n m (merged xs ys)
unfolding merged
merged_climbs n m [] ys g h apart = h
merged_climbs n m (x ∷ xs) ys g h apart =
    climbs_behind n g.0 m x (merged xs) xs ys g.3 g.2 g.1 (λ zs k p. merged_climbs n (suc g.0) xs zs g.4 k p) h apart
