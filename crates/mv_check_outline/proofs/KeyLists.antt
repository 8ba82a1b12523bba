-- The keys of a set, and the names that they hold.
use Rattle.std.proofs.Common.{◌≡◌, ◌∙◌, ℕ, ap, ap₂, sym, map, ◌+◌, Bool, true, false, ◌++◌, ◌<◌, length, take, get_or, filter, subst, List, [], ◌∷◌, if◌then◌else◌}
use Rattle.std.specs.declared.vec.Vec.{Vec}
use Rattle.std.specs.declared.alloc.Global.{Global}
use Rattle.std.proofs.lemmas.List.{length-map, map-append, take_more}
use Rattle.std.proofs.lemmas.List.Sums.{fold-append}
use Rattle.std.proofs.lemmas.List.Elements.{filter-append}
use Rattle.std.proofs.Math.ListN.{get_or-map}
use Rattle.mv_check_outline.specs.Names.{is_among, with_name, each_once, names_of}

-- the name of one key more
pub next_kept : (others : List (List ℕ)) (ks : List (Vec ℕ Global)) (i : ℕ) (k : Vec ℕ Global) → i < length ks → k ≡ get_or ks i k →
    each_once (filter (λ n. is_among n others) (take (i + 1) (names_of ks))) ≡
    (if is_among k.items others then with_name (each_once (filter (λ n. is_among n others) (take i (names_of ks)))) k.items
    else each_once (filter (λ n. is_among n others) (take i (names_of ks))))
next_kept others ks i k lt e =
    ap (λ ns. each_once (filter (λ n. is_among n others) ns)) (take_more (names_of ks) i k.items (subst (λ n. i < n) (sym (length-map ks (λ k. k.items))) lt) ∙
    ap (λ n. take i (names_of ks) ++ n ∷ []) (get_or-map (λ k. k.items) ks i k ∙ sym (ap (λ k. k.items) e))) ∙
    (ap each_once (filter-append (λ n. is_among n others) (take i (names_of ks)) (k.items ∷ [])) ∙
    by (is_among k.items others))
  where
    before : List (List ℕ)
    before = filter (λ n. is_among n others) (take i (names_of ks))

    by : (b : Bool) → each_once (before ++ (if b then k.items ∷ [] else [])) ≡ (if b then with_name (each_once before) k.items else each_once before)
    by true = fold-append with_name [] before (k.items ∷ [])
    by false = fold-append with_name [] before []

-- one turn of a loop that keeps the names which stand among others
pub kept_more : (others : List (List ℕ)) (ks : List (Vec ℕ Global)) (i : ℕ) (k : Vec ℕ Global) → i < length ks → k ≡ get_or ks i k →
    (s : List ℕ) → s ≡ k.items → (b : Bool) → b ≡ is_among s others → (old new : List (List ℕ)) →
    old ≡ each_once (filter (λ n. is_among n others) (take i (names_of ks))) →
    (c : Bool) → b ≡ c → new ≡ (if c then with_name old s else old) →
    new ≡ each_once (filter (λ n. is_among n others) (take (i + 1) (names_of ks)))
kept_more others ks i k lt e s es b eb old new eo c ec en =
    en ∙ (ap (λ o. if c then with_name o s else o) eo ∙ (ap (λ n. if c then with_name before n else before) es ∙
    sym (next_kept others ks i k lt e ∙ ap (λ c. if c then with_name before k.items else before) (ap (λ n. is_among n others) (sym es) ∙ (sym eb ∙ ec)))))
  where
    before : List (List ℕ)
    before = each_once (filter (λ n. is_among n others) (take i (names_of ks)))

-- one turn of a loop that finds a number for each name
pub numbered_more : (f : List ℕ → ℕ) (ks : List (Vec ℕ Global)) (i : ℕ) (k : Vec ℕ Global) → i < length ks → k ≡ get_or ks i k →
    (s : List ℕ) → s ≡ k.items → (old new : List ℕ) → old ≡ map f (take i (names_of ks)) → (n : ℕ) → n ≡ f s → new ≡ old ++ n ∷ [] →
    new ≡ map f (take (i + 1) (names_of ks))
numbered_more f ks i k lt e s es old new eo n en more =
    more ∙
    (ap₂ (λ o m. o ++ m ∷ []) eo (en ∙ ap f es) ∙
    sym (ap (map f) (take_more (names_of ks) i k.items (subst (λ n. i < n) (sym (length-map ks (λ k. k.items))) lt) ∙
    ap (λ n. take i (names_of ks) ++ n ∷ []) (get_or-map (λ k. k.items) ks i k ∙ sym (ap (λ k. k.items) e))) ∙
    map-append f (take i (names_of ks)) (k.items ∷ [])))
