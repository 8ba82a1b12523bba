-- The pairs between two texts are the only list of their differences that ascends.
use Rattle.std.proofs.Common.{◌≡◌, ◌≢◌, ℕ, zero, suc, ◌<◌, ◌≤◌, List, [], ◌∷◌, length, slice_get, get_or, Some, refl, sym, ap, ap₂, ◌∙◌, subst, arith}
use Rattle.std.specs.List.{All, Contains}
use Rattle.std.proofs.lemmas.List.Elements.{All-head, All-tail}
use Rattle.mv_patch.specs.declared.prepared.Pair.{Pair}
use Rattle.mv_patch.specs.Pairs.{place, pair_of, text_start, pairs_between, IsDifference}
use Rattle.mv_patch.proofs.Pairs.{Marches, pairs_march, at_least, difference_has_pair}

module _ (old new : List ℕ) where
  -- each difference from an index on has a pair
  abbrev pub Complete : ℕ → List Pair → Type 0
  Complete m pairs = (k o n : ℕ) → m ≤ k → slice_get old k ≡ Some o → slice_get new k ≡ Some n → o ≢ n → Contains pairs (pair_of (place k) n)

  -- no pair is before the first
  first_least : (m : ℕ) (pair : Pair) (pairs : List Pair) (b n : ℕ) → (h : Marches old new m (pair ∷ pairs)) → Contains (pair ∷ pairs) (pair_of b n) → place h.0 ≤ b
  first_least m pair pairs b n h c =
      let least = at_least old new h.0 c.0 (pair_of b n) (pair ∷ pairs) (h.0, omega arith, h.2, h.3, h.4, h.5, h.6, h.7) c.1 in
      let there : (get_or (pair ∷ pairs) c.0 (pair_of b n)).address ≡ b = ap (λ (p : Pair). p.address) c.2 in
      omega (arith, least, there)

  -- a pair behind the first index is behind the first pair
  behind_first : (m k n : ℕ) (pair : Pair) (pairs : List Pair) → (h : Marches old new m (pair ∷ pairs)) → suc h.0 ≤ k → Contains (pair ∷ pairs) (pair_of (place k) n) → Contains pairs (pair_of (place k) n)
  behind_first m k n pair pairs h later (zero, lt, is) =
      let there : pair.address ≡ place k = ap (λ (p : Pair). p.address) is in
      let at = h.3 in
      absurd (omega (arith, later, there, at))
  behind_first m k n pair pairs h later (suc i, lt, is) = (i, omega (arith, lt), is)

  tail_complete : (m : ℕ) (pair : Pair) (pairs : List Pair) → (h : Marches old new m (pair ∷ pairs)) → Complete m (pair ∷ pairs) → Complete (suc h.0) pairs
  tail_complete m pair pairs h c k o n le e f ne =
      let from = h.1 in
      behind_first m k n pair pairs h le (c k o n (omega (arith, le, from)) e f ne)

  pub unique : (m : ℕ) (ps qs : List Pair) → Marches old new m ps → Marches old new m qs → Complete m ps → Complete m qs → ps ≡ qs
  unique m [] [] h g c d = refl
  unique m [] (q ∷ qs) h g c d = absurd (let lt = (c g.0 g.2 q.word g.1 g.4 g.5 g.6).1 in omega (arith, lt))
  unique m (p ∷ ps) [] h g c d = absurd (let lt = (d h.0 h.2 p.word h.1 h.4 h.5 h.6).1 in omega (arith, lt))
  unique m (p ∷ ps) (q ∷ qs) h g c d =
      let low = first_least m q qs (place h.0) p.word g (d h.0 h.2 p.word h.1 h.4 h.5 h.6) in
      let high = first_least m p ps (place g.0) q.word h (c g.0 g.2 q.word g.1 g.4 g.5 g.6) in
      let same : g.0 ≡ h.0 = omega (arith, low, high) in
      let address : p.address ≡ q.address = h.3 ∙ ap place (sym same) ∙ sym g.3 in
      let there : slice_get new h.0 ≡ Some q.word = ap (slice_get new) (sym same) ∙ g.5 in
      let here : slice_get new h.0 ≡ Some p.word = h.5 in
      let word : p.word ≡ q.word = cc in
      let rest = unique (suc h.0) ps qs h.7 (subst (λ (k : ℕ). Marches old new (suc k) qs) same g.7)
      (tail_complete m p ps h c) (subst (λ (k : ℕ). Complete (suc k) qs) same (tail_complete m q qs g d)) in
      ap₂ (λ (x y : ℕ). pair_of x y ∷ ps) address word ∙ ap (λ (l : List Pair). q ∷ l) rest

  pub pairs_complete : Complete 0 (pairs_between old new)
  pairs_complete k o n le e f ne = difference_has_pair text_start k (place k) o n old new refl e f ne

  to_march : (m : ℕ) (pairs : List Pair) → All (IsDifference old new) pairs
      → ((i j : ℕ) (d : Pair) → i < j → j < length pairs → (get_or pairs i d).address < (get_or pairs j d).address)
      → ((d : Pair) → 0 < length pairs → place m ≤ (get_or pairs 0 d).address) → Marches old new m pairs
  to_march m [] all ascend low = tt
  to_march m (pair ∷ pairs) all ascend low =
      let h = All-head (IsDifference old new) pair pairs all in
      let rest = All-tail (IsDifference old new) pair pairs all in
      let k = h.index in
      let at = h.address in
      let least : place m ≤ pair.address = low pair (omega arith) in (
        k,
        omega (arith, at, least),
        h.word,
        at,
        h.before,
        h.after,
        h.differs,
        to_march (suc k) pairs rest (λ i j d lt below. ascend (suc i) (suc j) d (omega (arith, lt)) (omega (arith, below)))
            (λ d lt. (
            let next : pair.address < (get_or pairs 0 d).address = ascend 0 1 d (omega arith) (omega (arith, lt)) in
            let there = (rest 0 d lt).address in
            omega (arith, next, there, at))),
      )

  pub the_only : (pairs : List Pair) → ((k o n : ℕ) → slice_get old k ≡ Some o → slice_get new k ≡ Some n → o ≢ n → Contains pairs (pair_of (place k) n)) → All (IsDifference old new) pairs
      → ((i j : ℕ) (d : Pair) → i < j → j < length pairs → (get_or pairs i d).address < (get_or pairs j d).address) → pairs ≡ pairs_between old new
  the_only pairs complete all ascend =
      unique 0 pairs (pairs_between old new)
      (to_march 0 pairs all ascend (λ d lt. (let at = (all 0 d lt).address in omega (arith, at))))
      (pairs_march old new) (λ k o n le e f ne. complete k o n e f ne) pairs_complete
