-- What stores of pairs leave of a text.
use Rattle.std.proofs.Common.{◌≡◌, ◌≢◌, ◌⊎◌, inl, inr, ⊎_elim, ℕ, zero, suc, ◌<◌, List, [], ◌∷◌, length, slice_get, get_or, Some, sym, ap, ap₂, ◌∙◌, subst, arith, length-set}
use Rattle.std.specs.List.{All, Contains}
use Rattle.std.proofs.lemmas.Bool.{cases_eq}
use Rattle.std.proofs.lemmas.List.{get_or-set_same, get_or-set_other}
use Rattle.std.proofs.lemmas.List.Elements.{All-head, All-tail, All-nil, All-cons}
use Rattle.std.proofs.lemmas.Option.{slice_get_within, get_or_from_slice_get}
use Rattle.mv_fetch.specs.Held.{Room, index_of, remember, older_at}
use Rattle.mv_patch.specs.declared.prepared.Pair.{Pair}
use Rattle.mv_patch.specs.Pairs.{pair_of, place}
use Rattle.mv_patch.specs.Stores.{stored, stored_all}
use Rattle.mv_refine_machine.specs.Stores.Stores.{AreTexts}
use Rattle.mv_refine_machine.proofs.OfStores.Places.{index_at}
use Rattle.mv_patch.proofs.Pairs.{Marches, at_least}
use Rattle.mv_num.proofs.Lists.{get_set_same, get_set_other}

-- ---- words of lists

-- ---- one pair

-- what stands at an index: the present word and the older ones
pub record At (room : Room) (k w : ℕ) (older : List ℕ) : Type 0 where
  pub word : slice_get room.held.text k ≡ Some w
  pub olds : older_at room.held.older k ≡ older
  pub listed : k < length room.held.older

stored_same : (room : Room) (pair : Pair) (k w : ℕ) (older : List ℕ) → index_of pair.address ≡ k → At room k w older → At (stored room pair) k pair.word (w ∷ older)
unfolding stored remember
stored_same room pair k w older e h =
    let listed = h.listed in
    let there : get_or room.held.text k 0 ≡ w = get_or_from_slice_get room.held.text k w 0 h.word in
    record {
      word = rw e (get_set_same room.held.text k pair.word w h.word);
      olds = rw e (get_or-set_same room.held.older k (get_or room.held.text k 0 ∷ older_at room.held.older k) [] listed ∙ ap₂ (λ (x : ℕ) (xs : List ℕ). x ∷ xs) there h.olds);
      listed = rw (e, length-set room.held.older k (get_or room.held.text k 0 ∷ older_at room.held.older k)) listed;
    }

stored_other : (room : Room) (pair : Pair) (j k w : ℕ) (older : List ℕ) → index_of pair.address ≡ j → k ≢ j → At room k w older → At (stored room pair) k w older
unfolding stored remember
stored_other room pair j k w older e ne h =
    let listed = h.listed in
    record {
      word = rw e (get_set_other room.held.text j k pair.word ne ∙ h.word);
      olds = rw e (get_or-set_other room.held.older j k (get_or room.held.text j 0 ∷ older_at room.held.older j) [] ne ∙ h.olds);
      listed = rw (e, length-set room.held.older j (get_or room.held.text j 0 ∷ older_at room.held.older j)) listed;
    }

-- ---- all of them

module _ (old new : List ℕ) (texts : AreTexts old new) where
  pub index_is : (pair : Pair) (k o : ℕ) → pair.address ≡ place k → slice_get old k ≡ Some o → index_of pair.address ≡ k
  index_is pair k o e h =
      let lies = texts.lies in
      let within = slice_get_within old k o h in
      ap index_of e ∙ index_at k (omega (arith, lies, within))

  -- a word for which there is no pair
  pub untouched : (m : ℕ) (pairs : List Pair) (room : Room) (k w : ℕ) (older : List ℕ) → Marches old new m pairs → All (λ (pair : Pair). pair.address ≢ place k) pairs → At room k w older → At (stored_all room pairs) k w older
  unfolding stored_all
  untouched m [] room k w older march none h = h
  untouched m (pair ∷ pairs) room k w older march none h =
      let first = All-head (λ (p : Pair). p.address ≢ place k) pair pairs none in
      untouched (suc march.0) pairs (stored room pair) k w older march.7 (All-tail (λ (p : Pair). p.address ≢ place k) pair pairs none)
      (stored_other room pair march.0 k w older (index_is pair march.0 march.2 march.3 march.4) (λ e. first (march.3 ∙ ap place (sym e))) h)

  -- no pair comes back
  pub none_before : (m k : ℕ) (pairs : List Pair) → Marches old new m pairs → k < m → All (λ (pair : Pair). pair.address ≢ place k) pairs
  none_before m k pairs march lt i d below = λ e. (let least = at_least old new m i d pairs march below in omega (arith, least, e, lt))

  -- a word for which there is one
  pub touched : (m : ℕ) (pairs : List Pair) (room : Room) (k w v i : ℕ) (older : List ℕ) (d : Pair) → Marches old new m pairs → i < length pairs
      → (get_or pairs i d) ≡ (pair_of (place k) v) → At room k w older → At (stored_all room pairs) k v (w ∷ older)
  unfolding stored_all
  touched m [] room k w v i older d march lt is h = absurd (omega (arith, lt))
  touched m (pair ∷ pairs) room k w v zero older d march lt is h =
      let address : pair.address ≡ place k = ap (λ (p : Pair). p.address) is in
      let word : pair.word ≡ v = ap (λ (p : Pair). p.word) is in
      let same : march.0 ≡ k = (let e = march.3 in omega (arith, e, address)) in
      let index : index_of pair.address ≡ k = index_is pair march.0 march.2 march.3 march.4 ∙ same in
      subst (λ (x : ℕ). At (stored_all (stored room pair) pairs) k x (w ∷ older)) word
      (untouched (suc march.0) pairs (stored room pair) k pair.word (w ∷ older) march.7 (none_before (suc march.0) k pairs march.7 (omega (arith, same))) (stored_same room pair k w older index h))
  touched m (pair ∷ pairs) room k w v (suc i) older d march lt is h =
      let least = at_least old new (suc march.0) i d pairs march.7 (omega (arith, lt)) in
      let address : (get_or pairs i d).address ≡ place k = ap (λ (p : Pair). p.address) is in
      touched (suc march.0) pairs (stored room pair) k w v i older d march.7 (omega (arith, lt)) is
      (stored_other room pair march.0 k w older (index_is pair march.0 march.2 march.3 march.4) (λ e. omega (arith, least, address, e)) h)

  -- there is one or none
  pub one_or_none : (m : ℕ) (pairs : List Pair) (k : ℕ) → Marches old new m pairs → ((n : ℕ) × Contains pairs (pair_of (place k) n)) ⊎ All (λ (pair : Pair). pair.address ≢ place k) pairs
  one_or_none m [] k march = inr (All-nil (λ (pair : Pair). pair.address ≢ place k))
  one_or_none m (pair ∷ pairs) k march = ⊎_elim
      (λ (e : pair.address ≡ place k). inl (pair.word, (0, omega arith, ap (λ (z : ℕ). pair_of z pair.word) e)))
      (λ (ne : pair.address ≢ place k). ⊎_elim
      (λ (x : (n : ℕ) × Contains pairs (pair_of (place k) n)). inl (x.0, (suc x.1.0, (let lt = x.1.1 in omega (arith, lt)), x.1.2)))
      (λ (none : All (λ (p : Pair). p.address ≢ place k) pairs). inr (All-cons (λ (p : Pair). p.address ≢ place k) pair pairs ne none))
      (one_or_none (suc march.0) pairs k march.7))
      (cases_eq pair.address (place k))

  -- what a pair of them says
  pub at_pair : (m : ℕ) (pairs : List Pair) (k n i : ℕ) (d : Pair) → Marches old new m pairs → i < length pairs → get_or pairs i d ≡ (pair_of (place k) n) → (o : ℕ) × (slice_get old k ≡ Some o) × (slice_get new k ≡ Some n) × (o ≢ n)
  at_pair m [] k n i d march lt is = absurd (omega (arith, lt))
  at_pair m (pair ∷ pairs) k n zero d march lt is =
      let address : pair.address ≡ place k = ap (λ (p : Pair). p.address) is in
      let word : pair.word ≡ n = ap (λ (p : Pair). p.word) is in
      let same : march.0 ≡ k = (let e = march.3 in omega (arith, e, address)) in
      (march.2, ap (slice_get old) (sym same) ∙ march.4, ap (slice_get new) (sym same) ∙ march.5 ∙ ap (λ (x : ℕ). Some x) word, λ e. march.6 (e ∙ sym word))
  at_pair m (pair ∷ pairs) k n (suc i) d march lt is = at_pair (suc march.0) pairs k n i d march.7 (omega (arith, lt)) is
