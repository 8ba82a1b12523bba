-- The pairs of two texts at addresses that ascend and hold each address at which the texts differ.
use Rattle.std.proofs.Common.{◌≡◌, ◌≢◌, inl, inr, ℕ, suc, ◌-◌, ◌/◌, ◌<◌, ◌≤◌, eqb, List, [], ◌∷◌, ◌++◌, length, slice_get, slice_index, Some, sym, ap, ap₂, ◌∙◌, arith}
use Rattle.std.specs.List.{Contains}
use Rattle.std.proofs.lemmas.Bool.{cond_both, eqb-true, eqb-false}
use Rattle.std.proofs.lemmas.Option.{slice_get_within, slice_get-get_or}
use Rattle.mv_patch.specs.declared.prepared.Pair.{Pair}
use Rattle.mv_patch.specs.Pairs.{text_start, place, pair_of, pairs_between}
use Rattle.mv_patch.specs.Tables.{word_of, pairs_at}
use Rattle.mv_patch.proofs.Pairs.{Marches, pairs_march, earlier, behind_one}
use Rattle.mv_patch.proofs.Only.{unique, pairs_complete}
use Rattle.mv_patch.proofs.Merged.{Has, Climbs}

-- the word at the address of an index
pub word_there : (text : List ℕ) (a k : ℕ) → a ≡ place k → k < length text → slice_get text k ≡ Some (word_of text a)
word_there text a k e lt =
    let index : (a - text_start) / 4 ≡ k = omega (arith, e) in
    slice_get-get_or text k 0 lt ∙ ap (λ (i : ℕ). Some (slice_index text i)) (sym index)

module _ (old new : List ℕ) (size : length new ≡ length old) where
  at_march : (m : ℕ) (places : List ℕ) → Climbs (length old) m places → Marches old new m (pairs_at old new places)
  unfolding pairs_at
  at_march m [] h = tt
  at_march m (a ∷ places) h =
      let k : ℕ = h.0 in
      let from = h.1 in
      let lt = h.2 in
      let rest = at_march (suc k) places h.4 in
      cond_both (eqb (word_of old a) (word_of new a)) [] (pair_of a (word_of new a) ∷ []) (λ (ps : List Pair). Marches old new m (ps ++ pairs_at old new places))
      (λ same. earlier old new m (suc k) (pairs_at old new places) (omega (arith, from)) rest)
      (λ differ. (
        k,
        h.1,
        word_of old a,
        h.3,
        word_there old a k h.3 lt,
        word_there new a k h.3 (omega (arith, lt, size)),
        eqb-false (word_of old a) (word_of new a) differ,
        rest,
      ))

  at_has : (places : List ℕ) (k o n : ℕ) → Has (place k) places → slice_get old k ≡ Some o → slice_get new k ≡ Some n → o ≢ n → Contains (pairs_at old new places) (pair_of (place k) n)
  unfolding pairs_at
  at_has [] k o n h e f ne = absurd h
  at_has (a ∷ places) k o n (inl at) e f ne =
      let first : o ≡ word_of old a = (let q = word_there old a k at (slice_get_within old k o e) in cc) in
      let second : n ≡ word_of new a = (let q = word_there new a k at (slice_get_within new k n f) in cc) in
      cond_both (eqb (word_of old a) (word_of new a)) [] (pair_of a (word_of new a) ∷ []) (λ (ps : List Pair). Contains (ps ++ pairs_at old new places) (pair_of (place k) n))
      (λ same. absurd (ne (first ∙ eqb-true (word_of old a) (word_of new a) same ∙ sym second)))
      (λ differ. (0, omega arith, ap₂ pair_of at (sym second)))
  at_has (a ∷ places) k o n (inr h) e f ne =
      let rest = at_has places k o n h e f ne in
      cond_both (eqb (word_of old a) (word_of new a)) [] (pair_of a (word_of new a) ∷ []) (λ (ps : List Pair). Contains (ps ++ pairs_at old new places) (pair_of (place k) n))
      (λ same. rest)
      (λ differ. behind_one (pairs_at old new places) (pair_of (place k) n) (pair_of a (word_of new a)) rest)

  pub at_places : (places : List ℕ) → Climbs (length old) 0 places → ((k o n : ℕ) → slice_get old k ≡ Some o → slice_get new k ≡ Some n → o ≢ n → Has (place k) places) → pairs_at old new places ≡ pairs_between old new
  at_places places climb all =
      unique old new 0 (pairs_at old new places) (pairs_between old new) (at_march 0 places climb) (pairs_march old new)
      (λ k o n le e f ne. at_has places k o n (all k o n e f ne) e f ne) (pairs_complete old new)

pub few_at : (old new places : List ℕ) → length (pairs_at old new places) ≤ length places
unfolding pairs_at
few_at old new [] = omega arith
few_at old new (a ∷ places) =
    let rest = few_at old new places in
    cond_both (eqb (word_of old a) (word_of new a)) [] (pair_of a (word_of new a) ∷ []) (λ (ps : List Pair). length (ps ++ pairs_at old new places) ≤ suc (length places))
    (λ same. omega (arith, rest)) (λ differ. omega (arith, rest))
