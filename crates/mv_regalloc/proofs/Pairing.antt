-- The first of a list that is not behind a position, by the lesser of each two, and these as the list changes.
use Rattle.std.proofs.Common.{arith, ◌≡◌, ℕ, ◌+◌, ◌*◌, ◌/◌, ◌%◌, ◌<◌, ◌≤◌, List, [], ◌∷◌, ◌++◌, length, min, refl, sym, ◌∙◌, ap, subst, ◌⊎◌, inl, inr}
use Rattle.std.specs.Prelude.{slice_index, slice_set}
use Rattle.std.proofs.lemmas.List.{length-set, length-append, get_or-set_other, get_or_append_left}
use Rattle.std.proofs.Math.Seq.{get_or-append_seam}
use Rattle.std.proofs.lemmas.Grind.{get_or-set_at}
use Rattle.std.proofs.lemmas.Bool.{cases_lt, cases_eq}
use Rattle.mv_regalloc.specs.declared.ends.Pairs.{Pairs}
use Rattle.mv_regalloc.specs.declared.ends.Pairs.TheVariants.{Empty, Lesser}
use Rattle.mv_regalloc.specs.Paired.{IsPaired, lesser_of}
use Rattle.mv_regalloc.specs.Tracked.{AreLesser, IsFirstEnded}
use Rattle.mv_regalloc.proofs.Tracking.{past}

-- the two forms of the invariant
pub are_lesser : (ends : List ℕ) (pairs : Pairs) → IsPaired ends pairs → AreLesser ends (lesser_of pairs)
are_lesser ends Empty h = h
are_lesser ends (Lesser p) h = h.1

pub is_paired : (ends : List ℕ) (pairs : Pairs) → 0 < length ends → AreLesser ends (lesser_of pairs) → IsPaired ends pairs
is_paired ends Empty some h = h
is_paired ends (Lesser p) some h = (some, h)

-- the lesser of two
abbrev pub lesser_at : List ℕ → ℕ → ℕ
lesser_at ends k = min (slice_index ends (k * 2)) (slice_index ends (k * 2 + 1))

module _ (ends lesser : List ℕ) (l : AreLesser ends lesser) where
  -- the lesser one of two is no greater than either
  no_greater : (m k : ℕ) → m / 2 ≡ k → k < length lesser → slice_index lesser k ≤ slice_index ends m
  no_greater m k e lt = by (cases_eq m (k * 2))
    where
      item : slice_index lesser k ≡ min (slice_index ends (k * 2)) (slice_index ends (k * 2 + 1))
      item = l.items k lt

      by : (m ≡ k * 2) ⊎ (m ≡ k * 2 → ⊥) → slice_index lesser k ≤ slice_index ends m
      by (inl s) = subst (λ n. slice_index lesser k ≤ slice_index ends n) (sym s) (omega (arith, item))
      by (inr ne) =
          let s : m ≡ k * 2 + 1 = omega (arith, e, ne) in
          subst (λ n. slice_index lesser k ≤ slice_index ends n) (sym s) (omega (arith, item))

  module _ (pair at : ℕ) (h : IsFirstEnded lesser at pair) where
    before : (m : ℕ) → m < pair * 2 → at < slice_index ends m
    before m lt =
        let k : m / 2 < pair = omega (arith, lt) in
        let a = h.others (m / 2) k in
        let b = no_greater m (m / 2) refl (let w = h.within in omega (arith, k, w)) in
        omega (arith, a, b)

    pub first_of_two : slice_index ends (pair * 2) ≤ at → IsFirstEnded ends at (pair * 2)
    first_of_two low = record {
      within = (let a = h.within in let b = l.long in omega (arith, a, b));
      ended = λ _. low;
      others = before;
    }

    pub second_of_two : at < slice_index ends (pair * 2) → IsFirstEnded ends at (pair * 2 + 1)
    second_of_two high = record {
      within = within (cases_lt (pair * 2) (length ends));
      ended = λ lt.
          let k : pair < length lesser = (let b = l.long in omega (arith, b, lt)) in
          let a = h.ended k in
          let b = l.items pair k in
          omega (arith, a, b, high);
      others = λ m lt. others m lt (cases_eq m (pair * 2));
    }
      where
        within : (pair * 2 < length ends) ⊎ (length ends ≤ pair * 2) → pair * 2 + 1 ≤ length ends
        within (inl lt) = omega (arith, lt)
        within (inr le) = let z = past ends (pair * 2) le in absurd (omega (arith, z, high))

        others : (m : ℕ) → m < pair * 2 + 1 → (m ≡ pair * 2) ⊎ (m ≡ pair * 2 → ⊥) → at < slice_index ends m
        others m lt (inl e) = subst (λ n. at < slice_index ends n) (sym e) high
        others m lt (inr ne) = before m (omega (arith, lt, ne))

  -- another position for a number
  module _ (number end least : ℕ) (known : number < length ends) (lesser' : List ℕ) (set : lesser' ≡ slice_set lesser (number / 2) least) where
    abbrev ends' : List ℕ
    ends' = slice_set ends number end

    pub lesser_set : least ≡ min (slice_index ends' (number / 2 * 2)) (slice_index ends' (number / 2 * 2 + 1)) → AreLesser ends' lesser'
    lesser_set value = subst (AreLesser ends') (sym set) record {
      long = length-set lesser (number / 2) least ∙ l.long ∙ ap (λ n. n / 2) (sym (length-set ends number end));
      items = λ k lt. let some : k < length lesser = subst (λ n. k < n) (length-set lesser (number / 2) least) lt in by k some (cases_eq k (number / 2));
    }
      where
        by : (k : ℕ) → k < length lesser → (k ≡ number / 2) ⊎ (k ≡ number / 2 → ⊥) → slice_index (slice_set lesser (number / 2) least) k ≡ lesser_at ends' k
        by k lt (inl e) = get_or-set_at lesser (number / 2) k least 0 e (subst (λ n. n < length lesser) e lt) ∙ value ∙ ap (lesser_at ends') (sym e)
        by k lt (inr ne) =
            get_or-set_other lesser (number / 2) k least 0 ne ∙ l.items k lt ∙
            ap (λ a. min a (slice_index ends (k * 2 + 1))) (sym (get_or-set_other ends number (k * 2) end 0 (λ e. ne (omega (arith, e))))) ∙
            ap (λ b. min (slice_index ends' (k * 2)) b) (sym (get_or-set_other ends number (k * 2 + 1) end 0 (λ e. ne (omega (arith, e)))))

  -- one position more, which may complete a pair
  module _ (end : ℕ) where
    abbrev more : List ℕ
    more = ends ++ end ∷ []

    same_pair : (k : ℕ) → k < length lesser → slice_index lesser k ≡ lesser_at more k
    same_pair k some =
        let c = l.long in
        l.items k some ∙
        ap (λ a. min a (slice_index ends (k * 2 + 1))) (sym (get_or_append_left ends (end ∷ []) 0 (k * 2) (omega (arith, c, some)))) ∙
        ap (λ b. min (slice_index more (k * 2)) b) (sym (get_or_append_left ends (end ∷ []) 0 (k * 2 + 1) (omega (arith, c, some))))

    pub lesser_kept : length ends % 2 ≡ 0 → AreLesser more lesser
    lesser_kept even = record {
      long = (let b = length-append ends (end ∷ []) in let c = l.long in omega (arith, b, c, even));
      items = same_pair;
    }

    pub lesser_push : (last : ℕ) → length ends ≡ last + 1 → last % 2 ≡ 0 → AreLesser more (lesser ++ min (slice_index ends last) end ∷ [])
    lesser_push last next even = record {
      long = (let a = length-append lesser (least ∷ []) in let b = length-append ends (end ∷ []) in let c = l.long in omega (arith, a, b, c, next, even));
      items = λ k lt. by k lt (cases_lt k (length lesser));
    }
      where
        least : ℕ
        least = min (slice_index ends last) end

        at_least : least ≡ lesser_at more (length lesser)
        at_least =
            let c = l.long in
            let first : length lesser * 2 ≡ last = omega (arith, c, next, even) in
            let second : length lesser * 2 + 1 ≡ length ends = omega (arith, first, next) in
            ap (λ a. min a end) (sym (get_or_append_left ends (end ∷ []) 0 last (omega (arith, next))) ∙ ap (slice_index more) (sym first)) ∙
            ap (λ b. min (slice_index more (length lesser * 2)) b) (sym (get_or-append_seam ends end [] 0) ∙ ap (slice_index more) (sym second))

        by : (k : ℕ) → k < length (lesser ++ least ∷ []) → (k < length lesser) ⊎ (length lesser ≤ k) → slice_index (lesser ++ least ∷ []) k ≡ lesser_at more k
        by k lt (inl some) = get_or_append_left lesser (least ∷ []) 0 k some ∙ same_pair k some
        by k lt (inr past) =
            let a = length-append lesser (least ∷ []) in
            let e : k ≡ length lesser = omega (arith, a, lt, past) in
            ap (slice_index (lesser ++ least ∷ [])) e ∙ get_or-append_seam lesser least [] 0 ∙ at_least ∙ ap (lesser_at more) (sym e)
