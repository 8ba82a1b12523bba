-- The temporaries whose intervals begin at a position, listed, and their intervals from the table of spans.
use Rattle.std.proofs.Common.{arith, ◌≡◌, ℕ, zero, suc, ◌+◌, ◌-◌, ◌<◌, ◌≤◌, Bool, true, false, cond, eqb, ◌&&◌, List, [], ◌∷◌, ◌++◌, length, map, take, get_or, refl, sym, ap, ◌∙◌, subst, ◌⊎◌, inl, inr}
use Rattle.std.specs.Prelude.{slice_index, slice_index_or, slice_set, EachIndex}
use Rattle.std.proofs.lemmas.List.{append-nil, map-append, map_more, length-set, get_or-set_same, get_or-set_other}
use Rattle.std.proofs.lemmas.Bool.{cases_eq, eqb-true}
use Rattle.mv_ir.specs.declared.body.Body.{Body}
use Rattle.mv_ir.specs.Live.{marks_length, all_marks}
use Rattle.mv_ir.proofs.Induction.{Each, each_append}
use Rattle.mv_regalloc.specs.Scan.{Interval, Placed, placed, scan}
use Rattle.mv_regalloc.specs.Intervals.{first_from, span, beginning, range}
use Rattle.mv_regalloc.specs.Spanned.{SpanTable, from_first, AreSpansOf}
use Rattle.mv_regalloc.specs.Tracked.{end_of, interval_from, AreFirsts}
use Rattle.mv_regalloc.proofs.Sweep.{scan_append, beginning_more}
use Rattle.mv_regalloc.proofs.Numbering.{begins_test, begins_not, span_at, before_end}
use Rattle.mv_num.proofs.Booleans.{and_right, and_left}
use Rattle.mv_ast.specs.Names.{any_of}

-- ---- a fact on each of some temporaries

each_at : (P : ℕ → Type 0) (xs : List ℕ) (k : ℕ) → Each P xs → k < length xs → P (slice_index xs k)
each_at P [] k h l = absurd (omega (arith, l))
each_at P (x ∷ xs) zero h l = h.0
each_at P (x ∷ xs) (suc k) h l = each_at P xs k h.1 (omega (arith, l))

each_range : (a m n : ℕ) → a + m ≤ n → Each (λ t. t < n) (range a m)
each_range a zero n h = tt
each_range a (suc m) n h = each_append (λ t. t < n) (range a m) ((a + m) ∷ []) (each_range a m n (omega (arith, h))) ((omega (arith, h), tt))

-- ---- at one position

abbrev pub temps_of : List Interval → List ℕ
temps_of = map (λ x. x.temp)

module _ (marks : ℕ → List Bool) (n : ℕ) (s : SpanTable) (h : AreSpansOf marks n s) (at : ℕ) where
  pub record Begins (t : ℕ) : Type 0 where
    pub known : t < n
    pub before : at < end_of s t

  begins_all : (ts : List ℕ) → Each (λ t. t < n) ts → Each Begins (temps_of (beginning marks at ts))
  begins_all [] k = tt
  begins_all (t ∷ ts) k = by (any_of (marks t) && eqb (first_from 0 (marks t)) at) refl (begins_all ts k.1)
    where
      by : (c : Bool) → (any_of (marks t) && eqb (first_from 0 (marks t)) at) ≡ c → Each Begins (temps_of (beginning marks at ts)) → Each Begins (temps_of (cond c (span marks t ∷ beginning marks at ts) (beginning marks at ts)))
      by true e rest = (record { known = k.0; before = before_end marks n s h t at k.0 (and_left _ _ e) (eqb-true (first_from 0 (marks t)) at (and_right (any_of (marks t)) (eqb (first_from 0 (marks t)) at) e)) }, rest)
      by false e rest = rest

  intervals_of : (ts : List ℕ) → Each (λ t. t < n) ts → map (interval_from s at) (temps_of (beginning marks at ts)) ≡ beginning marks at ts
  intervals_of [] k = refl
  intervals_of (t ∷ ts) k = by (any_of (marks t) && eqb (first_from 0 (marks t)) at) refl (intervals_of ts k.1)
    where
      by : (c : Bool) → (any_of (marks t) && eqb (first_from 0 (marks t)) at) ≡ c → map (interval_from s at) (temps_of (beginning marks at ts)) ≡ beginning marks at ts →
          map (interval_from s at) (temps_of (cond c (span marks t ∷ beginning marks at ts) (beginning marks at ts))) ≡ cond c (span marks t ∷ beginning marks at ts) (beginning marks at ts)
      by true e rest =
          ap (λ x. x ∷ map (interval_from s at) (temps_of (beginning marks at ts))) (span_at marks n s h t at k.0 (and_left _ _ e) (eqb-true (first_from 0 (marks t)) at (and_right (any_of (marks t)) (eqb (first_from 0 (marks t)) at) e))) ∙
          ap (λ l. span marks t ∷ l) rest
      by false e rest = rest

  -- of a list that names them
  module _ (a m : ℕ) (low : a + m ≤ n) (temps : List ℕ) (e : temps ≡ temps_of (beginning marks at (range a m))) where
    pub firsts_known : EachIndex temps (λ k. slice_index temps k < n)
    firsts_known = λ k l. (each_at Begins temps k (subst (Each Begins) (sym e) (begins_all (range a m) (each_range a m n low))) l).known

    pub firsts_before : EachIndex temps (λ k. at < end_of s (slice_index temps k))
    firsts_before = λ k l. (each_at Begins temps k (subst (Each Begins) (sym e) (begins_all (range a m) (each_range a m n low))) l).before

    pub firsts_intervals : map (interval_from s at) temps ≡ beginning marks at (range a m)
    firsts_intervals = ap (map (interval_from s at)) e ∙ intervals_of (range a m) (each_range a m n low)

-- one temporary more
pub scan_more : (s : SpanTable) (at : ℕ) (done : List Placed) (temps : List ℕ) (i : ℕ) → i < length temps →
    scan done (map (interval_from s at) (take (i + 1) temps)) ≡ placed (scan done (map (interval_from s at) (take i temps))) (interval_from s at (get_or temps i 0)) ∷ scan done (map (interval_from s at) (take i temps))
scan_more s at done temps i l =
    ap (scan done) (map_more (interval_from s at) temps i 0 l) ∙ scan_append done (map (interval_from s at) (take i temps)) (interval_from s at (get_or temps i 0) ∷ [])

-- ---- the lists of all positions

first_long : (xs : List Bool) → from_first xs ≤ marks_length xs
first_long [] = omega arith
first_long (true ∷ xs) = omega arith
first_long (false ∷ xs) = let k = first_long xs in omega (arith, k)

module _ (b : Body) (s : SpanTable) (h : AreSpansOf (all_marks b) b.temps s) (t : ℕ) (low : b.params ≤ t) (high : t < b.temps) where
  abbrev at_first : ℕ
  at_first = s.positions - slice_index s.begins t

  one_more : (at : ℕ) (ys : List ℕ) → temps_of (beginning (all_marks b) at (t ∷ [])) ≡ ys →
      temps_of (beginning (all_marks b) at (range b.params (t + 1 - b.params))) ≡ temps_of (beginning (all_marks b) at (range b.params (t - b.params))) ++ ys
  one_more at ys e =
      let m : t + 1 - b.params ≡ suc (t - b.params) = omega (arith, low) in
      let f : b.params + (t - b.params) ≡ t = omega (arith, low) in
      ap (λ k. temps_of (beginning (all_marks b) at (range b.params k))) m ∙ ap temps_of (beginning_more (all_marks b) at b.params (t - b.params)) ∙
      map-append (λ x. x.temp) (beginning (all_marks b) at (range b.params (t - b.params))) (beginning (all_marks b) at ((b.params + (t - b.params)) ∷ [])) ∙
      ap (λ k. temps_of (beginning (all_marks b) at (range b.params (t - b.params))) ++ temps_of (beginning (all_marks b) at (k ∷ []))) f ∙ ap (λ l. temps_of (beginning (all_marks b) at (range b.params (t - b.params))) ++ l) e

  here : (at : ℕ) → at < s.positions → slice_index s.begins t ≡ s.positions - at → temps_of (beginning (all_marks b) at (t ∷ [])) ≡ t ∷ []
  here at l e =
      let p = h.positions t in
      let f = h.begins t high in
      ap (λ c. temps_of (cond c (span (all_marks b) t ∷ []) [])) (begins_test (all_marks b t) at (omega (arith, p, l)) (omega (arith, f, p, e)))

  away : (at : ℕ) → at < s.positions → (slice_index s.begins t ≡ s.positions - at → ⊥) → temps_of (beginning (all_marks b) at (t ∷ [])) ≡ []
  away at l ne =
      let p = h.positions t in
      let f = h.begins t high in
      ap (λ c. temps_of (cond c (span (all_marks b) t ∷ []) [])) (begins_not (all_marks b t) at (omega (arith, p, l)) (λ e. ne (omega (arith, f, p, e))))

  pub firsts_kept : (lists : List (List ℕ)) → slice_index s.begins t ≡ 0 → AreFirsts b t s.positions lists → AreFirsts b (t + 1) s.positions lists
  firsts_kept lists z k = record {
    long = k.long;
    items = λ at l. k.items at l ∙ sym (one_more at [] (away at l (λ e. omega (arith, e, z, l))) ∙ append-nil (temps_of (beginning (all_marks b) at (range b.params (t - b.params)))));
  }

  pub firsts_more : (lists : List (List ℕ)) → 0 < slice_index s.begins t → AreFirsts b t s.positions lists → AreFirsts b (t + 1) s.positions (slice_set lists at_first (slice_index_or lists at_first [] ++ t ∷ []))
  firsts_more lists z k = record { long = length-set lists at_first (slice_index_or lists at_first [] ++ t ∷ []) ∙ k.long; items = λ at l. by at l (cases_eq at at_first) }
    where
      by : (at : ℕ) → at < s.positions → (at ≡ at_first) ⊎ (at ≡ at_first → ⊥) →
          slice_index_or (slice_set lists at_first (slice_index_or lists at_first [] ++ t ∷ [])) at [] ≡ temps_of (beginning (all_marks b) at (range b.params (t + 1 - b.params)))
      by at l (inl e) =
          let long = k.long in
          let p = h.positions t in
          let f = h.begins t high in
          let w = first_long (all_marks b t) in
          ap (λ i. slice_index_or (slice_set lists at_first (slice_index_or lists at_first [] ++ t ∷ [])) i []) e ∙
          get_or-set_same lists at_first (slice_index_or lists at_first [] ++ t ∷ []) [] (omega (arith, e, l, long)) ∙ ap (λ i. slice_index_or lists i [] ++ t ∷ []) (sym e) ∙ ap (λ xs. xs ++ t ∷ []) (k.items at l) ∙
          sym (one_more at (t ∷ []) (here at l (omega (arith, e, p, f, w))))
      by at l (inr ne) =
          get_or-set_other lists at_first at (slice_index_or lists at_first [] ++ t ∷ []) [] ne ∙ k.items at l ∙
          sym (one_more at [] (away at l (λ e. ne (omega (arith, e, l)))) ∙ append-nil (temps_of (beginning (all_marks b) at (range b.params (t - b.params)))))
