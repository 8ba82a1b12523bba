-- The scan of a body by its table of spans, step by step.
use Rattle.std.proofs.Common.{arith, ◌≡◌, ℕ, suc, ◌+◌, ◌-◌, ◌<◌, Bool, true, false, cond, eqb, ◌&&◌, ◌||◌, List, [], ◌∷◌, ◌++◌, refl, sym, ap, ◌∙◌, subst}
use Rattle.std.specs.Prelude.{slice_index}
use Rattle.std.proofs.lemmas.Bool.{eq-eqb, ne_eqb}
use Rattle.mv_ir.specs.Live.{mark_at, marks_length}
use Rattle.mv_regalloc.specs.Scan.{Placed, Interval, placed, scan}
use Rattle.mv_regalloc.specs.Intervals.{first_from, last_from, span, beginning, by_first, given}
use Rattle.mv_regalloc.specs.Spanned.{SpanTable, from_first, behind_last, AreSpansOf}
use Rattle.mv_regalloc.specs.Tracked.{Tracks, interval}
use Rattle.mv_regalloc.proofs.Positions.{none_first}
use Rattle.mv_regalloc.proofs.Ranges.{first_last}
use Rattle.mv_regalloc.proofs.Sweep.{scan_append, by_first_more, given_placed}
use Rattle.mv_ast.specs.Names.{any_of}

-- ---- counted from the end

first_sum : (k : ℕ) (xs : List Bool) → any_of xs ≡ true → first_from k xs + from_first xs ≡ k + marks_length xs
first_sum k [] h = let e : false ≡ true = h in absurd cc
first_sum k (true ∷ xs) h = refl
first_sum k (false ∷ xs) h = let e = first_sum (suc k) xs h in omega (arith, e)

last_sum : (k : ℕ) (xs : List Bool) → any_of xs ≡ true → suc (last_from k xs) + behind_last xs ≡ k + marks_length xs
last_sum k [] h = let e : false ≡ true = h in absurd cc
last_sum k (x ∷ xs) h = by x (any_of xs) refl h (last_sum (suc k) xs)
  where
    by : (x a : Bool) → any_of xs ≡ a → (x || a) ≡ true → (any_of xs ≡ true → suc (last_from (suc k) xs) + behind_last xs ≡ suc k + marks_length xs) →
        suc (cond (any_of xs) (last_from (suc k) xs) k) + cond (any_of xs) (behind_last xs) (cond x (marks_length xs) 0) ≡ k + suc (marks_length xs)
    by x true e h again =
        let s = again e in
        let a : cond (any_of xs) (last_from (suc k) xs) k ≡ last_from (suc k) xs = ap (λ c. cond c (last_from (suc k) xs) k) e in
        let b : cond (any_of xs) (behind_last xs) (cond x (marks_length xs) 0) ≡ behind_last xs = ap (λ c. cond c (behind_last xs) (cond x (marks_length xs) 0)) e in
        omega (arith, s, a, b)
    by true false e h again =
        let a : cond (any_of xs) (last_from (suc k) xs) k ≡ k = ap (λ c. cond c (last_from (suc k) xs) k) e in
        let b : cond (any_of xs) (behind_last xs) (marks_length xs) ≡ marks_length xs = ap (λ c. cond c (behind_last xs) (marks_length xs)) e in
        omega (arith, a, b)
    by false false e h again = absurd cc

pub begins_test : (xs : List Bool) (at : ℕ) → at < marks_length xs → from_first xs ≡ marks_length xs - at → (any_of xs && eqb (first_from 0 xs) at) ≡ true
begins_test xs at h e = by (any_of xs) refl
  where
    by : (a : Bool) → any_of xs ≡ a → (any_of xs && eqb (first_from 0 xs) at) ≡ true
    by true k = let s = first_sum 0 xs k in ap (λ c. c && eqb (first_from 0 xs) at) k ∙ eq-eqb (first_from 0 xs) at (omega (arith, s, h, e))
    by false k = let z = none_first xs k in absurd (omega (arith, z, e, h))

pub begins_not : (xs : List Bool) (at : ℕ) → at < marks_length xs → (from_first xs ≡ marks_length xs - at → ⊥) → (any_of xs && eqb (first_from 0 xs) at) ≡ false
begins_not xs at h ne = by (any_of xs) refl
  where
    by : (a : Bool) → any_of xs ≡ a → (any_of xs && eqb (first_from 0 xs) at) ≡ false
    by true k = let s = first_sum 0 xs k in ap (λ c. c && eqb (first_from 0 xs) at) k ∙ ne_eqb (first_from 0 xs) at (λ f. ne (omega (arith, s, h, f)))
    by false k = ap (λ c. c && eqb (first_from 0 xs) at) k

-- ---- one temporary

module _ (marks : ℕ → List Bool) (n : ℕ) (s : SpanTable) (h : AreSpansOf marks n s) where
  end_of : (t : ℕ) → t < n → any_of (marks t) ≡ true → s.positions - slice_index s.ends t ≡ suc (last_from 0 (marks t))
  end_of t l a =
      let p = h.positions t in
      let e = h.ends t l in
      let k = last_sum 0 (marks t) a in
      omega (arith, p, e, k)

  abbrev At : ℕ → ℕ → Interval
  At t first = interval t first (s.positions - slice_index s.ends t - 1)

  pub span_at : (t first : ℕ) → t < n → any_of (marks t) ≡ true → first_from 0 (marks t) ≡ first → At t first ≡ span marks t
  span_at t first l a f =
      let e = end_of t l a in
      let last : s.positions - slice_index s.ends t - 1 ≡ last_from 0 (marks t) = omega (arith, e) in
      ap (λ k. interval t k (s.positions - slice_index s.ends t - 1)) (sym f) ∙ ap (interval t (first_from 0 (marks t))) last

  pub before_end : (t first : ℕ) → t < n → any_of (marks t) ≡ true → first_from 0 (marks t) ≡ first → first < s.positions - slice_index s.ends t
  before_end t first l a f = let e = end_of t l a in let o = first_last 0 (marks t) a in omega (arith, e, o, f)

  -- ---- parameters

  module _ (k : ℕ) (low : k < n) (marked : mark_at (marks k) 0 ≡ true) where
    some_of : (xs : List Bool) → mark_at xs 0 ≡ true → any_of xs ≡ true
    some_of [] m = m
    some_of (x ∷ xs) m = ap (λ c. c || any_of xs) m

    zero_of : (xs : List Bool) → mark_at xs 0 ≡ true → first_from 0 xs ≡ 0
    zero_of [] m = refl
    zero_of (x ∷ xs) m = ap (λ c. cond c 0 (first_from 1 xs)) m

    pub param_before : 0 < s.positions - slice_index s.ends k
    param_before = before_end k 0 low (some_of (marks k) marked) (zero_of (marks k) marked)

    pub param_placed : (ends numbers : List ℕ) → Tracks (placed (given marks k) (At k 0) ∷ given marks k) ends numbers → Tracks (given marks (k + 1)) ends numbers
    param_placed ends numbers t =
        let next : suc k ≡ k + 1 = omega arith in
        subst (λ j. Tracks (given marks j) ends numbers) next
        (subst (λ d. Tracks d ends numbers) (given_placed marks k (zero_of (marks k) marked))
        (subst (λ x. Tracks (placed (given marks k) x ∷ given marks k) ends numbers) (span_at k 0 low (some_of (marks k) marked) (zero_of (marks k) marked)) t))

-- ---- one position

pub position_more : (marks : ℕ → List Bool) (done : List Placed) (ts : List ℕ) (at : ℕ) → scan (scan done (by_first marks ts 0 at)) (beginning marks at ts) ≡ scan done (by_first marks ts 0 (at + 1))
position_more marks done ts at =
    let e : at + 1 ≡ suc at = omega arith in
    let f : 0 + at ≡ at = omega arith in
    sym (scan_append done (by_first marks ts 0 at) (beginning marks at ts)) ∙
    ap (λ k. scan done (by_first marks ts 0 at ++ beginning marks k ts)) (sym f) ∙ ap (scan done) (sym (by_first_more marks ts 0 at)) ∙
    ap (λ k. scan done (by_first marks ts 0 k)) (sym e)
