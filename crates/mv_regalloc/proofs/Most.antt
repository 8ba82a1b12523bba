-- The scan uses as many numbers as the greatest number of a body's intervals over one position.
use Rattle.std.proofs.Common.{arith, ◌≡◌, ℕ, zero, suc, ◌+◌, ◌-◌, ◌<◌, ◌≤◌, Bool, true, false, cond, not, eqb, ltb, ◌&&◌, ◌||◌, List, [], ◌∷◌, ◌++◌, map, refl, sym, ap, ◌∙◌, ◌⊎◌, inl, inr, append_assoc, append-nil}
use Rattle.std.proofs.lemmas.Bool.{cases_lt, cases_eq, lt-ltb, le-ltb, eq-eqb, ne_eqb, or_right}
use Rattle.mv_num.specs.Words.{as_word}
use Rattle.mv_ir.specs.declared.body.Body.{Body}
use Rattle.mv_ir.specs.Live.{mark_at, filled, marks_length, live_at_start, marks_in_order, flow, nowhere, all_marks, interval, count_at, below, most_intervals, HasTemps}
use Rattle.mv_ir.proofs.Keeping.{map_append}
use Rattle.mv_ir.proofs.Joining.{greatest_most, greatest_within}
use Rattle.mv_regalloc.specs.Scan.{Interval, used, holds, over}
use Rattle.mv_regalloc.specs.Intervals.{first_from, last_from, span, beginning, by_first, range, given, allotted, others, positions}
use Rattle.mv_regalloc.proofs.Apart.{AllApart, scan_apart}
use Rattle.mv_regalloc.proofs.Counted.{held, scan_held, scan_used, held_used, Begun}
use Rattle.mv_regalloc.proofs.Marks.{code_long}
use Rattle.mv_regalloc.proofs.Ranges.{first_below, interval_at}
use Rattle.mv_regalloc.proofs.Stands.{by_first_order, given_apart, given_used}
use Rattle.mv_ast.specs.Names.{any_of}

over_append : (at : ℕ) (xs ys : List Interval) → over at (xs ++ ys) ≡ over at xs + over at ys
over_append at [] ys = omega arith
over_append at (x ∷ xs) ys = let e = over_append at xs ys in omega (arith, e)

module _ (marks : ℕ → List Bool) (i : ℕ) where
  -- ---- one temporary after the other

  abbrev one : Bool → ℕ → ℕ
  one c t = cond c (cond (holds (span marks t) i) 1 0) 0

  begin_count : (at t : ℕ) (ts : List ℕ) → over i (beginning marks at (t ∷ ts)) ≡ one (any_of (marks t) && eqb (first_from 0 (marks t)) at) t + over i (beginning marks at ts)
  begin_count at t ts = by (any_of (marks t) && eqb (first_from 0 (marks t)) at)
    where
      by : (c : Bool) → over i (cond c (span marks t ∷ beginning marks at ts) (beginning marks at ts)) ≡ one c t + over i (beginning marks at ts)
      by true = refl
      by false = omega arith

  -- how much one temporary adds
  abbrev adds : ℕ → ℕ → ℕ → ℕ
  adds t at zero = 0
  adds t at (suc steps) = one (any_of (marks t) && eqb (first_from 0 (marks t)) at) t + adds t (suc at) steps

  first_count : (t : ℕ) (ts : List ℕ) (at steps : ℕ) → over i (by_first marks (t ∷ ts) at steps) ≡ adds t at steps + over i (by_first marks ts at steps)
  first_count t ts at zero = omega arith
  first_count t ts at (suc steps) =
      let a = over_append i (beginning marks at (t ∷ ts)) (by_first marks (t ∷ ts) (suc at) steps) in
      let b = over_append i (beginning marks at ts) (by_first marks ts (suc at) steps) in
      let c = begin_count at t ts in
      let d = first_count t ts (suc at) steps in
      omega (arith, a, b, c, d)

  -- nothing where it has begun before, or never
  adds_none : (t at steps : ℕ) → (any_of (marks t) ≡ true → first_from 0 (marks t) < at) → adds t at steps ≡ 0
  adds_none t at zero h = refl
  adds_none t at (suc steps) h =
      let a = adds_none t (suc at) steps (λ e. let l = h e in omega (arith, l)) in
      let b = by (any_of (marks t)) refl in
      omega (arith, a, b)
    where
      by : (c : Bool) → any_of (marks t) ≡ c → one (c && eqb (first_from 0 (marks t)) at) t ≡ 0
      by false e = refl
      by true e = let l = h e in ap (λ d. one d t) (ne_eqb (first_from 0 (marks t)) at (λ s. omega (arith, s, l)))

  adds_one : (t at steps : ℕ) → any_of (marks t) ≡ true → at ≤ first_from 0 (marks t) → first_from 0 (marks t) < at + steps → adds t at steps ≡ cond (holds (span marks t) i) 1 0
  adds_one t at zero e l h = absurd (omega (arith, l, h))
  adds_one t at (suc steps) e l h = by (cases_eq (first_from 0 (marks t)) at) (λ k. adds_one t (suc at) steps e k (omega (arith, h)))
    where
      by : (first_from 0 (marks t) ≡ at) ⊎ (first_from 0 (marks t) ≡ at → ⊥) → (suc at ≤ first_from 0 (marks t) → adds t (suc at) steps ≡ cond (holds (span marks t) i) 1 0) → adds t at (suc steps) ≡ cond (holds (span marks t) i) 1 0
      by (inl s) r =
          let a = adds_none t (suc at) steps (λ x. omega (arith, s)) in
          let b = ap (λ d. one (d && eqb (first_from 0 (marks t)) at) t) e ∙ ap (λ d. one d t) (eq-eqb (first_from 0 (marks t)) at s) in
          omega (arith, a, b)
      by (inr s) r =
          let a = r (from (cases_lt at (first_from 0 (marks t)))) in
          let b = ap (λ d. one (d && eqb (first_from 0 (marks t)) at) t) e ∙ ap (λ d. one d t) (ne_eqb (first_from 0 (marks t)) at s) in
          omega (arith, a, b)
        where
          from : (at < first_from 0 (marks t)) ⊎ (first_from 0 (marks t) ≤ at) → suc at ≤ first_from 0 (marks t)
          from (inl k) = k
          from (inr k) = absurd (s (omega (arith, k, l)))

  abbrev filled_marks : ℕ → List Bool
  filled_marks t = filled false (marks t)

  count_both : (xss yss : List (List Bool)) → count_at i (xss ++ yss) ≡ count_at i xss + count_at i yss
  count_both [] yss = omega arith
  count_both (xs ∷ xss) yss = let e = count_both xss yss in omega (arith, e)

  adds_all : (long t : ℕ) → marks_length (marks t) ≡ long → cond (mark_at (filled_marks t) i) 1 0 ≡ adds t 0 long
  adds_all long t e = ap (λ c. cond c 1 0) (interval_at marks t i) ∙ by (any_of (marks t)) refl
    where
      by : (c : Bool) → any_of (marks t) ≡ c → cond (c && holds (span marks t) i) 1 0 ≡ adds t 0 long
      by true h = let l = first_below 0 (marks t) h in sym (adds_one t 0 long h (omega arith) (omega (arith, l, e)))
      by false h = sym (adds_none t 0 long (λ k. let x : false ≡ true = sym h ∙ k in absurd cc))

  others_count : (long : ℕ) (ts : List ℕ) → ((t : ℕ) → marks_length (marks t) ≡ long) → count_at i (map filled_marks ts) ≡ over i (by_first marks ts 0 long)
  others_count long [] e = sym (none 0 long)
    where
      none : (at steps : ℕ) → over i (by_first marks [] at steps) ≡ 0
      none at zero = refl
      none at (suc steps) = none (suc at) steps
  others_count long (t ∷ ts) e =
      let a = adds_all long t (e t) in
      let b = others_count long ts e in
      let d = first_count t ts 0 long in
      omega (arith, a, b, d)

  given_count : (n : ℕ) → ((t : ℕ) → t < n → any_of (marks t) ≡ true) → count_at i (map filled_marks (below n)) ≡ held i (given marks n)
  given_count zero h = refl
  given_count (suc n) h =
      let a = given_count n (λ t l. h t (omega (arith, l))) in
      let b = ap (count_at i) (map_append filled_marks (below n) (n ∷ [])) ∙ count_both (map filled_marks (below n)) (filled_marks n ∷ []) in
      let d : as_word (mark_at (filled_marks n) i) ≡ as_word (holds (span marks n) i) = ap as_word (interval_at marks n i) ∙ ap (λ c. as_word (c && holds (span marks n) i)) (h n (omega arith)) in
      omega (arith, a, b, d)

  below_range : (a n : ℕ) → below (a + n) ≡ below a ++ range a n
  below_range a zero = let e : a + 0 ≡ a = omega arith in ap below e ∙ sym (append-nil (below a))
  below_range a (suc n) =
      let e : a + suc n ≡ suc (a + n) = omega arith in
      ap below e ∙ ap (λ l. l ++ (a + n) ∷ []) (below_range a n) ∙ append_assoc (below a) (range a n) ((a + n) ∷ [])

  pub whole_count : (long p n : ℕ) → ((t : ℕ) → marks_length (marks t) ≡ long) → ((t : ℕ) → t < p → any_of (marks t) ≡ true) →
      count_at i (map filled_marks (below (p + n))) ≡ over i (by_first marks (range p n) 0 long) + held i (given marks p)
  whole_count long p n e h =
      let a = ap (λ l. count_at i (map filled_marks l)) (below_range p n) ∙ ap (count_at i) (map_append filled_marks (below p) (range p n)) ∙ count_both (map filled_marks (below p)) (map filled_marks (range p n)) in
      let b = given_count p h in
      let d = others_count long (range p n) e in
      omega (arith, a, b, d)

-- ---- past the end

filled_length : (begun : Bool) (xs : List Bool) → marks_length (filled begun xs) ≡ marks_length xs
filled_length begun [] = refl
filled_length begun (x ∷ xs) = ap suc (filled_length (begun || x) xs)

mark_past : (xs : List Bool) (i : ℕ) → marks_length xs ≤ i → mark_at xs i ≡ false
mark_past [] i h = refl
mark_past (x ∷ xs) zero h = absurd (omega (arith, h))
mark_past (x ∷ xs) (suc i) h = mark_past xs i (omega (arith, h))

past_count : (f : ℕ → List Bool) (i : ℕ) (ts : List ℕ) → ((t : ℕ) → marks_length (f t) ≤ i) → count_at i (map f ts) ≡ 0
past_count f i [] h = refl
past_count f i (t ∷ ts) h =
    let a : as_word (mark_at (f t) i) ≡ 0 = ap as_word (mark_past (f t) i (h t)) in
    let b = past_count f i ts h in
    omega (arith, a, b)

-- ---- a body

module _ (b : Body) (has : HasTemps b) where
  abbrev marks : ℕ → List Bool
  marks = all_marks b

  pub same_long : (t : ℕ) → marks_length (marks t) ≡ positions b
  same_long t = ap suc (code_long t b.code nowhere ∙ sym (code_long 0 b.code nowhere))

  pub param_marked : (t : ℕ) → t < b.params → mark_at (marks t) 0 ≡ true
  param_marked t h = or_right (live_at_start t b.code) (ltb t b.params) (lt-ltb t b.params h)

  any_param : (t : ℕ) → t < b.params → any_of (marks t) ≡ true
  any_param t h = ap (λ c. c || any_of (marks_in_order (map (flow t) b.code) nowhere)) (param_marked t h)

  pub enough_temps : b.params ≤ b.temps
  enough_temps = by (cases_lt b.temps b.params)
    where
      by : (b.temps < b.params) ⊎ (b.params ≤ b.temps) → b.params ≤ b.temps
      by (inl l) = let a = has 0 b.temps (param_marked b.temps l) in absurd (omega (arith, a))
      by (inr l) = l

  abbrev counted : ℕ → ℕ
  counted i = count_at i (map (interval b) (below b.temps))

  pub count_is : (i : ℕ) → counted i ≡ over i (others b) + held i (given marks b.params)
  count_is i =
      let le = enough_temps in
      let e : b.temps ≡ b.params + (b.temps - b.params) = omega (arith, le) in
      ap (λ n. count_at i (map (interval b) (below n))) e ∙ whole_count marks i (positions b) b.params (b.temps - b.params) same_long any_param

  -- all parameters hold the start
  first_zero : (t : ℕ) → t < b.params → first_from 0 (marks t) ≡ 0
  first_zero t h = ap (λ c. cond c 0 (first_from 1 (marks_in_order (map (flow t) b.code) nowhere))) (param_marked t h)

  holds_start : (t : ℕ) → t < b.params → holds (span marks t) 0 ≡ true
  holds_start t h = ap (λ c. not c && not (ltb (last_from 0 (marks t)) 0)) (le-ltb 0 (first_from 0 (marks t)) (let e = first_zero t h in omega (arith, e))) ∙ ap not (le-ltb (last_from 0 (marks t)) 0 (omega arith))

  held_params : (n : ℕ) → n ≤ b.params → held 0 (given marks n) ≡ n
  held_params zero h = refl
  held_params (suc n) h =
      let a = held_params n (omega (arith, h)) in
      let e : as_word (holds (span marks n) 0) ≡ 1 = ap as_word (holds_start n h) in
      omega (arith, a, e)

  pub begun_params : (n : ℕ) → n ≤ b.params → Begun 0 (given marks n)
  begun_params zero h = tt
  begun_params (suc n) h = let e = first_zero n h in ((omega (arith, e)), begun_params n (omega (arith, h)))

  bounded : (i : ℕ) → counted i ≤ most_intervals b
  bounded i = by (cases_lt i (positions b))
    where
      by : (i < positions b) ⊎ (positions b ≤ i) → counted i ≤ most_intervals b
      by (inl l) = greatest_most (positions b) counted i l
      by (inr l) = let e = past_count (interval b) i (below b.temps) (λ t. let x = filled_length false (marks t) in let y = same_long t in omega (arith, x, y, l)) in omega (arith, e)

  pub scan_all_apart : AllApart (allotted b)
  scan_all_apart = scan_apart (given marks b.params) (others b) (given_apart marks b.params)

  pub uses_most : used (allotted b) ≡ most_intervals b
  uses_most =
      let params_fit : used (given marks b.params) ≤ most_intervals b =
      (let x = given_used marks b.params in let y = held_params b.params (omega arith) in let z = count_is 0 in let w = bounded 0 in omega (arith, x, y, z, w)) in
      let few = scan_used (most_intervals b) 0 (given marks b.params) (others b)
      (by_first_order marks (range b.params (b.temps - b.params)) 0 (positions b)) (begun_params b.params (omega arith)) params_fit
      (λ k. let z = count_is k in let w = bounded k in omega (arith, z, w)) in
      let many = greatest_within (positions b) counted (used (allotted b)) (λ i lt. let z = count_is i in let h = scan_held i (given marks b.params) (others b) in let u = held_used i (allotted b) scan_all_apart in omega (arith, z, h, u)) in
      omega (arith, few, many)
