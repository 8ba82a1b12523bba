-- The spans of a body's temporaries, from its rows.
use Rattle.std.proofs.Common.{arith, ◌≡◌, ℕ, zero, suc, ◌<◌, ◌≤◌, Bool, true, false, cond, eqb, ltb, ◌||◌, List, ◌∷◌, length, map, refl, sym, ap, ◌∙◌, ◌⊎◌, inl, inr}
use Rattle.std.specs.Prelude.{replicate}
use Rattle.std.proofs.lemmas.List.{length-set, length-replicate}
use Rattle.std.proofs.lemmas.Bool.{cases_eq, cases_lt, lt-ltb, le-ltb, eq-eqb, ne_eqb}
use Rattle.mv_ir.specs.declared.body.Body.{Body}
use Rattle.mv_ir.specs.Live.{mark_at, marks_length, live_in_order, marks_in_order, flow, nowhere, live_at_start, all_marks}
use Rattle.mv_regalloc.specs.Rows.{Bits, live_before, rows_in_order, stm_rows, no_sets}
use Rattle.mv_regalloc.specs.Spanned.{SpanTable, column, from_first, behind_last, AreRowSpans, AreSpansOf, with_params}
use Rattle.mv_regalloc.proofs.RowBits.{set_bit}
use Rattle.mv_regalloc.proofs.RowsShow.{ListShows, body_shows, seen_nowhere}
use Rattle.mv_regalloc.proofs.RowsLong.{code_rows_long}
use Rattle.mv_regalloc.proofs.Marks.{code_long}

params_long : (n : ℕ) (bits : Bits) → length (with_params n bits) ≡ length bits
params_long zero bits = refl
params_long (suc n) bits = length-set (with_params n bits) n true ∙ params_long n bits

params_bit : (n : ℕ) (bits : Bits) (t : ℕ) → t < length bits → mark_at (with_params n bits) t ≡ (mark_at bits t || ltb t n)
params_bit zero bits t l = by (mark_at bits t) ∙ ap (λ c. mark_at bits t || c) (sym (le-ltb t 0 (omega arith)))
  where
    by : (c : Bool) → c ≡ (c || false)
    by true = refl
    by false = refl
params_bit (suc n) bits t l =
    let long = params_long n bits in
    set_bit (with_params n bits) n t true (omega (arith, long, l)) ∙ ap (cond (eqb n t) true) (params_bit n bits t l) ∙ by (cases_eq n t) (cases_lt t n)
  where
    or_true : (c : Bool) → true ≡ (c || true)
    or_true true = refl
    or_true false = refl

    by : (n ≡ t) ⊎ (n ≡ t → ⊥) → (t < n) ⊎ (n ≤ t) → cond (eqb n t) true (mark_at bits t || ltb t n) ≡ (mark_at bits t || ltb t (suc n))
    by (inl e) k = ap (λ c. cond c true (mark_at bits t || ltb t n)) (eq-eqb n t e) ∙ or_true (mark_at bits t) ∙ ap (λ c. mark_at bits t || c) (sym (lt-ltb t (suc n) (omega (arith, e))))
    by (inr e) (inl k) =
        ap (λ c. cond c true (mark_at bits t || ltb t n)) (ne_eqb n t e) ∙ ap (λ c. mark_at bits t || c) (lt-ltb t n k ∙ sym (lt-ltb t (suc n) (omega (arith, k))))
    by (inr e) (inr k) =
        ap (λ c. cond c true (mark_at bits t || ltb t n)) (ne_eqb n t e) ∙ ap (λ c. mark_at bits t || c) (le-ltb t n k ∙ sym (le-ltb t (suc n) (far (cases_lt n t))))
      where
        far : (n < t) ⊎ (t ≤ n) → suc n ≤ t
        far (inl h) = h
        far (inr h) = absurd (e (omega (arith, h, k)))

pub clear_at : (n t : ℕ) → mark_at (replicate n false) t ≡ false
clear_at zero t = refl
clear_at (suc n) zero = refl
clear_at (suc n) (suc t) = clear_at n t

module _ (b : Body) where
  abbrev pub none : Bits
  none = replicate b.temps false

  abbrev pub rows : List Bits
  rows = rows_in_order (map stm_rows b.code) (no_sets none)

  abbrev pub first : Bits
  first = with_params b.params (live_before (map stm_rows b.code) (no_sets none))

  shows : ListShows b.temps b.code (no_sets none)
  shows = body_shows b.temps b.code none (length-replicate b.temps false) (clear_at b.temps)

  columns : (t : ℕ) → t < b.temps → column t (first ∷ rows) ≡ all_marks b t
  columns t l =
      let out = seen_nowhere b.temps none t (clear_at b.temps t) in
      let wide = shows.long in
      let live = shows.live t l ∙ ap (live_in_order (map (flow t) b.code)) out in
      let rest = shows.rows t l ∙ ap (marks_in_order (map (flow t) b.code)) out in
      ap (λ c. c ∷ column t rows) (params_bit b.params (live_before (map stm_rows b.code) (no_sets none)) t (omega (arith, wide, l)) ∙ ap (λ c. c || ltb t b.params) live) ∙ ap (λ c. (live_at_start t b.code || ltb t b.params) ∷ c) rest

  rows_all : (t : ℕ) → length (first ∷ rows) ≡ marks_length (all_marks b t)
  rows_all t = ap suc (code_rows_long b.code (no_sets none) ∙ sym (code_long t b.code nowhere))

  -- from what the code has made
  pub body_spans : (s : SpanTable) (n : ℕ) → n ≡ b.temps → AreRowSpans (first ∷ rows) n s → AreSpansOf (all_marks b) b.temps s
  body_spans s n e h = record {
    positions = λ t. h.positions ∙ rows_all t;
    begins_long = h.begins.long ∙ e;
    ends_long = h.ends.long ∙ e;
    begins = λ t l. h.begins.items t (omega (arith, e, l)) ∙ ap from_first (columns t l);
    ends = λ t l. h.ends.items t (omega (arith, e, l)) ∙ ap behind_last (columns t l);
  }
