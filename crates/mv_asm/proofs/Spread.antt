-- Spans of branches, as branches are made long.
use Rattle.std.proofs.Common.{◌≡◌, ℕ, zero, suc, ◌+◌, ◌-◌, ◌<◌, ◌≤◌, List, [], ◌∷◌, length, set, get_or, map, sum, slice_index, All, refl, sym, ◌∙◌, subst, arith, ⊎_elim}
use Rattle.std.proofs.lemmas.List.{length-set}
use Rattle.std.proofs.lemmas.List.Elements.{All-get_or, All-from_get_or}
use Rattle.std.proofs.lemmas.List.Sums.{sum_by-set}
use Rattle.mv_isa.specs.declared.labelled.Line.{Line}
use Rattle.mv_isa.specs.declared.labelled.Line.TheVariants.{Word, Label, Jump, Branch, Entry, Slot, Point}
use Rattle.mv_isa.specs.Code.{line_at, target_index, least_words, greatest_words, IsSizing, SizingFits, Reaches, InReach, offset, place}
use Rattle.mv_asm.specs.declared.spans.Span.{Span}
use Rattle.mv_asm.specs.Sizes.{AreOffsets, IsNoLonger}
use Rattle.mv_asm.proofs.Targets.{target_at, target-le}
use Rattle.mv_asm.specs.Spans.{IsSpan, IsSpanOf, IsNarrowed, AreNarrowed}
use Rattle.mv_asm.proofs.Offsets.{between-le}
use Rattle.mv_asm.proofs.Turns.{at_written, reach_where_shorter}
use Rattle.mv_isa.proofs.Common.{offset-cons}

-- Offsets where an item has a word more.

offset-set_before : (xs : List ℕ) (i v k : ℕ) → k ≤ i → offset (set xs i v) k ≡ offset xs k
offset-set_before [] i v k l = refl
offset-set_before (x ∷ xs) i v zero l = refl
offset-set_before (x ∷ xs) zero v (suc k) l = absurd (omega arith)
offset-set_before (x ∷ xs) (suc i) v (suc k) l =
    let later : offset (set xs i v) k ≡ offset xs k = offset-set_before xs i v k (omega arith) in
    omega (arith, offset-cons x (set xs i v) k, offset-cons x xs k)

offset-set_after : (xs : List ℕ) (i k : ℕ) → i < length xs → slice_index xs i ≡ 1 → i < k → offset (set xs i 2) k ≡ offset xs k + 1
offset-set_after [] i k w one l = absurd (omega arith)
offset-set_after (x ∷ xs) zero zero w one l = absurd (omega arith)
offset-set_after (x ∷ xs) zero (suc k) w one l =
    let first : x ≡ 1 = one in
    omega (arith, offset-cons 2 xs k, offset-cons x xs k)
offset-set_after (x ∷ xs) (suc i) zero w one l = absurd (omega arith)
offset-set_after (x ∷ xs) (suc i) (suc k) w one l =
    let later : offset (set xs i 2) k ≡ offset xs k + 1 = offset-set_after xs i k (omega arith) one (omega arith) in
    omega (arith, offset-cons x (set xs i 2) k, offset-cons x xs k)

no_longer-set : (xs : List ℕ) (i : ℕ) → i < length xs → slice_index xs i ≡ 1 → IsNoLonger xs (set xs i 2)
no_longer-set xs i w one = (sym (length-set xs i 2), at_written (λ k v. slice_index xs k ≤ v) xs i 2 w (omega arith) (λ k. omega arith))

-- Spans.

pub span_is : (lines : List Line) (sizing : List ℕ) (i at to : ℕ) (s : Span) → i < length lines → least_words (line_at lines i) ≡ 1 → greatest_words (line_at lines i) ≡ 2
    → at ≡ offset sizing i → to ≡ offset sizing (target_index lines (line_at lines i)) → IsSpanOf i (target_index lines (line_at lines i)) at to s → IsSpan lines sizing s
span_is lines sizing i at to s w least greatest at_is to_is h =
    let t = target_index lines (line_at lines i) in
    ⊎_elim
    (λ (on : (i < t) × (s ≡ record { item = i; start = i; end = t; room = at + 1024 - to })).
    subst (IsSpan lines sizing) (sym on.1) (record { within = w; least = least; greatest = greatest; ordered = omega (arith, on.0); far = λ other more reach. omega (arith, reach.1) }))
    (λ (back : (t ≤ i) × (s ≡ record { item = i; start = t; end = i; room = to + 1025 - at })).
    subst (IsSpan lines sizing) (sym back.1) (record { within = w; least = least; greatest = greatest; ordered = back.0; far = λ other more reach. omega (arith, reach.0) }))
    h

module _ (lines : List Line) (sizing : List ℕ) (i : ℕ) (w : i < length sizing) (one : slice_index sizing i ≡ 1) where
  span_kept : (s : Span) → IsSpan lines sizing s → IsSpan lines (set sizing i 2) s
  span_kept s h = record {
    within = h.within;
    least = h.least;
    greatest = h.greatest;
    ordered = h.ordered;
    far = λ other more. h.far other (omega (arith, between-le sizing (set sizing i 2) (no_longer-set sizing i w one) s.start s.end h.ordered));
  }

  span_narrowed : (s : Span) → IsSpan lines sizing s → s.start ≤ i → i < s.end → 0 < s.room → IsSpan lines (set sizing i 2) (record s { room = s.room - 1 })
  span_narrowed s h from below room = record {
    within = h.within;
    least = h.least;
    greatest = h.greatest;
    ordered = h.ordered;
    far = λ other more. h.far other (omega (arith, offset-set_after sizing i s.end w one below, offset-set_before sizing i 2 s.start from));
  }

  narrowed_is : (s t : Span) → IsSpan lines sizing s → IsNarrowed i s t → IsSpan lines (set sizing i 2) t
  narrowed_is s t h n =
      ⊎_elim
      (λ (same : t ≡ s). subst (IsSpan lines (set sizing i 2)) (sym same) (span_kept s h))
      (λ (less : (s.start ≤ i) × (i < s.end) × (0 < s.room) × (t ≡ record s { room = s.room - 1 })).
      subst (IsSpan lines (set sizing i 2)) (sym less.3) (span_narrowed s h less.0 less.1 less.2))
      n

  pub narrowed_are : (ss ts : List Span) (d : Span) → length ts ≡ length ss → All (IsSpan lines sizing) ss → AreNarrowed i ss ts → All (IsSpan lines (set sizing i 2)) ts
  narrowed_are ss ts d same all n =
      All-from_get_or (IsSpan lines (set sizing i 2)) ts d (λ k l. narrowed_is (get_or ss k d) (get_or ts k d) (All-get_or (IsSpan lines sizing) ss k d (omega arith) all) (n k d))

-- One more span that was narrowed.

-- Branches that were made long.

reaches_where_short : (line : Line) (at to words : ℕ) → least_words line ≡ 1 → greatest_words line ≡ 2 → Reaches at to words line → words ≡ 1 → InReach at to
reaches_where_short (Word instr) at to words l g r one = absurd (omega arith)
reaches_where_short (Label x) at to words l g r one = absurd (omega arith)
reaches_where_short (Jump rd x) at to words l g r one = absurd (omega arith)
reaches_where_short (Branch funct3 rs1 rs2 x) at to words l g r one = r one
reaches_where_short (Entry rd x) at to words l g r one = absurd (omega arith)
reaches_where_short (Slot x) at to words l g r one = absurd (omega arith)
reaches_where_short (Point a) at to words l g r one = absurd (omega arith)

-- what was made long since a sizing is long in each that fits
pub record Spread (lines : List Line) (start sizing : List ℕ) (spans : List Span) : Type 0 where
  pub sizes : IsSizing lines sizing
  pub needed : (other : List ℕ) → SizingFits lines other → IsNoLonger start other → IsNoLonger sizing other
  pub no_less : sum start ≤ sum sizing
  pub spans_are : All (IsSpan lines sizing) spans

pub spread_more : (lines : List Line) (start sizing : List ℕ) (spans spans' : List Span) (number : ℕ) (s : Span) → Spread lines start sizing spans → number < length spans
    → s ≡ get_or spans number s → s.room ≡ 0 → slice_index sizing s.item ≡ 1 → length spans' ≡ length spans
    → AreNarrowed s.item spans spans' → Spread lines start (set sizing s.item 2) spans'
spread_more lines start sizing spans spans' number s p l read none one same n =
    let h : IsSpan lines sizing s = subst (IsSpan lines sizing) (sym read) (All-get_or (IsSpan lines sizing) spans number s l p.spans_are) in
    let i = s.item in
    let within : i < length sizing = omega (arith, h.within, p.sizes.one_each) in
    record {
      sizes = record {
        one_each = length-set sizing i 2 ∙ p.sizes.one_each;
        at_least = at_written (λ k w. k < length lines → least_words (line_at lines k) ≤ w) sizing i 2 within (λ _. omega (arith, h.least)) p.sizes.at_least;
        at_most = at_written (λ k w. k < length lines → w ≤ greatest_words (line_at lines k)) sizing i 2 within (λ _. omega (arith, h.greatest)) p.sizes.at_most;
      };
      needed = λ other fits shorter.
          let before = p.needed other fits shorter in
          let least : 1 ≤ slice_index other i = omega (arith, fits.sizes.at_least i h.within, h.least) in
          let far : InReach (place sizing i) (place sizing (target_index lines (line_at lines i))) → ⊥ = h.far sizing (omega (arith, none)) in
          let not_one : slice_index other i ≡ 1 → ⊥ =
          λ (e : slice_index other i ≡ 1). far (reach_where_shorter sizing other before i (target_index lines (line_at lines i)) (reaches_where_short (line_at lines i) _ _ _ h.least h.greatest (fits.reaches i h.within) e)) in
          (length-set sizing i 2 ∙ before.0, at_written (λ k w. w ≤ slice_index other k) sizing i 2 within (omega arith) before.1);
      no_less = omega (arith, sum_by-set (λ n. n) sizing i 2 0 within, p.no_less);
      spans_are = narrowed_are lines sizing i within one spans spans' s same p.spans_are n;
    }

-- a span of an item that was read from lists
pub span_read : (lines : List Line) (sizing offsets targets : List ℕ) (i : ℕ) → i < length lines → IsSizing lines sizing → AreOffsets sizing offsets → targets ≡ map (target_index lines) lines
    → (line : Line) → line ≡ line_at lines i → (least_words line ≡ 1) × (greatest_words line ≡ 2)
    → (s : Span) → IsSpanOf i (slice_index targets i) (slice_index offsets i) (slice_index offsets (slice_index targets i)) s → IsSpan lines sizing s
span_read lines sizing offsets targets i w sizes offsets_are targets_are line line_is both s h =
    let index_is = target_at lines targets targets_are i w in
    let le = target-le lines (line_at lines i) in
    let both' = rw line_is at both in
    let at_is : slice_index offsets i ≡ offset sizing i = offsets_are.each i (omega (arith, sizes.one_each)) in
    let to_is : slice_index offsets (target_index lines (line_at lines i)) ≡ offset sizing (target_index lines (line_at lines i)) = offsets_are.each (target_index lines (line_at lines i)) (omega (arith, le, sizes.one_each)) in
    span_is lines sizing i _ _ s w both'.0 both'.1 at_is to_is (rw index_is at h)
