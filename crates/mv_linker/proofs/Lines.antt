-- Where assembled lines stand: each address is of one line.
use Rattle.std.proofs.Common.{◌≡◌, ℕ, suc, ◌+◌, ◌*◌, ◌<◌, ◌≤◌, inl, inr, List, length, take, sum, slice_index, ap, subst, arith}
use Rattle.std.proofs.lemmas.Bool.{cases_lt}
use Rattle.std.proofs.lemmas.List.{take-take}
use Rattle.std.proofs.lemmas.List.Sums.{sum_by-take-le}
use Rattle.mv_isa.specs.declared.labelled.Line.{Line}
use Rattle.mv_isa.specs.declared.labelled.Line.TheVariants.{Word, Slot, Point}
use Rattle.mv_isa.specs.declared.instr.Instr.{Instr}
use Rattle.mv_isa.specs.Code.{IsSizing, line_at, least_words, greatest_words, offset, address}
use Rattle.mv_linker.proofs.Slots.{offset_next}

module _ (base : ℕ) (lines : List Line) (sizing : List ℕ) where
  abbrev at : ℕ → ℕ
  at = address base sizing

  pub at_later : (i j : ℕ) → i ≤ j → at i ≤ at j
  at_later i j le =
      let front : take i (take j sizing) ≡ take i sizing = take-take i j sizing le in
      let part = sum_by-take-le (λ (n : ℕ). n) (take j sizing) i in
      let same = ap sum front in
      let less : offset sizing i ≤ offset sizing j = omega (arith, part, same) in omega (arith, less)

  pub at_next : (k : ℕ) → at (k + 1) ≡ at k + 4 * slice_index sizing k
  at_next k =
      let next : suc k ≡ k + 1 = omega arith in
      let more : offset sizing (k + 1) ≡ offset sizing k + slice_index sizing k = subst (λ i. offset sizing i ≡ offset sizing k + slice_index sizing k) next (offset_next sizing k) in
      omega (arith, more)

  -- an address of the line of an index
  pub record IsOf (k a : ℕ) : Type 0 where
    pub from : at k ≤ a
    pub below : a < at (k + 1)

  pub one_line : (i k a : ℕ) → IsOf i a → IsOf k a → i ≡ k
  one_line i k a h g =
      elim (cases_lt i k) [
        | inl lt ↦ absurd (let le = at_later (i + 1) k (omega (arith, lt)) in omega (arith, le, h.below, g.from))
        | inr ge ↦ elim (cases_lt k i) [
          | inl lt ↦ absurd (let le = at_later (k + 1) i (omega (arith, lt)) in omega (arith, le, g.below, h.from))
          | inr ge' ↦ omega (arith, ge, ge')
        ]
      ]

  module _ (fits : IsSizing lines sizing) (k : ℕ) (below : k < length lines) where
    -- a line with words has the address where it begins
    pub begins : 1 ≤ least_words (line_at lines k) → IsOf k (at k)
    begins some = let least = fits.at_least k below in record { from = omega arith; below = omega (arith, at_next k, least, some) }

    pub word_size : (instr : Instr) → line_at lines k ≡ Word instr → at (k + 1) ≡ at k + 4
    word_size instr e =
        let least : 1 ≤ slice_index sizing k = subst (λ (l : Line). least_words l ≤ slice_index sizing k) e (fits.at_least k below) in
        let most : slice_index sizing k ≤ 1 = subst (λ (l : Line). slice_index sizing k ≤ greatest_words l) e (fits.at_most k below) in
        omega (arith, least, most, at_next k)

    pub slot_size : (f : ℕ) → line_at lines k ≡ Slot f → at (k + 1) ≡ at k + 8
    slot_size f e =
        let least : 2 ≤ slice_index sizing k = subst (λ (l : Line). least_words l ≤ slice_index sizing k) e (fits.at_least k below) in
        let most : slice_index sizing k ≤ 2 = subst (λ (l : Line). slice_index sizing k ≤ greatest_words l) e (fits.at_most k below) in
        omega (arith, least, most, at_next k)

    pub point_size : (a : ℕ) → line_at lines k ≡ Point a → at (k + 1) ≡ at k + 16
    point_size a e =
        let least : 4 ≤ slice_index sizing k = subst (λ (l : Line). least_words l ≤ slice_index sizing k) e (fits.at_least k below) in
        let most : slice_index sizing k ≤ 4 = subst (λ (l : Line). slice_index sizing k ≤ greatest_words l) e (fits.at_most k below) in
        omega (arith, least, most, at_next k)
