-- The walk from the newest store into a word back to the one of a number.
use Rattle.std.proofs.Common.{◌≡◌, ◌≢◌, ℕ, ◌+◌, ◌-◌, ◌<◌, ◌≤◌, ◌⊎◌, ⊎_elim, List, length, take, slice_index, sym, ap, ◌∙◌, subst, arith, Some, slice_get}
use Rattle.mv_fetch.specs.View.{olds, item, number_until, LeadsTo, IsLinked}
use Rattle.mv_fetch.specs.declared.log.Older.{Older}
use Rattle.mv_fetch.proofs.Histories.{olds_none}
use Rattle.mv_fetch.proofs.Links.{back, begin}
use Rattle.mv_fetch.proofs.Numbers.{number_is, at_number}

-- from this end the store into word k of that number is reached
pub record Reaches (log : List Older) (k number end : ℕ) : Type 0 where
  pub within : end ≤ length log
  pub last : (q : ℕ) → q + 1 ≡ end → (item log q).index ≡ k
  pub most : number ≤ length (olds k (take end log))

pub reaches_first : (ends : List ℕ) (log : List Older) (k number : ℕ) → IsLinked ends log → k < length ends → number ≤ length (olds k log) → Reaches log k number (slice_index ends k)
reaches_first ends log k number linked lt few =
    let way = linked.newest k lt in
    let words = ap length (begin ends log k linked lt) in
    record { within = way.within; last = way.last; most = omega (arith, few, words) }

-- nothing is reached from the log's begin
pub reaches_none : (log : List Older) (k number end : ℕ) → Reaches log k number end → end ≡ 0 → number ≡ 0
reaches_none log k number end r z =
    let most = r.most in
    let none : length (olds k (take end log)) ≡ 0 = ap (λ (n : ℕ). length (olds k (take n log))) z ∙ ap length (olds_none k) in
    omega (arith, most, none)

module _ (ends : List ℕ) (log : List Older) (k number end : ℕ) (linked : IsLinked ends log) (r : Reaches log k number end) (some : 0 < end) where
  abbrev here : Older
  here = item log (end - 1)

  is_here : here.index ≡ k
  is_here = r.last (end - 1) (omega (arith, some))

  number_here : here.number ≡ length (olds k (take end log))
  number_here =
      let within = r.within in
      let back : end - 1 + 1 ≡ end = omega (arith, some) in
      linked.numbered.number (end - 1) (omega (arith, some, within)) ∙ ap (λ j. length (olds j (take (end - 1 + 1) log))) is_here ∙ ap (λ n. length (olds k (take n log))) back

  -- the word of the store that has the number
  pub found : (pick : ℕ) → pick < length (olds k log) → number ≡ length (olds k log) - pick → here.number ≡ number → slice_get (olds k log) pick ≡ Some here.word
  found pick few is same =
      let at : length (olds k log) - length (olds k (take end log)) ≡ pick = let n = number_here in omega (arith, few, is, same, n) in
      ap (slice_get (olds k log)) (sym at) ∙ at_number k log end some r.within is_here

  -- a step to an earlier store that doesn't pass the number
  pub record Steps (next : ℕ) : Type 0 where
    pub reaches : Reaches log k number next
    pub lower : next < end

  steps_before : here.number ≢ number → Steps here.before
  steps_before other =
      let within = r.within in
      let most = r.most in
      let b = back ends log k end linked some within r.last in
      let lower = b.lower in
      let words = ap length b.words in
      let n = number_here in
      record { reaches = record { within = omega (arith, within, lower); last = b.last; most = omega (arith, other, most, words, n) }; lower = lower }

  steps_farther : number ≤ number_until log here.farther → Steps here.farther
  steps_farther few =
      let within = r.within in
      let way : LeadsTo log (end - 1) k here.farther = subst (λ j. LeadsTo log (end - 1) j here.farther) is_here (linked.numbered.farther (end - 1) (omega (arith, some, within))) in
      let below = way.within in
      let n = number_is log k here.farther linked.numbered (record { within = omega (arith, below, within); last = way.last }) in
      record { reaches = record { within = omega (arith, below, within); last = way.last; most = omega (arith, few, n) }; lower = omega (arith, below, some) }

  pub steps : (next : ℕ) → here.number ≢ number → (next ≡ here.before) ⊎ ((next ≡ here.farther) × (number ≤ number_until log next)) → Steps next
  steps next other = ⊎_elim
      (λ (e : next ≡ here.before). subst (λ n. Steps n) (sym e) (steps_before other))
      (λ (e : (next ≡ here.farther) × (number ≤ number_until log next)). subst (λ n. Steps n) (sym e.0) (steps_farther (subst (λ n. number ≤ number_until log n) e.0 e.1)))
