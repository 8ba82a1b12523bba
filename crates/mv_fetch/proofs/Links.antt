-- The ways through the log of stores.
use Rattle.std.proofs.Common.{◌≡◌, ◌≢◌, ℕ, ◌+◌, ◌-◌, ◌<◌, ◌≤◌, ⊎_elim, List, [], ◌∷◌, ◌++◌, length, replicate, take, slice_index, slice_set, refl, sym, ap, ◌∙◌, subst, arith, length-append, length-set}
use Rattle.std.proofs.lemmas.List.{get_or-set_same, get_or-set_other, get_or_append_left, get_or_at, take-append-le, get_or_past, take_all, get_or-replicate, length-replicate}
use Rattle.std.proofs.lemmas.Bool.{cases_eq, cases_lt}
use Rattle.mv_fetch.specs.View.{olds, item, number_until, EndsAt, LeadsTo, IsLinked}
use Rattle.mv_fetch.specs.declared.log.Older.{Older}
use Rattle.mv_fetch.proofs.Histories.{olds_none, step_same, step_other}
use Rattle.mv_fetch.proofs.Numbers.{numbered_first, numbered_push, number_is}

-- a way is not changed by later stores
kept : (log more : List Older) (count k end : ℕ) → count ≤ length log → EndsAt log count k end → EndsAt (log ++ more) count k end
kept log more count k end le h = let within = h.within in record {
  within = within;
  all = ap (λ l. olds k l) (take-append-le end log more (omega (arith, le, within))) ∙ h.all ∙ ap (λ l. olds k l) (sym (take-append-le count log more le));
  last = λ q e. ap (λ (o : Older). o.index) (get_or_append_left log more _ q (omega (arith, e, le, within))) ∙ h.last q e;
}

module _ (ends : List ℕ) (log : List Older) (e : Older) (old : IsLinked ends log) (lt : e.index < length ends)
    (before : e.before ≡ slice_index ends e.index) (number : e.number ≡ length (olds e.index log) + 1)
    (farther : LeadsTo log (length log) e.index e.farther) where
  abbrev after : List Older
  after = log ++ e ∷ []

  new : item after (length log) ≡ e
  new = get_or_at log e [] _ (length log) refl

  len : length after ≡ length log + 1
  len = omega (arith, length-append log (e ∷ []))

  -- the way of the word that was stored
  same : EndsAt after (length log + 1) e.index (length log + 1)
  same = record { within = omega arith; all = refl; last = λ q d. let at : q ≡ length log = omega (arith, d) in ap (λ (n : ℕ). (item after n).index) at ∙ ap (λ (o : Older). o.index) new }

  -- that of another one
  other : (k : ℕ) → k < length ends → e.index ≢ k → EndsAt after (length log + 1) k (slice_index ends k)
  other k below ne =
      let h = kept log (e ∷ []) (length log) k (slice_index ends k) (omega arith) (old.newest k below) in
      let within = h.within in record {
        within = omega (arith, within);
        all = h.all ∙ sym (step_other k after (length log) (length log + 1) refl (omega (arith, len)) (λ d. ne (sym (ap (λ (o : Older). o.index) new) ∙ d)));
        last = h.last;
      }

  newest_at : (k : ℕ) → k < length ends → EndsAt after (length log + 1) k (slice_index (slice_set ends e.index (length log + 1)) k)
  newest_at k below = ⊎_elim
      (λ (d : e.index ≡ k). subst (λ j. EndsAt after (length log + 1) j (slice_index (slice_set ends e.index (length log + 1)) j)) d
      (subst (λ n. EndsAt after (length log + 1) e.index n) (sym (get_or-set_same ends e.index (length log + 1) 0 lt)) same))
      (λ (d : e.index ≢ k). subst (λ n. EndsAt after (length log + 1) k n) (sym (get_or-set_other ends e.index k (length log + 1) 0 (λ x. d (sym x)))) (other k below d))
      (cases_eq e.index k)

  item_at : (q : ℕ) → q < length log → item after q ≡ item log q
  item_at q below = get_or_append_left log (e ∷ []) _ q below

  abbrev Earlier : List Older → (q : ℕ) → Older → Type 0
  Earlier l q o = (o.index < length ends) × EndsAt l q o.index o.before

  earlier_at : (q : ℕ) → q < length log + 1 → Earlier after q (item after q)
  earlier_at q below = ⊎_elim
      (λ (h : q < length log).
      let was = old.earlier q h in
      subst (λ (o : Older). Earlier after q o) (sym (item_at q h)) (was.0, kept log (e ∷ []) q (item log q).index (item log q).before (omega (arith, h)) was.1))
      (λ (h : length log ≤ q).
      let at : q ≡ length log = omega (arith, h, below) in
      let way : EndsAt after (length log) e.index e.before = subst (λ n. EndsAt after (length log) e.index n) (sym before) (kept log (e ∷ []) (length log) e.index (slice_index ends e.index) (omega arith) (old.newest e.index lt)) in
      subst (λ n. Earlier after n (item after n)) (sym at) (subst (λ (o : Older). Earlier after (length log) o) (sym new) (lt, way)))
      (cases_lt q (length log))

  -- one more store
  pub linked_push : IsLinked (slice_set ends e.index (length log + 1)) after
  linked_push =
      let words = length-set ends e.index (length log + 1) in record {
        newest = λ k below. subst (λ n. EndsAt after n k (slice_index (slice_set ends e.index (length log + 1)) k)) (sym len) (newest_at k (omega (arith, below, words)));
        earlier = λ q below. let h = earlier_at q (omega (arith, below, len)) in (omega (arith, h.0, words), h.1);
        numbered = numbered_push log e old.numbered number farther;
      }

-- a word has older words exactly where it has an end
pub ends_none : (log : List Older) (k end : ℕ) → EndsAt log (length log) k end → end ≡ 0 → length (olds k log) ≡ 0
ends_none log k end h z =
    let whole = take_all (length log) log (omega arith) in
    ap length (ap (λ l. olds k l) (sym whole) ∙ sym h.all ∙ ap (λ n. olds k (take n log)) z ∙ olds_none k)

pub ends_some : (log : List Older) (k end : ℕ) → EndsAt log (length log) k end → 0 < end → 0 < length (olds k log)
ends_some log k end h some =
    let within = h.within in
    let whole = take_all (length log) log (omega arith) in
    let first = step_same k log (end - 1) end (omega (arith, some)) (omega (arith, some, within)) (h.last (end - 1) (omega (arith, some))) in
    let len = ap length (sym first ∙ h.all ∙ ap (λ l. olds k l) whole) in
    omega (arith, len)

-- from a store into a word to the one before it
pub record Back (log : List Older) (k end : ℕ) (e : Older) : Type 0 where
  pub lower : e.before < end
  pub words : olds k (take end log) ≡ e.word ∷ olds k (take e.before log)
  pub last : (q : ℕ) → q + 1 ≡ e.before → (item log q).index ≡ k

pub back : (ends : List ℕ) (log : List Older) (k end : ℕ) → IsLinked ends log → 0 < end → end ≤ length log → ((q : ℕ) → q + 1 ≡ end → (item log q).index ≡ k) → Back log k end (item log (end - 1))
back ends log k end linked some within last =
    let e = item log (end - 1) in
    let here : e.index ≡ k = last (end - 1) (omega (arith, some)) in
    let way : EndsAt log (end - 1) k e.before = subst (λ j. EndsAt log (end - 1) j e.before) here (linked.earlier (end - 1) (omega (arith, some, within))).1 in
    let lower = way.within in record {
      lower = omega (arith, lower, some);
      words = step_same k log (end - 1) end (omega (arith, some)) (omega (arith, some, within)) here ∙ ap (λ xs. e.word ∷ xs) (sym way.all);
      last = way.last;
    }

-- an empty log has no ends
pub no_end : (ends : List ℕ) (log : List Older) (k : ℕ) → IsLinked ends log → length log ≡ 0 → slice_index ends k ≡ 0
no_end ends log k linked none = ⊎_elim
    (λ (lt : k < length ends). let h = linked.newest k lt in let within = h.within in omega (arith, within, none))
    (λ (past : length ends ≤ k). get_or_past ends k 0 past)
    (cases_lt k (length ends))

-- where a walk begins
pub begin : (ends : List ℕ) (log : List Older) (k : ℕ) → IsLinked ends log → k < length ends → olds k (take (slice_index ends k) log) ≡ olds k log
begin ends log k linked lt = (linked.newest k lt).all ∙ ap (λ l. olds k l) (take_all (length log) log (omega arith))

-- the ends of these stores are forgotten
abbrev pub Forgotten : List Older → (count : ℕ) → List ℕ → Type 0
Forgotten log count ends = (k q : ℕ) → q + 1 ≡ slice_index ends k → (count ≤ q) × (q < length log) × ((item log q).index ≡ k)

pub forgotten_none : (ends : List ℕ) (log : List Older) → IsLinked ends log → Forgotten log 0 ends
forgotten_none ends log linked k q e = ⊎_elim
    (λ (lt : k < length ends). let h = linked.newest k lt in let within = h.within in (omega arith, omega (arith, e, within), h.last q e))
    (λ (past : length ends ≤ k). absurd (omega (arith, e, get_or_past ends k 0 past)))
    (cases_lt k (length ends))

pub forgotten_more : (ends : List ℕ) (log : List Older) (i : ℕ) → Forgotten log i ends → (item log i).index < length ends → Forgotten log (i + 1) (slice_set ends (item log i).index 0)
forgotten_more ends log i h lt k q e = ⊎_elim
    (λ (d : (item log i).index ≡ k).
    let none : slice_index (slice_set ends (item log i).index 0) k ≡ 0 = ap (λ j. slice_index (slice_set ends (item log i).index 0) j) (sym d) ∙ get_or-set_same ends (item log i).index 0 0 lt in
    absurd (omega (arith, e, none)))
    (λ (d : (item log i).index ≢ k).
    let was = h k q (e ∙ get_or-set_other ends (item log i).index k 0 0 (λ x. d (sym x))) in
    let later : q ≢ i = λ at. d (ap (λ (n : ℕ). (item log n).index) (sym at) ∙ was.2) in
    let from = was.0 in
    (omega (arith, from, later), was.1, was.2))
    (cases_eq (item log i).index k)

pub all_forgotten : (ends : List ℕ) (log : List Older) → Forgotten log (length log) ends → (k : ℕ) → slice_index ends k ≡ 0
all_forgotten ends log h k = ⊎_elim
    (λ (some : 0 < slice_index ends k). let f = h k (slice_index ends k - 1) (omega (arith, some)) in let from = f.0 in let to = f.1 in absurd (omega (arith, from, to)))
    (λ (none : slice_index ends k ≤ 0). omega (arith, none))
    (cases_lt 0 (slice_index ends k))

-- at first no word has a store
pub linked_first : (n : ℕ) → IsLinked (replicate n 0) []
linked_first n = record {
  newest = λ (k : ℕ) (below : k < length (replicate n 0)).
      let none : slice_index (replicate n 0) k ≡ 0 = get_or-replicate n k 0 0 (omega (arith, below, length-replicate {A = ℕ} n 0)) in record {
        within = omega (arith, none);
        all = ap (λ (end : ℕ). olds k (take end [])) none;
        last = λ (q : ℕ) (e : q + 1 ≡ slice_index (replicate n 0) k). absurd (omega (arith, e, none));
      };
  earlier = λ (q : ℕ) (below : q < 0). absurd (omega (arith, below));
  numbered = numbered_first;
}

-- an end is one of the word's stores
pub leads : (log : List Older) (count k end : ℕ) → EndsAt log count k end → LeadsTo log count k end
leads log count k end h = record { within = h.within; last = h.last }

-- the number of the newest store into a word is how many there are
pub newest_number : (ends : List ℕ) (log : List Older) (k : ℕ) → IsLinked ends log → k < length ends → number_until log (slice_index ends k) ≡ length (olds k log)
newest_number ends log k linked lt =
    number_is log k (slice_index ends k) linked.numbered (leads log (length log) k (slice_index ends k) (linked.newest k lt)) ∙ ap length (begin ends log k linked lt)
