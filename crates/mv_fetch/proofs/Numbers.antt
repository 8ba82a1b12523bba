-- The numbers of the stores into a word, by which a way leaps.
use Rattle.std.proofs.Common.{◌≡◌, ℕ, ◌+◌, ◌-◌, ◌<◌, ◌≤◌, ⊎_elim, Bool, true, false, cond, eqb, List, [], ◌∷◌, ◌++◌, length, take, refl, sym, ap, ◌∙◌, subst, arith, length-append, Some, slice_get, zero, suc}
use Rattle.std.proofs.lemmas.List.{get_or_append_left, get_or_at, take-append-le, take_all}
use Rattle.std.proofs.lemmas.Bool.{cases_lt}
use Rattle.std.proofs.lemmas.Bool.Decides.{nat_tests}
use Rattle.mv_fetch.specs.View.{olds, item, number_until, LeadsTo, IsNumbered}
use Rattle.mv_fetch.specs.declared.log.Older.{Older}
use Rattle.mv_fetch.proofs.Histories.{olds_none, olds_more, step_same, front, behind}

-- an empty log has no numbers
pub numbered_first : IsNumbered []
numbered_first = record {
  number = λ (q : ℕ) (below : q < 0). absurd (omega (arith, below));
  farther = λ (q : ℕ) (below : q < 0). absurd (omega (arith, below));
}

-- where a store leads is not changed by later ones
leads_kept : (log more : List Older) (count k end : ℕ) → count ≤ length log → LeadsTo log count k end → LeadsTo (log ++ more) count k end
leads_kept log more count k end le h = let within = h.within in record {
  within = within;
  last = λ q e. ap (λ (o : Older). o.index) (get_or_append_left log more _ q (omega (arith, e, le, within))) ∙ h.last q e;
}

module _ (log : List Older) (e : Older) (old : IsNumbered log) (number : e.number ≡ length (olds e.index log) + 1) (farther : LeadsTo log (length log) e.index e.farther) where
  abbrev after : List Older
  after = log ++ e ∷ []

  abbrev Numbered : List Older → (q : ℕ) → Older → Type 0
  Numbered l q o = (o.number ≡ length (olds o.index (take (q + 1) l))) × LeadsTo l q o.index o.farther

  new : item after (length log) ≡ e
  new = get_or_at log e [] _ (length log) refl

  len : length after ≡ length log + 1
  len = omega (arith, length-append log (e ∷ []))

  -- the store that is new
  new_number : e.number ≡ length (olds e.index (take (length log + 1) after))
  new_number =
      let step = step_same e.index after (length log) (length log + 1) refl (omega (arith, len)) (ap (λ (o : Older). o.index) new) in
      let before : take (length log) after ≡ log = take-append-le (length log) log (e ∷ []) (omega arith) ∙ take_all (length log) log (omega arith) in
      let words = ap length step in
      let same = ap (λ l. length (olds e.index l)) before in
      omega (arith, number, words, same)

  numbered_at : (q : ℕ) → q < length log + 1 → Numbered after q (item after q)
  numbered_at q below = ⊎_elim
      (λ (h : q < length log).
      let was = old.number q h in
      let words = ap (λ l. length (olds (item log q).index l)) (take-append-le (q + 1) log (e ∷ []) (omega (arith, h))) in
      subst (λ (o : Older). Numbered after q o) (sym (get_or_append_left log (e ∷ []) _ q h)) (was ∙ sym words, leads_kept log (e ∷ []) q (item log q).index (item log q).farther (omega (arith, h)) (old.farther q h)))
      (λ (h : length log ≤ q).
      let at : q ≡ length log = omega (arith, h, below) in
      subst (λ n. Numbered after n (item after n)) (sym at) (subst (λ (o : Older). Numbered after (length log) o) (sym new) (new_number, leads_kept log (e ∷ []) (length log) e.index e.farther (omega arith) farther)))
      (cases_lt q (length log))

  pub numbered_push : IsNumbered after
  numbered_push = record {
    number = λ q below. (numbered_at q (omega (arith, below, len))).0;
    farther = λ q below. (numbered_at q (omega (arith, below, len))).1;
  }

-- the number of a store is how many older words there are up to it
pub number_is : (log : List Older) (k end : ℕ) → IsNumbered log → LeadsTo log (length log) k end → number_until log end ≡ length (olds k (take end log))
unfolding number_until
number_is log k end h way = ⊎_elim
    (λ (some : 0 < end).
    let within = way.within in
    let t : eqb end 0 ≡ false = grind (arith, nat_tests, some) in
    let back : end - 1 + 1 ≡ end = omega (arith, some) in
    let here : (item log (end - 1)).index ≡ k = way.last (end - 1) back in
    let number = h.number (end - 1) (omega (arith, some, within)) in
    ap (λ b. cond b 0 (item log (end - 1)).number) t ∙ number ∙ ap (λ j. length (olds j (take (end - 1 + 1) log))) here ∙ ap (λ n. length (olds k (take n log))) back)
    (λ (none : end ≤ 0).
    let z : end ≡ 0 = omega (arith, none) in
    let t : eqb end 0 ≡ true = grind (arith, nat_tests, z) in
    ap (λ b. cond b 0 (item log (end - 1)).number) t ∙ sym (ap (λ n. length (olds k (take n log))) z ∙ ap length (olds_none k)))
    (cases_lt 0 end)

-- no more older words than stores
one_more : (b : Bool) (w : ℕ) (words : List ℕ) → length (cond b (w ∷ words) words) ≤ length words + 1
one_more true w words = omega arith
one_more false w words = omega arith

few_until : (k : ℕ) (log : List Older) (n : ℕ) → n ≤ length log → length (olds k (take n log)) ≤ n
few_until k log zero h = let none = ap length (olds_none k) in omega (arith, none)
few_until k log (suc i) h =
    let rest = few_until k log i (omega (arith, h)) in
    let step = ap length (olds_more k log i (suc i) (omega arith) (omega (arith, h))) in
    let more = one_more (eqb (item log i).index k) (item log i).word (olds k (take i log)) in
    omega (arith, rest, step, more)

pub few : (k : ℕ) (log : List Older) → length (olds k log) ≤ length log
few k log = subst (λ l. length (olds k l) ≤ length log) (take_all (length log) log (omega arith)) (few_until k log (length log) (omega arith))

-- ys, with more words in front
record Grown (xs ys : List ℕ) : Type 0 where
  longer : length ys ≤ length xs
  same : slice_get xs (length xs - length ys) ≡ slice_get ys 0

grown_more : (b : Bool) (w : ℕ) (xs ys : List ℕ) → Grown xs ys → Grown (cond b (w ∷ xs) xs) ys
grown_more true w xs ys h = let longer = h.longer in record {
  longer = omega (arith, longer);
  same = behind (w ∷ xs) xs w (length (w ∷ xs) - length ys) refl (omega (arith, longer)) ∙ (ap (slice_get xs) (omega (arith, longer)) ∙ h.same);
}
grown_more false w xs ys h = h

grown : (k : ℕ) (log : List Older) (end m n : ℕ) → end + m ≡ n → n ≤ length log → Grown (olds k (take n log)) (olds k (take end log))
grown k log end zero n d h =
    let at : n ≡ end = omega (arith, d) in
    let ys = olds k (take end log) in
    subst (λ (j : ℕ). Grown (olds k (take j log)) ys) (sym at) (record { longer = omega arith; same = ap (slice_get ys) (omega arith) })
grown k log end (suc m) n d h =
    let below : end + m < length log = omega (arith, d, h) in
    let step = olds_more k log (end + m) n (omega (arith, d)) below in
    subst (λ xs. Grown xs (olds k (take end log))) (sym step) (grown_more _ _ _ _ (grown k log end m (end + m) refl (omega (arith, below))))

-- the older word at a store, by the store's number
pub at_number : (k : ℕ) (log : List Older) (end : ℕ) → 0 < end → end ≤ length log → (item log (end - 1)).index ≡ k → slice_get (olds k log) (length (olds k log) - length (olds k (take end log))) ≡ Some (item log (end - 1)).word
at_number k log end some within here =
    let g = grown k log end (length log - end) (length log) (omega (arith, within)) (omega arith) in
    let whole = take_all (length log) log (omega arith) in
    let ys = olds k (take end log) in
    let G : Grown (olds k log) ys = subst (λ l. Grown (olds k l) ys) whole g in
    G.same ∙ front (step_same k log (end - 1) end (omega (arith, some)) (omega (arith, some, within)) here) refl
