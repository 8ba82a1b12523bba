-- Lists that a loop changes from the first place on.
use Rattle.std.proofs.Common.{◌≡◌, ◌≢◌, ◌⊎◌, inl, inr, ℕ, suc, ◌+◌, ◌<◌, ◌≤◌, List, set, length, slice_get, Option, Some, None, refl, sym, ap, ◌∙◌, arith, subst}
use borrow.Author.Count.{below_more}
use Rattle.std.proofs.lemmas.Bool.{cases_lt}
use Rattle.std.proofs.lemmas.Option.{slice_get_past}
use Rattle.mv_num.proofs.Lists.{set_there}
use Rattle.mv_harts_runs.specs.Harts.{Store}
use Rattle.mv_harts_runs.proofs.Lists.{set_other}
use Rattle.mv_harts_one.specs.declared.seat.Seat.{Seat}
use Rattle.mv_harts_one.specs.Seats.{Sits}
use Rattle.mv_harts_one.proofs.Advancing.{unshared}
use Rattle.mv_harts_turns.specs.Pairs.{Both}
use Rattle.mv_harts_turns.specs.Groups.{TookStore, Shared}
use Rattle.mv_harts_turns.proofs.Places.{both_here, both_same, both_moved, both_weaker}

-- each place below k is changed, and the others are as they were
pub record ChangedBelow {A : Type 0} (R : ℕ → A → A → Type 0) (k : ℕ) (was is : List A) : Type 0 where
  pub below : (n : ℕ) → n < k → Both (R n) (slice_get was n) (slice_get is n)
  pub above : (n : ℕ) → k ≤ n → slice_get is n ≡ slice_get was n

pub changed_more : {A : Type 0} (R : ℕ → A → A → Type 0) (k : ℕ) (was is : List A) (x y : A) → slice_get is k ≡ Some x → R k x y → ChangedBelow R k was is → ChangedBelow R (k + 1) was (set is k y)
changed_more R k was is x y at r h = record {
  below = below_more (λ n. Both (R n) (slice_get was n) (slice_get (set is k y) n)) k
      (λ n lt. let ne : n ≢ k = omega (arith, lt) in subst (λ p. Both (R n) (slice_get was n) p) (sym (set_other is k n y ne)) (h.below n lt))
      (both_here (R k) (slice_get was k) (slice_get (set is k y) k) x y (sym (h.above k (omega arith)) ∙ at) (set_there is k x y at) r);
  above = λ n le. let ne : n ≢ k = omega (arith, le) in set_other is k n y ne ∙ h.above n (omega (arith, le));
}

pub changed_all : {A : Type 0} (R : ℕ → A → A → Type 0) (k : ℕ) (was is : List A) → length was ≤ k → ChangedBelow R k was is → (n : ℕ) → Both (R n) (slice_get was n) (slice_get is n)
changed_all R k was is len h n = by_place (cases_lt n k)
  where
    by_place : (n < k) ⊎ (k ≤ n) → Both (R n) (slice_get was n) (slice_get is n)
    by_place (inl lt) = h.below n lt
    by_place (inr le) =
        let none : slice_get was n ≡ None = slice_get_past was n (omega (arith, len, le)) in
        both_moved (R n) None (slice_get was n) None (slice_get is n) none (h.above n le ∙ none) tt

-- ---- a store that is shared

-- the hart with the number `from` keeps its memory, and the others take the store
abbrev pub TakesFrom : Option Store → (from : ℕ) → ℕ → Seat → Seat → Type 0
TakesFrom st from n was is = (suc n ≡ from → is ≡ was) × (suc n ≢ from → TookStore st was is)

same_by : (R : Seat → Seat → Type 0) → ((x y : Seat) → R x y → y ≡ x) → (o p : Option Seat) → Both R o p → p ≡ o
same_by R h None None b = refl
same_by R h None (Some y) b = absurd b
same_by R h (Some x) None b = absurd b
same_by R h (Some x) (Some y) b = ap Some (h x y b)

pub shared_all : (st : Option Store) (from k : ℕ) (was is : List Seat) → length was ≤ k → ChangedBelow (TakesFrom st from) k was is → Shared st from was is
shared_all st from k was is len h = record {
  own = λ n e. same_by (TakesFrom st from n) (λ x y r. r.0 e) (slice_get was n) (slice_get is n) (changed_all (TakesFrom st from) k was is len h n);
  rest = λ n ne. both_weaker (TakesFrom st from n) (TookStore st) (λ x y r. r.1 ne) (slice_get was n) (slice_get is n) (changed_all (TakesFrom st from) k was is len h n);
}

-- without a store nothing changes
took_nothing : (seat : Seat) → TookStore None seat seat
took_nothing seat = record { sits = λ number bytes o h. subst (λ p. Sits number seat bytes p) (sym (unshared None refl o)) h; image = refl; taken = refl; stop = refl }

pub shared_nothing : (from : ℕ) (seats : List Seat) → Shared None from seats seats
shared_nothing from seats = record { own = λ n e. refl; rest = λ n ne. both_same (TookStore None) took_nothing (slice_get seats n) }
