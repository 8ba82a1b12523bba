-- A function's temporaries stand in registers of their own, and its numbers in such as these have.
use Rattle.std.proofs.Common.{◌≡◌, ℕ, zero, suc, ◌+◌, ◌-◌, ◌<◌, ◌≤◌, Bool, true, false, cond, eqb, ltb, List, [], ◌∷◌, All, Some, None, refl, sym, ap, ◌∙◌, subst, arith}
use Rattle.std.proofs.lemmas.Bool.{ltb-true, ltb-false, lt-ltb, le-ltb, ne_eqb}
use Rattle.std.proofs.lemmas.List.Elements.{All-head, All-tail}
use Rattle.mv_select_code.specs.Trees.TreeCode.{temp_register, register_of, pinned_in}
use Rattle.mv_select_code.specs.Trees.View.{AreSeats, IsPin}
use Rattle.mv_select_code.specs.declared.trees.places.Pin.{Pin}
use Rattle.mv_select_code.specs.declared.trees.places.Keeping.{Keeping}
use Rattle.mv_select_code.specs.declared.trees.places.Keeping.TheVariants.{Saved, Arguments, Mixed}

-- s1 is that of temporary 0, and the others follow behind a7
pub temp_register_zero : temp_register 0 ≡ 9
unfolding temp_register
temp_register_zero = refl

pub temp_register_above : (t : ℕ) → 0 < t → temp_register t ≡ 17 + t
unfolding temp_register
temp_register_above t h = ap (λ b. cond b 9 (17 + t)) (ne_eqb t 0 (λ e. omega arith))

-- which temporary it is
abbrev number_of : Keeping → ℕ → ℕ
number_of Saved q = q - 17
number_of Arguments q = q - 10
number_of Mixed q = cond (eqb q 9) 8 (cond (ltb q 18) (q - 10) (q - 9))

record IsSeat (k : Keeping) (t q : ℕ) : Type 0 where
  low : 9 ≤ q
  high : q < 26
  number : t ≡ number_of k q

saved_seat : (t : ℕ) → t < 9 → IsSeat Saved t (temp_register t)
saved_seat zero h = rw temp_register_zero (record { low = omega arith; high = omega arith; number = refl })
saved_seat (suc t) h = rw (temp_register_above (suc t) (omega arith)) (record { low = omega arith; high = omega arith; number = omega arith })

argument_seat : (t : ℕ) → t < 8 → IsSeat Arguments t (10 + t)
argument_seat t h = record { low = omega arith; high = omega arith; number = omega arith }

first_seat : (t : ℕ) → t < 8 → IsSeat Mixed t (10 + t)
first_seat t h = record {
  low = omega arith;
  high = omega arith;
  number = sym (ap (λ b. cond b 8 (cond (ltb (10 + t) 18) (10 + t - 10) (10 + t - 9))) (ne_eqb (10 + t) 9 (λ e. omega (arith, e))) ∙ ap (λ b. cond b (10 + t - 10) (10 + t - 9)) (lt-ltb (10 + t) 18 (omega (arith, h))) ∙ omega arith);
}

-- those behind the first eight
next_seat : (t u : ℕ) → u < 9 → t ≡ 8 + u → IsSeat Mixed t (temp_register u)
next_seat t zero h e = rw temp_register_zero (record { low = omega arith; high = omega arith; number = omega (arith, e) })
next_seat t (suc u) h e = rw (temp_register_above (suc u) (omega arith)) (record {
  low = omega arith;
  high = omega arith;
  number = sym (ap (λ b. cond b 8 (cond (ltb (17 + suc u) 18) (17 + suc u - 10) (17 + suc u - 9))) (ne_eqb (17 + suc u) 9 (λ e. omega (arith, e)))
      ∙ ap (λ b. cond b (17 + suc u - 10) (17 + suc u - 9)) (le-ltb (17 + suc u) 18 (omega arith)) ∙ omega (arith, e));
})

keeping_seat : (k : Keeping) (t q : ℕ) → register_of k t ≡ Some q → IsSeat k t q
unfolding register_of
keeping_seat k t q = by_keeping k
  where
    by_test : (k : Keeping) (n r : ℕ) → (t < n → IsSeat k t r) → (is_low : Bool) → ltb t n ≡ is_low → cond is_low (Some r) None ≡ Some q → IsSeat k t q
    by_test k n r h true low e = let same : r ≡ q = cc in subst (IsSeat k t) same (h (ltb-true t n low))
    by_test k n r h false low e = absurd cc

    by_next : (is_next : Bool) → ltb t 17 ≡ is_next → (is_low : Bool) → ltb t 8 ≡ is_low
        → cond is_low (Some (10 + t)) (cond is_next (Some (temp_register (t - 8))) None) ≡ Some q → IsSeat Mixed t q
    by_next next below true low e = let same : 10 + t ≡ q = cc in subst (IsSeat Mixed t) same (first_seat t (ltb-true t 8 low))
    by_next true below false low e =
        let same : temp_register (t - 8) ≡ q = cc in
        let from : 8 ≤ t = ltb-false t 8 low in
        let lt : t < 17 = ltb-true t 17 below in
        subst (IsSeat Mixed t) same (next_seat t (t - 8) (omega (arith, from, lt)) (omega (arith, from)))
    by_next false below false low e = absurd cc

    by_keeping : (k : Keeping) → register_of k t ≡ Some q → IsSeat k t q
    by_keeping Saved e = by_test Saved 9 (temp_register t) (saved_seat t) (ltb t 9) refl e
    by_keeping Arguments e = by_test Arguments 8 (10 + t) (argument_seat t) (ltb t 8) refl e
    by_keeping Mixed e = by_next (ltb t 17) refl (ltb t 8) refl e

pub pinned_seat : (pins : List Pin) → All IsPin pins → (n q : ℕ) → pinned_in pins n ≡ Some q → (9 ≤ q) × (q < 26)
pinned_seat [] h n q e = absurd cc
pinned_seat (p ∷ ps) h n q e = by_test (eqb p.number n) (pinned_seat ps (All-tail IsPin p ps h) n q) e
  where
    by_test : (is_it : Bool) → (pinned_in ps n ≡ Some q → (9 ≤ q) × (q < 26)) → cond is_it (Some p.register) (pinned_in ps n) ≡ Some q → (9 ≤ q) × (q < 26)
    by_test true rest e = let same : p.register ≡ q = cc in subst (λ r. (9 ≤ r) × (r < 26)) same (All-head IsPin p ps h)
    by_test false rest e = rest e

pub keeping_seats : (place : ℕ → ℕ) (k : Keeping) (pins : List Pin) → All IsPin pins
    → AreSeats (record { place = place; register = register_of k; pinned = pinned_in pins })
keeping_seats place k pins are = record {
  seat = λ t q e. let seat = keeping_seat k t q e in (seat.low, seat.high);
  apart = λ t u q e f. (keeping_seat k t q e).number ∙ sym (keeping_seat k u q f).number;
  pin = pinned_seat pins are;
}
