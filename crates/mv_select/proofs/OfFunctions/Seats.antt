-- The registers of temporaries, by how a function keeps them, and which registers its body leaves alone.
use Rattle.std.proofs.Common.{◌≡◌, ◌≢◌, inl, inr, ⊎_elim, ℕ, zero, suc, ◌+◌, ◌-◌, ◌<◌, ◌≤◌, ◌⊎◌, ◌&&◌, ◌||◌, Bool, true, false, cond, eqb, leb, ltb, max, min, Some, None, unwrap_or, refl, sym, ap, ◌∙◌, arith}
use Rattle.std.proofs.Math.Nat.{le-max_left, le-max_right, le-min, min-le_left, min-le_right}
use Rattle.std.proofs.lemmas.Bool.{cases_lt, eq-eqb, eqb-true, lt-ltb, le-ltb, le-leb, leb-true, ltb-true, and_from, or_left, or_right}
use Rattle.std.proofs.lemmas.Option.{none-some}
use Rattle.mv_num.proofs.Booleans.{and_left, and_right, or_cases}
use Rattle.mv_select_code.specs.Trees.TreeCode.{temp_register, register_of}
use Rattle.mv_select_code.specs.Trees.View.{AreScratch}
use Rattle.mv_select_code.specs.declared.trees.places.Keeping.{Keeping}
use Rattle.mv_select_code.specs.declared.trees.places.Keeping.TheVariants.{Saved, Arguments, Mixed}
use Rattle.mv_select_code.proofs.OfTrees.KeepingSeats.{temp_register_above, temp_register_zero}
use Rattle.mv_select.specs.Calls.Convention.{IsSaved}
use Rattle.mv_select.specs.Functions.FunctionCode.{saved_seats, first_saved, saved_count, saved_register, is_behind, is_left_by}
use Rattle.mv_select.specs.Functions.Pins.{moving_words}

-- ---- registers that are saved

pub register_low : (t : ℕ) → 9 ≤ temp_register t
register_low zero = omega (arith, temp_register_zero)
register_low (suc t) = omega (arith, temp_register_above (suc t) (omega arith))

pub register_high : (t : ℕ) → t < 9 → temp_register t < 26
register_high zero h = omega (arith, temp_register_zero)
register_high (suc t) h = omega (arith, temp_register_above (suc t) (omega arith), h)

pub one_register : (t u : ℕ) → t ≢ u → temp_register t ≡ temp_register u → ⊥
one_register zero zero ne e = ne refl
one_register zero (suc u) ne e = omega (arith, temp_register_zero, temp_register_above (suc u) (omega arith), e)
one_register (suc t) zero ne e = omega (arith, temp_register_zero, temp_register_above (suc t) (omega arith), e)
one_register (suc t) (suc u) ne e = ne (omega (arith, temp_register_above (suc t) (omega arith), temp_register_above (suc u) (omega arith), e))

-- whether a function saves registers
abbrev pub saves : Keeping → Bool
saves Saved = true
saves Arguments = false
saves Mixed = true

-- those of arguments are none of them
pub argument_apart : (t u : ℕ) → t < 8 → 10 + t ≡ temp_register u → ⊥
argument_apart t zero lt e = omega (arith, e, temp_register_zero)
argument_apart t (suc u) lt e = omega (arith, e, lt, temp_register_above (suc u) (omega arith))

-- ---- the register of a temporary, and those that have none

pub saved_seat : (t : ℕ) → t < 9 → register_of Saved t ≡ Some (temp_register t)
unfolding register_of
saved_seat t lt = ap (λ b. cond b (Some (temp_register t)) None) (lt-ltb t 9 lt)

saved_out : (t : ℕ) → 9 ≤ t → register_of Saved t ≡ None
unfolding register_of
saved_out t le = ap (λ b. cond b (Some (temp_register t)) None) (le-ltb t 9 le)

pub argument_seat : (t : ℕ) → t < 8 → register_of Arguments t ≡ Some (10 + t)
unfolding register_of
argument_seat t lt = ap (λ b. cond b (Some (10 + t)) None) (lt-ltb t 8 lt)

argument_out : (t : ℕ) → 8 ≤ t → register_of Arguments t ≡ None
unfolding register_of
argument_out t le = ap (λ b. cond b (Some (10 + t)) None) (le-ltb t 8 le)

mixed_seat : (t : ℕ) → t < 8 → register_of Mixed t ≡ Some (10 + t)
unfolding register_of
mixed_seat t lt = ap (λ b. cond b (Some (10 + t)) (cond (ltb t 17) (Some (temp_register (t - 8))) None)) (lt-ltb t 8 lt)

mixed_next : (t : ℕ) → 8 ≤ t → t < 17 → register_of Mixed t ≡ Some (temp_register (t - 8))
unfolding register_of
mixed_next t le lt = ap (λ b. cond b (Some (10 + t)) (cond (ltb t 17) (Some (temp_register (t - 8))) None)) (le-ltb t 8 le) ∙ ap (λ b. cond b (Some (temp_register (t - 8))) None) (lt-ltb t 17 lt)

mixed_out : (t : ℕ) → 17 ≤ t → register_of Mixed t ≡ None
unfolding register_of
mixed_out t le = ap (λ b. cond b (Some (10 + t)) (cond (ltb t 17) (Some (temp_register (t - 8))) None)) (le-ltb t 8 (omega (arith, le))) ∙ ap (λ b. cond b (Some (temp_register (t - 8))) None) (le-ltb t 17 le)

pub saved_some : (t q : ℕ) → register_of Saved t ≡ Some q → (t < 9) × (q ≡ temp_register t)
saved_some t q e =
    ⊎_elim (λ (lt : t < 9). (lt, ap (λ o. unwrap_or o 0) (sym e ∙ saved_seat t lt))) (λ (le : 9 ≤ t). absurd (none-some q (sym (saved_out t le) ∙ e))) (cases_lt t 9)

-- one of the first eight, or one of those behind
abbrev pub IsMixed : (t q : ℕ) → Type 0
IsMixed t q = ((t < 8) × (q ≡ 10 + t)) ⊎ ((8 ≤ t) × (t < 17) × (q ≡ temp_register (t - 8)))

pub mixed_some : (t q : ℕ) → register_of Mixed t ≡ Some q → IsMixed t q
mixed_some t q e =
    ⊎_elim (λ (lt : t < 8). inl (lt, ap (λ o. unwrap_or o 0) (sym e ∙ mixed_seat t lt)))
    (λ (le : 8 ≤ t).
    ⊎_elim (λ (lt : t < 17). inr (le, lt, ap (λ o. unwrap_or o 0) (sym e ∙ mixed_next t le lt))) (λ (out : 17 ≤ t). absurd (none-some q (sym (mixed_out t out) ∙ e))) (cases_lt t 17))
    (cases_lt t 8)

pub argument_some : (t q : ℕ) → register_of Arguments t ≡ Some q → (t < 8) × (q ≡ 10 + t)
argument_some t q e =
    ⊎_elim (λ (lt : t < 8). (lt, ap (λ o. unwrap_or o 0) (sym e ∙ argument_seat t lt))) (λ (le : 8 ≤ t). absurd (none-some q (sym (argument_out t le) ∙ e))) (cases_lt t 8)

-- a temporary without a register is one of many that a function saves
pub unseated : (k : Keeping) (t temps : ℕ) → register_of k t ≡ None → t < temps → (k ≡ Arguments → temps < 9) → (9 ≤ t) × (saves k ≡ true)
unseated Saved t temps e lt few = ⊎_elim (λ (low : t < 9). absurd (none-some (temp_register t) (sym e ∙ saved_seat t low))) (λ (le : 9 ≤ t). (le, refl)) (cases_lt t 9)
unseated Arguments t temps e lt few = let few = few refl in absurd (none-some (10 + t) (sym e ∙ argument_seat t (omega arith)))
unseated Mixed t temps e lt few =
    ⊎_elim (λ (low : t < 8). absurd (none-some (10 + t) (sym e ∙ mixed_seat t low)))
    (λ (le : 8 ≤ t). ⊎_elim (λ (low : t < 17). absurd (none-some (temp_register (t - 8)) (sym e ∙ mixed_next t le low))) (λ (out : 17 ≤ t). (omega (arith, out), refl)) (cases_lt t 17)) (cases_lt t 8)

-- ---- registers that the body leaves alone

pub saved_left_cases : (temps q : ℕ) → is_left_by Saved temps q ≡ true → (q ≡ 2) ⊎ (((temps ≡ 0) × (q ≡ 9)) ⊎ ((17 + max (min temps 9) 1 ≤ q) × (q < 28)))
saved_left_cases temps q e =
    let low = eqb temps 0 && eqb q 9 in
    let high = leb (17 + max (min temps 9) 1) q && ltb q 28 in
    ⊎_elim (λ (h : eqb q 2 ≡ true). inl (eqb-true q 2 h))
    (λ (h : (low || high) ≡ true).
    ⊎_elim (λ (h : low ≡ true). inr (inl (eqb-true temps 0 (and_left (eqb temps 0) (eqb q 9) h), eqb-true q 9 (and_right (eqb temps 0) (eqb q 9) h))))
    (λ (h : high ≡ true).
    inr (inr (leb-true (17 + max (min temps 9) 1) q (and_left (leb (17 + max (min temps 9) 1) q) (ltb q 28) h), ltb-true q 28 (and_right (leb (17 + max (min temps 9) 1) q) (ltb q 28) h))))
    (or_cases low high h))
    (or_cases (eqb q 2) (low || high) e)

pub mixed_left_cases : (temps q : ℕ) → is_left_by Mixed temps q ≡ true → (q ≡ 1) ⊎ ((q ≡ 2) ⊎ (((temps - 8 ≡ 0) × (q ≡ 9)) ⊎ ((17 + max (min (temps - 8) 9) 1 ≤ q) × (q < 28))))
mixed_left_cases temps q e =
    ⊎_elim (λ (h : eqb q 1 ≡ true). inl (eqb-true q 1 h)) (λ (h : is_behind (temps - 8) q ≡ true). inr (saved_left_cases (temps - 8) q h)) (or_cases (eqb q 1) (is_behind (temps - 8) q) e)

pub argument_left_cases : (temps q : ℕ) → is_left_by Arguments temps q ≡ true → ((q ≡ 1) ⊎ (q ≡ 2)) ⊎ ((q ≡ 9) ⊎ ((18 ≤ q) × (q < 28)))
argument_left_cases temps q e =
    let high = leb 18 q && ltb q 28 in
    ⊎_elim (λ (h : eqb q 1 ≡ true). inl (inl (eqb-true q 1 h)))
    (λ (h : (eqb q 2 || (eqb q 9 || high)) ≡ true).
    ⊎_elim (λ (h : eqb q 2 ≡ true). inl (inr (eqb-true q 2 h)))
    (λ (h : (eqb q 9 || high) ≡ true).
    ⊎_elim (λ (h : eqb q 9 ≡ true). inr (inl (eqb-true q 9 h)))
    (λ (h : high ≡ true). inr (inr (leb-true 18 q (and_left (leb 18 q) (ltb q 28) h), ltb-true q 28 (and_right (leb 18 q) (ltb q 28) h))))
    (or_cases (eqb q 9) high h))
    (or_cases (eqb q 2) (eqb q 9 || high) h))
    (or_cases (eqb q 1) (eqb q 2 || (eqb q 9 || high)) e)

-- behind those of temporaries
pub saved_leaves : (temps q : ℕ) → 17 + max (min temps 9) 1 ≤ q → q < 28 → is_left_by Saved temps q ≡ true
saved_leaves temps q le lt =
    let low = eqb temps 0 && eqb q 9 in
    let high = leb (17 + max (min temps 9) 1) q && ltb q 28 in
    or_right (eqb q 2) (low || high) (or_right low high (and_from (leb (17 + max (min temps 9) 1) q) (ltb q 28) (le-leb (17 + max (min temps 9) 1) q le) (lt-ltb q 28 lt)))

-- s10 and s11
pub counters_left : (temps q : ℕ) → 26 ≤ q → q < 28 → is_left_by Saved temps q ≡ true
counters_left temps q le lt = saved_leaves temps q (most_seats temps q le) lt
  where
    most_seats : (temps q : ℕ) → 26 ≤ q → 17 + max (min temps 9) 1 ≤ q
    most_seats temps q le = omega (arith, le, min-le_right temps 9)

-- the register of a temporary that there isn't
pub unused_left : (temps t : ℕ) → temps ≤ t → t < 9 → is_left_by Saved temps (temp_register t) ≡ true
unused_left temps zero le lt =
    let none : temps ≡ 0 = omega arith in
    let rest = leb (17 + max (min temps 9) 1) (temp_register 0) && ltb (temp_register 0) 28 in
    or_right (eqb (temp_register 0) 2) ((eqb temps 0 && eqb (temp_register 0) 9) || rest)
    (or_left (eqb temps 0 && eqb (temp_register 0) 9) rest (and_from (eqb temps 0) (eqb (temp_register 0) 9) (eq-eqb temps 0 none) (eq-eqb (temp_register 0) 9 temp_register_zero)))
unused_left temps (suc t) le lt =
    let is = temp_register_above (suc t) (omega arith) in saved_leaves temps (temp_register (suc t)) (omega (arith, is, le, min-le_left temps 9)) (omega (arith, is, lt))

-- the same where some temporaries come before those in s1 to s9
pub behind_left : (k : Keeping) (temps q : ℕ) → saves k ≡ true → 26 ≤ q → q < 28 → is_left_by k temps q ≡ true
behind_left Saved temps q h le lt = counters_left temps q le lt
behind_left Arguments temps q h le lt = cc
behind_left Mixed temps q h le lt = or_right (eqb q 1) (is_behind (temps - 8) q) (counters_left (temps - 8) q le lt)

within_min : (n t : ℕ) → min n 9 ≤ t → t < 9 → n ≤ t
within_min n t le lt = ⊎_elim (λ (more : t < n). absurd (let most : suc t ≤ min n 9 = le-min more lt in omega (arith, le, most))) (λ (less : n ≤ t). less) (cases_lt t n)

pub rest_left : (k : Keeping) (temps t : ℕ) → saves k ≡ true → saved_seats k temps ≤ t → t < 9 → is_left_by k temps (temp_register t) ≡ true
rest_left Saved temps t h le lt = unused_left temps t (within_min temps t le lt) lt
rest_left Arguments temps t h le lt = cc
rest_left Mixed temps t h le lt = or_right (eqb (temp_register t) 1) (is_behind (temps - 8) (temp_register t)) (unused_left (temps - 8) t (within_min (temps - 8) t le lt) lt)

-- ---- the words of registers that are saved

pub few_seats : (k : Keeping) (seated : ℕ) → saved_seats k seated ≤ 9
few_seats Saved seated = min-le_right seated 9
few_seats Arguments seated = omega arith
few_seats Mixed seated = min-le_right (seated - 8) 9

pub first_small : (k : Keeping) → first_saved k ≤ 1
first_small Saved = omega arith
first_small Arguments = omega arith
first_small Mixed = omega arith

-- there are so many words up to that of the last of them
pub counted_seats : (k : Keeping) (seated : ℕ) → first_saved k + saved_count k seated ≡ suc (saved_seats k seated)
counted_seats k seated = omega (arith, first_small k)

pub saved_few : (k : Keeping) (seated : ℕ) → first_saved k + saved_count k seated ≤ 10
saved_few k seated = omega (arith, counted_seats k seated, few_seats k seated)

-- the registers of temporaries from one on have no such word
pub not_saved : (t n seats : ℕ) → seats ≤ t → n ≤ seats → saved_register n ≡ temp_register t → ⊥
not_saved t zero seats le few e = omega (arith, e, register_low t)
not_saved t (suc u) seats le few e = one_register u t (λ same. omega (arith, same, le, few)) e

-- ra is saved, or left alone
pub link_cases : (k : Keeping) → saves k ≡ true → (first_saved k ≡ 0) ⊎ ((first_saved k ≡ 1) × ((temps : ℕ) → is_left_by k temps 1 ≡ true))
link_cases Saved h = inl refl
link_cases Arguments h = cc
link_cases Mixed h = inr (refl, λ temps. refl)

-- ---- parameters

pub moving_few : (k : Keeping) (params : ℕ) → moving_words k params ≤ params
moving_few Saved params = omega arith
moving_few Arguments params = omega arith
moving_few Mixed params = omega arith

-- a parameter that moves comes to a register that is saved
pub moving_saved : (k : Keeping) (params seated j : ℕ) → j < moving_words k params → params ≤ 8 → params ≤ seated → j < saved_seats k seated
moving_saved Saved params seated j lt few enough = let within : suc j ≤ min seated 9 = le-min (omega (arith, lt, enough)) (omega (arith, lt, few)) in within
moving_saved Arguments params seated j lt few enough = absurd (omega (arith, lt))
moving_saved Mixed params seated j lt few enough = absurd (omega (arith, lt))

-- it moves to its temporary's register, or none moves and it comes there
pub seat_came : (k : Keeping) (params j q : ℕ) → saves k ≡ true → params ≤ 8 → j < params → register_of k j ≡ Some q
    → ((j < moving_words k params) × (q ≡ temp_register j)) ⊎ ((q ≡ 10 + j) × (moving_words k params ≡ 0))
seat_came Saved params j q h few lt e = inl (lt, (saved_some j q e).1)
seat_came Arguments params j q h few lt e = cc
seat_came Mixed params j q h few lt e = by (mixed_some j q e)
  where
    by : IsMixed j q → ((j < moving_words Mixed params) × (q ≡ temp_register j)) ⊎ ((q ≡ 10 + j) × (moving_words Mixed params ≡ 0))
    by (inl s) = inr (s.1, refl)
    by (inr s) = absurd (omega (arith, s.0, few, lt))

-- no parameter comes to the register of another temporary
pub others_stay : (k : Keeping) (params t q j : ℕ) → params ≤ t → register_of k t ≡ Some q → j < moving_words k params → q ≡ temp_register j → ⊥
others_stay Saved params t q j le seat lt e = one_register t j (λ same. omega (arith, same, le, lt)) (sym (saved_some t q seat).1 ∙ e)
others_stay Arguments params t q j le seat lt e = omega (arith, lt)
others_stay Mixed params t q j le seat lt e = omega (arith, lt)

-- what a function sets back is left alone where it saves nothing
pub argument_leaves : (temps q : ℕ) → ((q ≡ 2) ⊎ ((q ≡ 9) ⊎ ((18 ≤ q) × (q < 28)))) → is_left_by Arguments temps q ≡ true
argument_leaves temps q h = or_right (eqb q 1) (eqb q 2 || (eqb q 9 || (leb 18 q && ltb q 28))) (by h)
  where
    by : (q ≡ 2) ⊎ ((q ≡ 9) ⊎ ((18 ≤ q) × (q < 28))) → (eqb q 2 || (eqb q 9 || (leb 18 q && ltb q 28))) ≡ true
    by (inl e) = or_left (eqb q 2) (eqb q 9 || (leb 18 q && ltb q 28)) (eq-eqb q 2 e)
    by (inr (inl e)) = or_right (eqb q 2) (eqb q 9 || (leb 18 q && ltb q 28)) (or_left (eqb q 9) (leb 18 q && ltb q 28) (eq-eqb q 9 e))
    by (inr (inr h)) =
        or_right (eqb q 2) (eqb q 9 || (leb 18 q && ltb q 28)) (or_right (eqb q 9) (leb 18 q && ltb q 28) (and_from (leb 18 q) (ltb q 28) (le-leb 18 q h.0) (lt-ltb q 28 h.1)))

-- ---- they are apart from all that the code computes in

-- a register from 0 to 2, s1, or one from s2 to s11
left_cases : (k : Keeping) (temps q : ℕ) → is_left_by k temps q ≡ true → ((0 < q) × (q < 3)) ⊎ ((q ≡ 9) ⊎ ((18 ≤ q) × (q < 28)))
left_cases Saved temps q e = by (saved_left_cases temps q e)
  where
    by : (q ≡ 2) ⊎ (((temps ≡ 0) × (q ≡ 9)) ⊎ ((17 + max (min temps 9) 1 ≤ q) × (q < 28))) → ((0 < q) × (q < 3)) ⊎ ((q ≡ 9) ⊎ ((18 ≤ q) × (q < 28)))
    by (inl h) = inl (omega (arith, h), omega (arith, h))
    by (inr (inl h)) = inr (inl h.1)
    by (inr (inr h)) = inr (inr (omega (arith, h.0, le-max_right (min temps 9) 1), h.1))
left_cases Mixed temps q e = by (mixed_left_cases temps q e)
  where
    by : (q ≡ 1) ⊎ ((q ≡ 2) ⊎ (((temps - 8 ≡ 0) × (q ≡ 9)) ⊎ ((17 + max (min (temps - 8) 9) 1 ≤ q) × (q < 28)))) → ((0 < q) × (q < 3)) ⊎ ((q ≡ 9) ⊎ ((18 ≤ q) × (q < 28)))
    by (inl h) = inl (omega (arith, h), omega (arith, h))
    by (inr (inl h)) = inl (omega (arith, h), omega (arith, h))
    by (inr (inr (inl h))) = inr (inl h.1)
    by (inr (inr (inr h))) = inr (inr (omega (arith, h.0, le-max_right (min (temps - 8) 9) 1), h.1))
left_cases Arguments temps q e = by (argument_left_cases temps q e)
  where
    by : ((q ≡ 1) ⊎ (q ≡ 2)) ⊎ ((q ≡ 9) ⊎ ((18 ≤ q) × (q < 28))) → ((0 < q) × (q < 3)) ⊎ ((q ≡ 9) ⊎ ((18 ≤ q) × (q < 28)))
    by (inl (inl h)) = inl (omega (arith, h), omega (arith, h))
    by (inl (inr h)) = inl (omega (arith, h), omega (arith, h))
    by (inr h) = inr h

left_apart : (q : ℕ) → ((0 < q) × (q < 3)) ⊎ ((q ≡ 9) ⊎ ((18 ≤ q) × (q < 28))) → (0 < q) × (q ≢ 10)
left_apart q (inl h) = let high = h.1 in (h.0, λ e. omega arith)
left_apart q (inr (inl h)) = (omega (arith, h), λ e. omega (arith, e, h))
left_apart q (inr (inr h)) = let low = h.0 in (omega arith, λ e. omega arith)

pub left_real : (k : Keeping) (temps : ℕ) → is_left_by k temps 0 ≡ true → ⊥
left_real k temps e = let above = (left_apart 0 (left_cases k temps 0 e)).0 in omega arith

pub left_result : (k : Keeping) (temps : ℕ) → is_left_by k temps 10 ≡ true → ⊥
left_result k temps e = (left_apart 10 (left_cases k temps 10 e)).1 refl

pub left_scratch : (k : Keeping) (temps q : ℕ) → is_left_by k temps q ≡ true → AreScratch q (q + 1) → ⊥
left_scratch k temps q e s = by (left_cases k temps q e) s
  where
    by : ((0 < q) × (q < 3)) ⊎ ((q ≡ 9) ⊎ ((18 ≤ q) × (q < 28))) → AreScratch q (q + 1) → ⊥
    by (inl h) (inl s) = let high = h.1 in let low = s.0 in omega arith
    by (inl h) (inr s) = let high = h.1 in let low = s.0 in omega arith
    by (inr (inl h)) (inl s) = let high = s.1 in omega arith
    by (inr (inl h)) (inr s) = let low = s.0 in omega arith
    by (inr (inr h)) (inl s) = let low = h.0 in let high = s.1 in omega arith
    by (inr (inr h)) (inr s) = let high = h.1 in let low = s.0 in omega arith

saved_temps : (temps t q : ℕ) → t < temps → (t < 9) × (q ≡ temp_register t) → (q ≡ 2) ⊎ (((temps ≡ 0) × (q ≡ 9)) ⊎ ((17 + max (min temps 9) 1 ≤ q) × (q < 28))) → ⊥
saved_temps temps t q lt h (inl e) = omega (arith, h.1, e, register_low t)
saved_temps temps t q lt h (inr (inl e)) = let none = e.0 in omega arith
saved_temps temps zero q lt h (inr (inr e)) = omega (arith, h.1, temp_register_zero, e.0, le-max_right (min temps 9) 1)
saved_temps temps (suc t) q lt h (inr (inr e)) =
    let within : suc (suc t) ≤ min temps 9 = le-min lt h.0 in
    omega (arith, h.1, temp_register_above (suc t) (omega arith), e.0, within, le-max_left (min temps 9) 1)

argument_temps : (t q : ℕ) → (t < 8) × (q ≡ 10 + t) → ((q ≡ 1) ⊎ (q ≡ 2)) ⊎ ((q ≡ 9) ⊎ ((18 ≤ q) × (q < 28))) → ⊥
argument_temps t q h (inl (inl e)) = let is = h.1 in omega arith
argument_temps t q h (inl (inr e)) = let is = h.1 in omega arith
argument_temps t q h (inr (inl e)) = let is = h.1 in omega arith
argument_temps t q h (inr (inr e)) = let is = h.1 in let lt = h.0 in let low = e.0 in omega arith

mixed_temps : (temps t q : ℕ) → t < temps → IsMixed t q → (q ≡ 1) ⊎ ((q ≡ 2) ⊎ (((temps - 8 ≡ 0) × (q ≡ 9)) ⊎ ((17 + max (min (temps - 8) 9) 1 ≤ q) × (q < 28)))) → ⊥
mixed_temps temps t q lt (inl h) (inl e) = omega (arith, h.1, e)
mixed_temps temps t q lt (inl h) (inr (inl e)) = omega (arith, h.1, e)
mixed_temps temps t q lt (inl h) (inr (inr (inl e))) = omega (arith, h.1, e.1)
mixed_temps temps t q lt (inl h) (inr (inr (inr e))) = omega (arith, h.0, h.1, e.0, le-max_right (min (temps - 8) 9) 1)
mixed_temps temps t q lt (inr h) (inl e) = omega (arith, h.2, e, register_low (t - 8))
mixed_temps temps t q lt (inr h) (inr e) = saved_temps (temps - 8) (t - 8) q (omega (arith, lt, h.0)) (omega (arith, h.0, h.1), h.2) e

pub left_temps : (k : Keeping) (temps t q : ℕ) → t < temps → register_of k t ≡ Some q → is_left_by k temps q ≡ true → ⊥
left_temps Saved temps t q lt is e = saved_temps temps t q lt (saved_some t q is) (saved_left_cases temps q e)
left_temps Arguments temps t q lt is e = argument_temps t q (argument_some t q is) (argument_left_cases temps q e)
left_temps Mixed temps t q lt is e = mixed_temps temps t q lt (mixed_some t q is) (mixed_left_cases temps q e)

pub stack_left : (k : Keeping) (temps : ℕ) → is_left_by k temps 2 ≡ true
stack_left Saved temps = refl
stack_left Arguments temps = refl
stack_left Mixed temps = refl

-- ---- where registers are saved, they are all such as a callee sets back

abbrev pub SeatsSaved : Keeping → Type 0
SeatsSaved k = (t q : ℕ) → register_of k t ≡ Some q → IsSaved q

abbrev pub LeftSaved : Keeping → (temps q : ℕ) → Type 0
LeftSaved k temps q = is_left_by k temps q ≡ true → IsSaved q

pub seats_saved : SeatsSaved Saved
seats_saved t q e = by t q (saved_some t q e)
  where
    by : (t q : ℕ) → (t < 9) × (q ≡ temp_register t) → IsSaved q
    by zero q h = inr (inl (h.1 ∙ temp_register_zero))
    by (suc t) q h = let is = temp_register_above (suc t) (omega arith) in inr (inr (omega (arith, h.1, is), omega (arith, h.0, h.1, is)))

pub left_saved : (temps q : ℕ) → LeftSaved Saved temps q
left_saved temps q e = by (saved_left_cases temps q e)
  where
    by : (q ≡ 2) ⊎ (((temps ≡ 0) × (q ≡ 9)) ⊎ ((17 + max (min temps 9) 1 ≤ q) × (q < 28))) → IsSaved q
    by (inl h) = inl h
    by (inr (inl h)) = inr (inl h.1)
    by (inr (inr h)) = inr (inr (omega (arith, h.0, le-max_right (min temps 9) 1), h.1))
