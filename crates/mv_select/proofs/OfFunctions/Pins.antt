-- Pins stand in registers of their own, and their code has encodings.
use Rattle.std.proofs.Common.{◌≡◌, ◌≢◌, inl, inr, ⊎_elim, ℕ, zero, suc, ◌+◌, ◌-◌, ◌^◌, ◌<◌, ◌≤◌, Bool, true, false, cond, eqb, max, min, List, [], ◌∷◌, ◌++◌, length, All, Some, sum_by, sym, ap, ◌∙◌, pos, arith}
use Rattle.std.proofs.Math.Nat.{le-max_left, le-max_right, le-min}
use Rattle.std.proofs.lemmas.Bool.{cases_eq}
use Rattle.std.proofs.lemmas.Option.{none-some}
use Rattle.std.proofs.lemmas.List.Elements.{All-nil, All-cons}
use Rattle.mv_isa.specs.declared.instr.Instr.TheVariants.{Lui, Addi}
use Rattle.mv_isa.specs.Code.{LineFits, greatest_words}
use Rattle.mv_isa.specs.Registers.{a0}
use Rattle.mv_select_code.specs.Trees.TreeCode.{one, two, upper_bits, lower_bits, number_lines, temp_register, register_of, pinned_in}
use Rattle.mv_select_code.specs.Trees.View.{IsPin}
use Rattle.mv_select_code.specs.declared.trees.places.Keeping.{Keeping}
use Rattle.mv_select_code.specs.declared.trees.places.Keeping.TheVariants.{Saved, Arguments, Mixed}
use Rattle.mv_select_code.specs.declared.trees.places.Pin.{Pin}
use Rattle.mv_select_code.specs.Statements.Encoded.{IsCode}
use Rattle.mv_select_code.proofs.OfTrees.KeepingSeats.{temp_register_above, temp_register_zero}
use Rattle.mv_select_code.proofs.OfTrees.TreesFit.{number_fits}
use Rattle.mv_select_code.proofs.OfStatements.EncodedCode.{both}
use Rattle.mv_select.specs.Calls.Convention.{IsSaved}
use Rattle.mv_select.specs.Functions.Pins.{pin_lines, pin_words, StandFrom, first_pin, moving_words, ArePins}
use Rattle.mv_select.specs.Functions.FunctionCode.{saved_seats}
use Rattle.mv_select.specs.Functions.Uses.{number_words}
use Rattle.mv_select.proofs.OfFunctions.Seats.{register_low, register_high, one_register, saves, argument_apart, saved_some, argument_some, IsMixed, mixed_some, seats_saved}

-- ---- the registers of temporaries

pub seat_within : (k : Keeping) (t q : ℕ) → register_of k t ≡ Some q → (9 ≤ q) × (q < 26)
seat_within Saved t q e = let s = saved_some t q e in (omega (arith, s.1, register_low t), omega (arith, s.1, register_high t s.0))
seat_within Arguments t q e = let s = argument_some t q e in let lt = s.0 in let is = s.1 in (omega arith, omega arith)
seat_within Mixed t q e = by (mixed_some t q e)
  where
    by : IsMixed t q → (9 ≤ q) × (q < 26)
    by (inl s) = (omega (arith, s.1), omega (arith, s.0, s.1))
    by (inr s) = (omega (arith, s.2, register_low (t - 8)), omega (arith, s.2, register_high (t - 8) (omega (arith, s.0, s.1))))

pub one_seat : (k : Keeping) (t u q : ℕ) → register_of k t ≡ Some q → register_of k u ≡ Some q → t ≡ u
one_seat Saved t u q e f = ⊎_elim (λ (same : t ≡ u). same) (λ (ne : t ≡ u → ⊥). absurd (one_register t u ne (sym (saved_some t q e).1 ∙ (saved_some u q f).1))) (cases_eq t u)
one_seat Arguments t u q e f = omega (arith, (argument_some t q e).1, (argument_some u q f).1)
one_seat Mixed t u q e f = by (mixed_some t q e) (mixed_some u q f)
  where
    by : IsMixed t q → IsMixed u q → t ≡ u
    by (inl r) (inl s) = omega (arith, r.1, s.1)
    by (inl r) (inr s) = absurd (argument_apart t (u - 8) r.0 (sym r.1 ∙ s.2))
    by (inr r) (inl s) = absurd (argument_apart u (t - 8) s.0 (sym s.1 ∙ r.2))
    by (inr r) (inr s) =
        ⊎_elim (λ (same : t - 8 ≡ u - 8). omega (arith, same, r.0, s.0)) (λ (ne : t - 8 ≡ u - 8 → ⊥). absurd (one_register (t - 8) (u - 8) ne (sym r.2 ∙ s.2))) (cases_eq (t - 8) (u - 8))

-- ---- where a number stands

-- the register is that of a temporary from one on
pub record IsSeated (k : Keeping) (t : ℕ) (pins : List Pin) (q : ℕ) : Type 0 where
  pub number : ℕ
  pub from : t ≤ number
  pub below : number < t + length pins
  pub seat : register_of k number ≡ Some q

pub pin_seated : (k : Keeping) (t : ℕ) (pins : List Pin) (n q : ℕ) → StandFrom k t pins → pinned_in pins n ≡ Some q → IsSeated k t pins q
pin_seated k t [] n q stand e = absurd (none-some q e)
pin_seated k t (p ∷ pins) n q stand e = by (eqb p.number n) (pin_seated k (suc t) pins n q stand.1.1) e
  where
    by : (same : Bool) → (pinned_in pins n ≡ Some q → IsSeated k (suc t) pins q) → cond same (Some p.register) (pinned_in pins n) ≡ Some q → IsSeated k t (p ∷ pins) q
    by true rest e = record { number = t; from = omega arith; below = omega arith; seat = stand.0 ∙ e }
    by false rest e =
        let r = rest e in
        let from = r.from in let below = r.below in record { number = r.number; from = omega arith; below = omega arith; seat = r.seat }

pub first_past : (k : Keeping) (temps : ℕ) → temps ≤ first_pin k temps
first_past Saved temps = omega arith
first_past Arguments temps = le-max_left temps 1
first_past Mixed temps = le-max_left temps 1

no_result : (k : Keeping) (temps u : ℕ) → first_pin k temps ≤ u → register_of k u ≡ Some a0 → ⊥
no_result Saved temps u le e = by u (saved_some u a0 e).1
  where
    by : (u : ℕ) → a0 ≡ temp_register u → ⊥
    by zero e = omega (arith, e, temp_register_zero)
    by (suc u) e = omega (arith, e, temp_register_above (suc u) (omega arith))
no_result Arguments temps u le e = omega (arith, (argument_some u a0 e).1, le, le-max_right temps 1)
no_result Mixed temps u le e = by (mixed_some u a0 e)
  where
    by : IsMixed u a0 → ⊥
    by (inl s) = omega (arith, s.1, le, le-max_right temps 1)
    by (inr s) = argument_apart 0 (u - 8) (omega arith) s.2

pub pins_off_result : (k : Keeping) (params temps : ℕ) (pins : List Pin) → ArePins k params temps pins → (n : ℕ) → pinned_in pins n ≡ Some a0 → ⊥
pins_off_result k params temps pins are n e =
    let r = pin_seated k (first_pin k temps) pins n a0 are.stand e in no_result k temps r.number r.from r.seat

pub pins_within : (k : Keeping) (t : ℕ) (pins : List Pin) → StandFrom k t pins → All IsPin pins
pins_within k t [] stand = All-nil IsPin
pins_within k t (p ∷ pins) stand = All-cons IsPin p pins (seat_within k t p.register stand.0) (pins_within k (suc t) pins stand.1.1)

-- none where a temporary does
pub pins_off_temps : (k : Keeping) (params temps : ℕ) (pins : List Pin) → ArePins k params temps pins
    → (t n q : ℕ) → t < temps → register_of k t ≡ Some q → pinned_in pins n ≡ Some q → ⊥
pins_off_temps k params temps pins are t n q lt seat e =
    let r = pin_seated k (first_pin k temps) pins n q are.stand e in
    let from = r.from in omega (arith, one_seat k t r.number q seat r.seat, lt, from, first_past k temps)

-- where registers are saved, callees set back those of pins
pub pins_saved : (params temps : ℕ) (pins : List Pin) → ArePins Saved params temps pins → (n q : ℕ) → pinned_in pins n ≡ Some q → IsSaved q
pins_saved params temps pins are n q e = let r = pin_seated Saved temps pins n q are.stand e in seats_saved r.number q r.seat

-- ---- registers that no pin has

abbrev pub AreApart : ℕ → List Pin → Type 0
AreApart q [] = Unit {0}
AreApart q (p ∷ pins) = (q ≢ p.register) × AreApart q pins

-- such as no temporary from one on has
pub pins_apart : (k : Keeping) (t : ℕ) (pins : List Pin) (q : ℕ) → StandFrom k t pins → ((u : ℕ) → t ≤ u → u < t + length pins → register_of k u ≡ Some q → ⊥) → AreApart q pins
pins_apart k t [] q stand none = tt
pins_apart k t (p ∷ pins) q stand none = (
  λ e. none t (omega arith) (omega arith) (stand.0 ∙ ap Some (sym e)),
  pins_apart k (suc t) pins q stand.1.1 (λ u le lt. none u (omega (arith, le)) (omega (arith, lt))),
)

-- and those outside of the registers of temporaries
pub pins_below : (k : Keeping) (t : ℕ) (pins : List Pin) (q : ℕ) → StandFrom k t pins → q < 9 → AreApart q pins
pins_below k t pins q stand lt = pins_apart k t pins q stand (λ u le within e. let low = (seat_within k u q e).0 in omega arith)

pub pins_above : (k : Keeping) (t : ℕ) (pins : List Pin) (q : ℕ) → StandFrom k t pins → 26 ≤ q → AreApart q pins
pins_above k t pins q stand le = pins_apart k t pins q stand (λ u from within e. let high = (seat_within k u q e).1 in omega arith)

-- those of s1 to s9 that aren't saved
pub pins_off_rest : (k : Keeping) (params temps : ℕ) (pins : List Pin) (t : ℕ) → ArePins k params temps pins → saves k ≡ true → saved_seats k (first_pin k temps + length pins) ≤ t → t < 9
    → AreApart (temp_register t) pins
pins_off_rest k params temps pins t are h le lt = pins_apart k (first_pin k temps) pins (temp_register t) are.stand (by k h le)
  where
    by : (k : Keeping) → saves k ≡ true → saved_seats k (first_pin k temps + length pins) ≤ t → (u : ℕ) → first_pin k temps ≤ u → u < first_pin k temps + length pins
        → register_of k u ≡ Some (temp_register t) → ⊥
    by Saved h le u from below e =
        one_register t u (λ same. let within : suc t ≤ min (temps + length pins) 9 = le-min (omega (arith, same, below)) lt in omega (arith, within, le)) (saved_some u (temp_register t) e).1
    by Arguments h le u from below e = cc
    by Mixed h le u from below e = apart (mixed_some u (temp_register t) e)
      where
        apart : IsMixed u (temp_register t) → ⊥
        apart (inl s) = argument_apart u t s.0 (sym s.1)
        apart (inr s) =
            one_register t (u - 8) (λ same. let within : suc t ≤ min (max temps 1 + length pins - 8) 9 = le-min (omega (arith, same, below, s.0)) lt in omega (arith, within, le)) s.2

-- parameters that move come to registers of their own
pub pins_off_moving : (k : Keeping) (params temps : ℕ) (pins : List Pin) (j : ℕ) → ArePins k params temps pins → params ≤ temps → j < moving_words k params → AreApart (temp_register j) pins
pins_off_moving Saved params temps pins j are enough lt = pins_apart Saved temps pins (temp_register j) are.stand
    (λ u from below e. one_register j u (λ same. omega (arith, same, lt, from, enough)) (saved_some u (temp_register j) e).1)
pins_off_moving Arguments params temps pins j are enough lt = absurd (omega (arith, lt))
pins_off_moving Mixed params temps pins j are enough lt = absurd (omega (arith, lt))

-- ---- one pin more

pub stand_more : (k : Keeping) (t : ℕ) (pins : List Pin) (n q : ℕ) → StandFrom k t pins → register_of k (t + length pins) ≡ Some q → n < 2 ^ 32
    → StandFrom k t (pins ++ (record { number = n; register = q } ∷ []))
stand_more k t [] n q stand e lt = let same : t ≡ t + 0 = omega arith in (ap (register_of k) same ∙ e, (lt, tt))
stand_more k t (p ∷ pins) n q stand e lt =
    let same : suc t + length pins ≡ t + suc (length pins) = omega arith in (stand.0, (stand.1.0, stand_more k (suc t) pins n q stand.1.1 (ap (register_of k) same ∙ e) lt))

pub words_more : (pins : List Pin) (n q : ℕ) → pin_words (pins ++ (record { number = n; register = q } ∷ [])) ≡ pin_words pins + number_words n
words_more [] n q = omega arith
words_more (p ∷ pins) n q = omega (arith, words_more pins n q)

-- ---- how many there are

number_seated : (k : Keeping) (t q : ℕ) → register_of k t ≡ Some q → t < 17
number_seated Saved t q e = omega (arith, (saved_some t q e).0)
number_seated Arguments t q e = omega (arith, (argument_some t q e).0)
number_seated Mixed t q e = by (mixed_some t q e)
  where
    by : IsMixed t q → t < 17
    by (inl s) = omega (arith, s.0)
    by (inr s) = s.1

pub few_pins : (k : Keeping) (t : ℕ) (pins : List Pin) → StandFrom k t pins → length pins ≤ 17 - t
few_pins k t [] stand = omega arith
few_pins k t (p ∷ pins) stand = omega (arith, number_seated k t p.register stand.0, few_pins k (suc t) pins stand.1.1)

-- ---- their code

pub number_count : (n r : ℕ) → sum_by greatest_words (number_lines n r) ≤ number_words n
unfolding number_lines
number_count n r = by_length (eqb (upper_bits n) 0)
  where
    by_length : (is_short : Bool) → sum_by greatest_words (cond is_short (one (Addi r 0 (lower_bits n))) (two (Lui r (pos (upper_bits n))) (Addi r r (lower_bits n)))) ≤ cond is_short 1 2
    by_length true = omega arith
    by_length false = omega arith

pub pins_code : (k : Keeping) (t : ℕ) (pins : List Pin) → StandFrom k t pins → IsCode (pin_words pins) (pin_lines pins)
pins_code k t [] stand = (All-nil LineFits, omega arith)
pins_code k t (p ∷ pins) stand =
    let high = (seat_within k t p.register stand.0).1 in
    both (number_words p.number) (pin_words pins) (number_lines p.number p.register) (pin_lines pins)
    (number_fits p.number p.register (omega arith), number_count p.number p.register) (pins_code k (suc t) pins stand.1.1)
