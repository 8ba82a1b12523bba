-- The choice of pins: whichever numbers weigh most, those of a body are pins; and the choice, one turn on. Nothing else rests on how they are chosen.
use Rattle.std.proofs.Common.{◌≡◌, ℕ, zero, suc, ◌+◌, ◌-◌, ◌^◌, ◌<◌, ◌≤◌, Bool, true, false, not, ◌&&◌, cond, leb, ltb, List, [], length, Option, Some, None, refl, sym, ap, ap₂, subst, arith}
use Rattle.std.specs.Fn.{iterate}
use Rattle.std.proofs.lemmas.Bool.{ltb-true, leb-true}
use Rattle.mv_num.proofs.Booleans.{and_left, and_right}
use Rattle.mv_ir.specs.declared.body.Body.{Body}
use Rattle.mv_select_code.specs.Trees.TreeCode.{register_of, pinned_in}
use Rattle.mv_select_code.specs.declared.trees.places.Keeping.{Keeping}
use Rattle.mv_select_code.specs.declared.trees.places.Pin.{Pin}
use Rattle.mv_select.specs.Functions.Pins.{pin_words, StandFrom, first_pin, moving_words, ArePins, is_pinned, weighed, is_new, no_number, heaviest, with_pin, pin_next, pin_cost, pin_worth, pin_heaviest, chosen, pins_of}
use Rattle.mv_select.specs.Functions.Uses.{number_words, uses}
use Rattle.mv_select.specs.declared.pins.Weighed.{Weighed}
use Rattle.mv_select.proofs.OfFunctions.Pins.{stand_more, words_more}

-- ---- the pins of a body

-- pins that were chosen stand in registers, and have no more words than there is room for
pub record AreFew (k : Keeping) (first room : ℕ) (pins : List Pin) : Type 0 where
  pub stand : StandFrom k first pins
  pub few : pin_words pins ≤ room

pub next_few : (k : Keeping) (first room : ℕ) (pins : List Pin) (n : ℕ) → AreFew k first room pins → AreFew k first room (pin_next k first room pins n)
next_few k first room pins n are = by (is_new room pins n) refl
  where
    more : is_new room pins n ≡ true → (o : Option ℕ) → register_of k (first + length pins) ≡ o → AreFew k first room (with_pin o pins n)
    more new None e = are
    more new (Some q) e =
        let rest = and_right (not (is_pinned (pinned_in pins n))) (ltb n (2 ^ 32) && leb (pin_words pins + number_words n) room) new in record {
          stand = stand_more k first pins n q are.stand e (ltb-true n (2 ^ 32) (and_left (ltb n (2 ^ 32)) (leb (pin_words pins + number_words n) room) rest));
          few = subst (λ w. w ≤ room) (sym (words_more pins n q)) (leb-true (pin_words pins + number_words n) room (and_right (ltb n (2 ^ 32)) (leb (pin_words pins + number_words n) room) rest));
        }

    by : (b : Bool) → is_new room pins n ≡ b → AreFew k first room (cond b (with_pin (register_of k (first + length pins)) pins n) pins)
    by true e = more e (register_of k (first + length pins)) refl
    by false e = are

pub none_few : (k : Keeping) (first room : ℕ) → AreFew k first room []
none_few k first room = record { stand = tt; few = omega arith }

worth_few : (k : Keeping) (first room : ℕ) (pins : List Pin) (best : Weighed) → AreFew k first room pins → AreFew k first room (pin_worth k first room pins best)
worth_few k first room pins best are = by (ltb (pin_cost k best.number) best.weight)
  where
    by : (b : Bool) → AreFew k first room (cond b (pin_next k first room pins best.number) pins)
    by true = next_few k first room pins best.number are
    by false = are

pub heaviest_few : (k : Keeping) (first room : ℕ) (ws : List Weighed) (pins : List Pin) → AreFew k first room pins → AreFew k first room (pin_heaviest k first room ws pins)
heaviest_few k first room ws pins are = worth_few k first room pins (heaviest room pins no_number ws) are

all_few : (k : Keeping) (first room : ℕ) (ws : List Weighed) (turns : ℕ) (pins : List Pin) → AreFew k first room pins → AreFew k first room (iterate (pin_heaviest k first room ws) turns pins)
all_few k first room ws zero pins are = are
all_few k first room ws (suc turns) pins are = all_few k first room ws turns (pin_heaviest k first room ws pins) (heaviest_few k first room ws pins are)

pub pins_are : (k : Keeping) (body : Body) → ArePins k body.params body.temps (pins_of k body)
unfolding pins_of chosen
pins_are k body =
    let are = all_few k (first_pin k body.temps) (8 - moving_words k body.params) (weighed (uses body)) 9 [] (none_few k (first_pin k body.temps) (8 - moving_words k body.params)) in
    record { stand = are.stand; few = are.few }

-- ---- one turn on

pub turns_begin : (k : Keeping) (first room : ℕ) (ws : List Weighed) (turns : ℕ) (pins : List Pin) → turns ≡ 9 → pins ≡ [] → iterate (pin_heaviest k first room ws) turns pins ≡ chosen k first room ws
unfolding chosen
turns_begin k first room ws turns pins nine none = ap₂ (iterate (pin_heaviest k first room ws)) nine none

pub turn_on : (f : List Pin → List Pin) (turn : ℕ) (pins : List Pin) → turn < 9 → iterate f (9 - (turn + 1)) (f pins) ≡ iterate f (9 - turn) pins
turn_on f turn pins lt = let e : suc (9 - (turn + 1)) ≡ 9 - turn = omega arith in ap (λ n. iterate f n pins) e

pub turns_end : (f : List Pin → List Pin) (turn : ℕ) (pins : List Pin) → 9 ≤ turn → iterate f (9 - turn) pins ≡ pins
turns_end f turn pins le = let e : 9 - turn ≡ 0 = omega arith in ap (λ n. iterate f n pins) e
