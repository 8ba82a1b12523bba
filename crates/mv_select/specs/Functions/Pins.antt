-- Pins: numbers that stand in registers from a function's entry on, in those that temporaries would have if there were more of them.
use Rattle.std.specs.Prelude.{ℕ, suc, ◌≡◌, ◌+◌, ◌-◌, ◌^◌, ◌<◌, ◌≤◌, Bool, true, false, not, ◌&&◌, ◌||◌, cond, eqb, leb, ltb, max, List, [], ◌∷◌, ◌++◌, length, map, Option, Some, None}
use Rattle.std.specs.Fn.{iterate}
use Rattle.mv_num.specs.Lists.{is_among}
use Rattle.mv_isa.specs.declared.labelled.Line.{Line}
use Rattle.mv_ir.specs.declared.body.Body.{Body}
use Rattle.mv_select_code.specs.Trees.TreeCode.{number_lines, register_of, pinned_in}
use Rattle.mv_select_code.specs.declared.trees.places.Keeping.{Keeping}
use Rattle.mv_select_code.specs.declared.trees.places.Keeping.TheVariants.{Saved, Arguments, Mixed}
use Rattle.mv_select_code.specs.declared.trees.places.Pin.{Pin}
use Rattle.mv_select.specs.declared.pins.Weighed.{Weighed}
use Rattle.mv_select.specs.declared.uses.Use.{Use}
use Rattle.mv_select.specs.Functions.Uses.{number_words, uses}

-- each number comes into its register
abbrev pub pin_lines : List Pin → List Line
pin_lines [] = []
pin_lines (p ∷ pins) = number_lines p.number p.register ++ pin_lines pins

abbrev pub pin_words : List Pin → ℕ
pin_words [] = 0
pin_words (p ∷ pins) = number_words p.number + pin_words pins

-- pins have the registers of temporaries from one on
abbrev pub StandFrom : Keeping → ℕ → List Pin → Type 0
StandFrom k t [] = Unit {0}
StandFrom k t (p ∷ pins) = (register_of k t ≡ Some p.register) × ((p.number < 2 ^ 32) × StandFrom k (suc t) pins)

-- the temporary whose register the first of them has: one that there isn't, and not that of a0, where results go
abbrev pub first_pin : Keeping → ℕ → ℕ
first_pin Saved temps = temps
first_pin Arguments temps = max temps 1
first_pin Mixed temps = max temps 1

-- how many words of an entry bring parameters to their temporaries
abbrev pub moving_words : Keeping → ℕ → ℕ
moving_words Saved params = params
moving_words Arguments params = 0
moving_words Mixed params = 0

-- with these they have at most eight words, so that the greatest entry stays as long as without them
pub record ArePins (k : Keeping) (params temps : ℕ) (pins : List Pin) : Type 0 where
  pub stand : StandFrom k (first_pin k temps) pins
  pub few : pin_words pins ≤ 8 - moving_words k params

-- ---- the choice: numbers that save most, while there are registers and words

-- so much a number saves in all
abbrev pub weight_of : List Use → ℕ → ℕ
weight_of [] n = 0
weight_of (u ∷ us) n = cond (eqb u.number n) u.weight 0 + weight_of us n

-- at most 64 numbers, each once
abbrev pub with_number : List ℕ → ℕ → List ℕ
with_number ns n = cond (is_among n ns || leb 64 (length ns)) ns (ns ++ n ∷ [])

-- the first numbers that have uses
abbrev pub numbers_from : List ℕ → List Use → List ℕ
numbers_from ns [] = ns
numbers_from ns (u ∷ us) = numbers_from (with_number ns u.number) us

abbrev pub weigh : List Use → ℕ → Weighed
weigh us n = record { number = n; weight = weight_of us n }

abbrev pub weighed : List Use → List Weighed
weighed us = map (weigh us) (numbers_from [] us)

abbrev pub is_pinned : Option ℕ → Bool
is_pinned None = false
is_pinned (Some q) = true

-- a number that has no pin yet, and so few words
abbrev pub is_new : (room : ℕ) → List Pin → ℕ → Bool
is_new room pins n = not (is_pinned (pinned_in pins n)) && (ltb n (2 ^ 32) && leb (pin_words pins + number_words n) room)

abbrev pub no_number : Weighed
no_number = record { number = 0; weight = 0 }

-- the greatest weight of a number that is new, else the best so far; the first among equals
abbrev pub heaviest : (room : ℕ) → List Pin → Weighed → List Weighed → Weighed
heaviest room pins best [] = best
heaviest room pins best (x ∷ xs) = heaviest room pins (cond (is_new room pins x.number && ltb best.weight x.weight) x best) xs

abbrev pub with_pin : Option ℕ → List Pin → ℕ → List Pin
with_pin None pins n = pins
with_pin (Some q) pins n = pins ++ (record { number = n; register = q } ∷ [])

abbrev pub pin_next : Keeping → (first room : ℕ) → List Pin → ℕ → List Pin
pin_next k first room pins n = cond (is_new room pins n) (with_pin (register_of k (first + length pins)) pins n) pins

-- what a pin costs at entry and return: its words, and where registers are saved two more
abbrev pub pin_cost : Keeping → ℕ → ℕ
pin_cost Saved n = number_words n + 2
pin_cost Arguments n = number_words n
pin_cost Mixed n = number_words n + 2

-- a pin for a number that saves more than it costs
abbrev pub pin_worth : Keeping → (first room : ℕ) → List Pin → Weighed → List Pin
pin_worth k first room pins best = cond (ltb (pin_cost k best.number) best.weight) (pin_next k first room pins best.number) pins

abbrev pub pin_heaviest : Keeping → (first room : ℕ) → List Weighed → List Pin → List Pin
pin_heaviest k first room ws pins = pin_worth k first room pins (heaviest room pins no_number ws)

-- at most nine
unfoldable pub chosen : Keeping → (first room : ℕ) → List Weighed → List Pin
chosen k first room ws = iterate (pin_heaviest k first room ws) 9 []

unfoldable pub pins_of : Keeping → Body → List Pin
pins_of k body = chosen k (first_pin k body.temps) (8 - moving_words k body.params) (weighed (uses body))
