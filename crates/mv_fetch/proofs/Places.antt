-- Where an address lies, by how far it is above the first one of a region.
use Rattle.std.proofs.Common.{◌≡◌, ℕ, ◌-◌, ◌/◌, ◌%◌, ◌<◌, ◌≤◌, Bool, true, false, cond, ltb, eqb, List, [], slice_get, Option, Some, None, IfSome, ⊎_elim, length, refl, sym, ap, ap₂, ◌∙◌, subst, arith}
use Rattle.std.proofs.lemmas.Bool.{cases_lt}
use Rattle.std.proofs.lemmas.Option.{slice_get_past, slice_get_within}
use Rattle.std.proofs.lemmas.Bool.Decides.{nat_tests}
use Rattle.mv_num.specs.Regions.{text_start, text_limit, data_start, data_limit, stack_start, stack_words}
use Rattle.mv_fetch.specs.Held.{Held, region_of, index_of, words_of, present, choices, choices_in, choices_of, older_at}
use Rattle.mv_fetch.specs.declared.region.Region.{Region}
use Rattle.mv_fetch.specs.declared.region.Region.TheVariants as region

text_region : (a : ℕ) → 0x1000 ≤ a → a < 0x0010_0000 → region_of a ≡ region.Text
unfolding region_of
text_region a low high =
    let t1 : ltb a 0x1000 ≡ false = grind (arith, nat_tests, low) in
    let t2 : ltb a 0x0010_0000 ≡ true = grind (arith, nat_tests, high) in
    rw (t1, t2) refl

globals_region : (a : ℕ) → 0x0010_0000 ≤ a → a < 0x0020_0000 → region_of a ≡ region.Globals
unfolding region_of
globals_region a low high =
    let t1 : ltb a 0x1000 ≡ false = grind (arith, nat_tests, low) in
    let t2 : ltb a 0x0010_0000 ≡ false = grind (arith, nat_tests, low) in
    let t3 : ltb a 0x0020_0000 ≡ true = grind (arith, nat_tests, high) in
    rw (t1, t2, t3) refl

stack_region : (a : ℕ) → 0x0020_0000 ≤ a → a < 0x0040_0000 → region_of a ≡ region.Stack
unfolding region_of
stack_region a low high =
    let t1 : ltb a 0x1000 ≡ false = grind (arith, nat_tests, low) in
    let t2 : ltb a 0x0010_0000 ≡ false = grind (arith, nat_tests, low) in
    let t3 : ltb a 0x0020_0000 ≡ false = grind (arith, nat_tests, low) in
    let t4 : ltb a 0x0040_0000 ≡ true = grind (arith, nat_tests, high) in
    rw (t1, t2, t3, t4) refl

text_index : (a : ℕ) → a < 0x0010_0000 → index_of a ≡ (a - 0x1000) / 4
unfolding index_of
text_index a high = let t : ltb a 0x0010_0000 ≡ true = grind (arith, nat_tests, high) in rw t refl

globals_index : (a : ℕ) → 0x0010_0000 ≤ a → a < 0x0020_0000 → index_of a ≡ (a - 0x0010_0000) / 4
unfolding index_of
globals_index a low high =
    let t2 : ltb a 0x0010_0000 ≡ false = grind (arith, nat_tests, low) in
    let t3 : ltb a 0x0020_0000 ≡ true = grind (arith, nat_tests, high) in
    rw (t2, t3) refl

pub stack_index : (a : ℕ) → 0x0020_0000 ≤ a → a < 0x0040_0000 → index_of a ≡ (a - 0x0020_0000) / 4
unfolding index_of
stack_index a low high =
    let t2 : ltb a 0x0010_0000 ≡ false = grind (arith, nat_tests, low) in
    let t3 : ltb a 0x0020_0000 ≡ false = grind (arith, nat_tests, low) in
    let t4 : ltb a 0x0040_0000 ≡ true = grind (arith, nat_tests, high) in
    rw (t2, t3, t4) refl

-- ---- what the words above the start of a region tell

abbrev Here : (start a n k : ℕ) → Type 0
Here start a n k = start ≤ a → a % n ≡ 0 → k ≡ (a - start) / 4

abbrev Elsewhere : (start a n k : ℕ) → Type 0
Elsewhere start a n k = k < 0x2000_0000 → (start ≤ a) × (a % n ≡ 0)

-- the address is a multiple of the width, and its word has this place
abbrev At : (a n k : ℕ) → Region → Type 0
At a n k r = (a % n ≡ 0) × (region_of a ≡ r) × (index_of a ≡ k)

pub in_stack : (a n k : ℕ) → Here stack_start a n k → Elsewhere stack_start a n k → k < stack_words → At a n k region.Stack
in_stack a n k here elsewhere l =
    let at = elsewhere (omega (arith, l)) in
    let e = here at.0 at.1 in
    let low = at.0 in
    let high : a < 0x0040_0000 = omega (arith, low, e, l) in
    (at.1, stack_region a low high, stack_index a low high ∙ sym e)

pub in_globals : (a n k : ℕ) → Here data_start a n k → Elsewhere data_start a n k → k < data_limit → At a n k region.Globals
in_globals a n k here elsewhere l =
    let at = elsewhere (omega (arith, l)) in
    let e = here at.0 at.1 in
    let low = at.0 in
    let high : a < 0x0020_0000 = omega (arith, low, e, l) in
    (at.1, globals_region a low high, globals_index a low high ∙ sym e)

in_text : (a n k : ℕ) → Here text_start a n k → Elsewhere text_start a n k → k < text_limit → At a n k region.Text
in_text a n k here elsewhere l =
    let at = elsewhere (omega (arith, l)) in
    let e = here at.0 at.1 in
    let low = at.0 in
    let high : a < 0x0010_0000 = omega (arith, low, e, l) in
    (at.1, text_region a low high, text_index a high ∙ sym e)

present_at : (h : Held) (a n k w : ℕ) (r : Region) → At a n k r → slice_get (words_of h r) k ≡ Some w → (a % n ≡ 0) × (present h a ≡ Some w)
unfolding present
present_at h a n k w r at e = (at.0, ap₂ (λ (q : Region) (i : ℕ). slice_get (words_of h q) i) at.1 at.2 ∙ e)

pub near_stack : (h : Held) (a n k w : ℕ) → length h.stack ≡ stack_words → Here stack_start a n k → Elsewhere stack_start a n k → slice_get h.stack k ≡ Some w → (a % n ≡ 0) × (present h a ≡ Some w)
near_stack h a n k w whole here elsewhere e =
    let l = slice_get_within h.stack k w e in
    present_at h a n k w region.Stack (in_stack a n k here elsewhere (omega (arith, l, whole))) e

pub near_globals : (h : Held) (a n k w : ℕ) → length h.globals ≤ data_limit → Here data_start a n k → Elsewhere data_start a n k → slice_get h.globals k ≡ Some w → (a % n ≡ 0) × (present h a ≡ Some w)
near_globals h a n k w short here elsewhere e =
    let l = slice_get_within h.globals k w e in
    present_at h a n k w region.Globals (in_globals a n k here elsewhere (omega (arith, l, short))) e

pub if_some : (r : Option ℕ) (P : ℕ → Type 0) → ((w : ℕ) → r ≡ Some w → P w) → IfSome r P
if_some None P f = tt
if_some (Some w) P f = f w refl

-- ---- and the other way

abbrev IsText : Region → Type 0
IsText region.Text = Unit {0}
IsText region.Globals = ⊥
IsText region.Stack = ⊥
IsText region.Plan = ⊥
IsText region.Nowhere = ⊥

not_text : (b c d : Bool) → IsText (cond b region.Globals (cond c region.Stack (cond d region.Plan region.Nowhere))) → ⊥
not_text true c d t = t
not_text false true d t = t
not_text false false true t = t
not_text false false false t = t

cases_text : (b c : Bool) (r : Region) → (IsText r → ⊥) → IsText (cond b region.Nowhere (cond c region.Text r)) → (b ≡ false) × (c ≡ true)
cases_text true c r other t = absurd t
cases_text false true r other t = (refl, refl)
cases_text false false r other t = absurd (other t)

text_bounds : (a : ℕ) → IsText (region_of a) → (0x1000 ≤ a) × (a < 0x0010_0000)
unfolding region_of
text_bounds a t =
    let c = cases_text (ltb a 0x1000) (ltb a 0x0010_0000) _ (not_text (ltb a 0x0020_0000) (ltb a 0x0040_0000) (ltb a 0x0048_0000)) t in
    let low = c.0 in
    let high = c.1 in
    (grind (arith, nat_tests, low), grind (arith, nat_tests, high))

-- ---- the first choice of a fetch

first_of : (o : Option ℕ) (older : List ℕ) → slice_get (choices_of o older) 0 ≡ o
first_of None older = refl
first_of (Some w) older = refl

first_at : (h : Held) (a k : ℕ) → At a 4 k region.Text → slice_get h.text k ≡ slice_get (choices h a) 0
unfolding choices
first_at h a k at =
    let aligned = at.0 in
    let t : eqb (a % 4) 0 ≡ true = grind (arith, nat_tests, aligned) in
    let e : choices_in h (region_of a) (index_of a) ≡ choices_in h region.Text k = ap₂ (λ (q : Region) (n : ℕ). choices_in h q n) at.1 at.2 in
    rw t (sym (ap (λ (words : List ℕ). slice_get words 0) e ∙ first_of (slice_get h.text k) (older_at h.older k)))

none_in : (h : Held) (r : Region) (k : ℕ) → (r ≡ region.Text → length h.text ≤ k) → slice_get (choices_in h r k) 0 ≡ None
none_in h region.Text k past = first_of (slice_get h.text k) (older_at h.older k) ∙ slice_get_past h.text k (past refl)
none_in h region.Globals k past = refl
none_in h region.Stack k past = refl
none_in h region.Plan k past = refl
none_in h region.Nowhere k past = refl

none_cond : (b : Bool) (words : List ℕ) → (b ≡ true → slice_get words 0 ≡ None) → slice_get (cond b words []) 0 ≡ None
none_cond true words none = none refl
none_cond false words none = refl

none_at : (h : Held) (a : ℕ) → (a % 4 ≡ 0 → region_of a ≡ region.Text → length h.text ≤ index_of a) → slice_get (choices h a) 0 ≡ None
unfolding choices
none_at h a past = none_cond (eqb (a % 4) 0) (choices_in h (region_of a) (index_of a)) (λ (t : eqb (a % 4) 0 ≡ true). let aligned : a % 4 ≡ 0 = grind (arith, nat_tests, t) in none_in h (region_of a) (index_of a) (past aligned))

pub first_choice_at : (h : Held) (a k : ℕ) → length h.text ≤ text_limit → Here text_start a 4 k → Elsewhere text_start a 4 k → slice_get h.text k ≡ slice_get (choices h a) 0
first_choice_at h a k short here elsewhere = ⊎_elim
    (λ (l : k < length h.text). first_at h a k (in_text a 4 k here elsewhere (omega (arith, l, short))))
    (λ (past : length h.text ≤ k).
    let none = none_at h a (λ (aligned : a % 4 ≡ 0) (r : region_of a ≡ region.Text).
    let bounds = text_bounds a (subst IsText (sym r) tt) in
    let i = text_index a bounds.1 in
    let e = here bounds.0 aligned in
    omega (arith, past, i, e)) in
    slice_get_past h.text k past ∙ sym none)
    (cases_lt k (length h.text))
