-- Events of bindings that differ, one after the other, and bindings that are taken on.
use Rattle.std.proofs.Common.{◌≡◌, ℕ, suc, ◌+◌, ◌<◌, ◌≤◌, Bool, true, false, if◌then◌else◌, List, [], ◌∷◌, ◌++◌, length, drop, get_or, refl, sym, ap, ap₂, ◌∙◌, subst, append_assoc, append-nil, add-one}
use Rattle.std.proofs.lemmas.List.{drop_more, drop_all}
use Rattle.mv_bindings.specs.declared.binding.Binding.{Binding}
use Rattle.mv_bindings.specs.declared.binding.Event.{Event}
use Rattle.mv_bindings.specs.Bindings.{is_same_binding, events_from}
use Rattle.mv_probe.specs.Hearing.{Hearing, Becomes}
use Rattle.mv_probe.specs.Fates.{Fates}
use Rattle.mv_machine.specs.Engines.{change}
use Rattle.mv_bindings.proofs.Common.{events_from-end}

-- these events and those of the bindings from a place on are all events
abbrev pub IsTold : (old new : List Binding) (place : ℕ) → List Event → Type 0
IsTold old new place sofar = sofar ++ events_from place (drop place old) (drop place new) ≡ events_from 0 old new

pub told_none : (old new : List Binding) → IsTold old new 0 []
told_none old new = refl

step : (place : ℕ) (old new : List Binding) (a b : Binding) → place < length old → place < length new
    → events_from place (drop place old) (drop place new) ≡ change place (get_or old place a) (get_or new place b) ++ events_from (suc place) (drop (place + 1) old) (drop (place + 1) new)
step place old new a b lt lt' = ap₂ (λ (xs ys : List Binding). events_from place xs ys) (drop_more old place a lt) (drop_more new place b lt')

next : (place : ℕ) (xs ys : List Binding) → events_from (suc place) xs ys ≡ events_from (place + 1) xs ys
next place xs ys = ap (λ k. events_from k xs ys) (sym (add-one place))

pub told_next : (old new : List Binding) (place : ℕ) (sofar : List Event) (a b : Binding) → place < length old → place < length new
    → IsTold old new place sofar → IsTold old new (place + 1) (sofar ++ change place (get_or old place a) (get_or new place b))
told_next old new place sofar a b lt lt' told =
    let later = events_from (place + 1) (drop (place + 1) old) (drop (place + 1) new) in
    let here = change place (get_or old place a) (get_or new place b) in
    let e : events_from place (drop place old) (drop place new) ≡ here ++ later =
    step place old new a b lt lt' ∙ ap (λ (es : List Event). here ++ es) (next place (drop (place + 1) old) (drop (place + 1) new)) in
    append_assoc sofar here later ∙ ap (λ (es : List Event). sofar ++ es) (sym e) ∙ told

pub told_all : (old new : List Binding) (place : ℕ) (sofar : List Event) → length new ≤ place → IsTold old new place sofar → sofar ≡ events_from 0 old new
told_all old new place sofar le told =
    sym (append-nil sofar) ∙ ap (λ (es : List Event). sofar ++ es) (sym (ap (λ (ys : List Binding). events_from place (drop place old) ys) (drop_all place new le) ∙ events_from-end place (drop place old))) ∙ told

-- what the probes were told of one binding
module _ {P K : Type 0} (object : P → K) (of : P → Hearing) (function : ℕ) (old new : Binding) (was now : List P) where
  pub changed_told : is_same_binding old new ≡ false → Fates (Becomes object of (record { function = function; binding = new } ∷ [])) was now → Fates (Becomes object of (change function old new)) was now
  changed_told e f = subst (λ (same : Bool). Fates (Becomes object of (if same then [] else record { function = function; binding = new } ∷ [])) was now) (sym e) f

  pub unchanged_told : is_same_binding old new ≡ true → Fates (Becomes object of []) was now → Fates (Becomes object of (change function old new)) was now
  unchanged_told e f = subst (λ (same : Bool). Fates (Becomes object of (if same then [] else record { function = function; binding = new } ∷ [])) was now) (sym e) f

-- the same of equal events
pub told_these : {P K : Type 0} (object : P → K) (of : P → Hearing) (xs ys : List Event) (was now : List P) → xs ≡ ys → Fates (Becomes object of xs) was now → Fates (Becomes object of ys) was now
told_these object of xs ys was now e f = subst (λ (es : List Event). Fates (Becomes object of es) was now) e f
