-- The log of a run has an event for each binding that an instruction changes, and a log that the code keeps has the same.
use Rattle.std.proofs.Common.{ℕ, suc, ◌≡◌, ◌&&◌, nat_eq, Bool, true, inl, inr, if◌then◌else◌, List, [], ◌∷◌, ◌++◌, length, Option, Some, None, IfSome, refl, sym, ap, ap₂, ◌∙◌, subst, append_assoc, append-nil}
use Rattle.std.proofs.lemmas.Bool.{and_from, eq-eqb}
use Rattle.mv_bindings.specs.declared.binding.Binding.{Binding}
use Rattle.mv_bindings.specs.declared.binding.Event.{Event}
use Rattle.mv_bindings.specs.Bindings.{same_words, same_truth, is_same_binding, events_from}
use Rattle.mv_bindings.proofs.Common.{truth_same}
use Rattle.mv_isa.specs.Execution.{Outcome, Goes, Calls, Faults, reg}
use Rattle.mv_fetch.specs.Held.{Room}
use Rattle.mv_io.proofs.Common.{some_later}
use Rattle.mv_probe.specs.Ways.{Way}
use Rattle.mv_machine.specs.declared.logging.Log.{Log}
use Rattle.mv_machine.specs.declared.machine.Stopped.{Stopped}
use Rattle.mv_machine.specs.Logging.{HasCome, Adds, Notes, events_of}
use Rattle.mv_machine.specs.Snapshots.{Logs}
use Rattle.mv_machine.specs.Runs.{State, Stop, Going, Exit, Trap, Fault, Request, Exits, Reads, Writes, Traps, Plans, Polls, Unknown, request_of, argument, answered, bytes_to_come, environment_call, fetched_step, after, is_going, turn}
use Rattle.mv_machine.specs.Moves.{Seen, shown, Moves, Turns}
use Rattle.mv_machine.proofs.Leaving.{Leaves, planned_leaves, polled_leaves}
use Rattle.mv_machine.proofs.Walks.{outcomes_map}

-- ---- the same bindings have no events

words_same : (xs : List ℕ) → same_words xs xs ≡ true
words_same [] = refl
words_same (x ∷ xs) = and_from (nat_eq x x) (same_words xs xs) (eq-eqb x x refl) (words_same xs)

binding_same : (a : Binding) → is_same_binding a a ≡ true
binding_same a =
    and_from (same_truth a.bound a.bound) (nat_eq a.count a.count && same_words a.values a.values) (truth_same a.bound)
    (and_from (nat_eq a.count a.count) (same_words a.values a.values) (eq-eqb a.count a.count refl) (words_same a.values))

pub no_events : (i : ℕ) (bs : List Binding) → events_from i bs bs ≡ []
no_events i [] = refl
no_events i (b ∷ bs) =
    ap₂ (λ (same : Bool) (rest : List Event). (if same then [] else record { function = i; binding = b } ∷ []) ++ rest) (binding_same b) (no_events (suc i) bs)

-- ---- one instruction

abbrev IsLogged : State → State → Type 0
IsLogged s t = t.log ≡ s.log ++ events_from 0 s.bindings t.bindings

nothing_logged : (s : State) → s.log ≡ s.log ++ events_from 0 s.bindings s.bindings
nothing_logged s = sym (ap (λ (es : List Event). s.log ++ es) (no_events 0 s.bindings) ∙ append-nil s.log)

plan_logged : (s : State) → Leaves (λ (t : State). IsLogged s t) s
unfolding answered
plan_logged s = record {
  refuses = λ actions answer. nothing_logged s;
  carries = λ room actions plan answer. refl;
  adopts = λ actions bs. refl;
  faults = nothing_logged s;
}

call_logged : (request : Request) (s : State) → IsLogged s (environment_call request s)
unfolding answered
call_logged Exits s = nothing_logged s
call_logged Reads s = nothing_logged s
call_logged Writes s = nothing_logged s
call_logged Traps s = nothing_logged s
call_logged Plans s = planned_leaves (λ (t : State). IsLogged s t) s (argument s) (reg s.regs 11) (plan_logged s)
call_logged Polls s = polled_leaves (λ (t : State). IsLogged s t) s (plan_logged s)
call_logged Unknown s = nothing_logged s

after_logged : (outcome : Outcome Room) (s : State) → IsLogged s (after outcome s)
after_logged (Goes regs pc room) s = nothing_logged s
after_logged Calls s = call_logged (request_of (reg s.regs 17)) s
after_logged (Faults why) s = nothing_logged s

going_logged : (stop : Stop) (s going : State) → IsLogged s going → IsLogged s (if is_going stop then going else s)
going_logged Going s going h = h
going_logged (Exit status) s going h = nothing_logged s
going_logged (Trap code) s going h = nothing_logged s
going_logged (Fault why) s going h = nothing_logged s

turn_logged : (s : State) (pick : ℕ) → IsLogged s (turn s pick)
unfolding turn
turn_logged s pick = going_logged s.stop s (after (fetched_step s pick) s) (after_logged (fetched_step s pick) s)

-- ---- what is told of it

still_none : (x y : Seen) → y ≡ x → [] ≡ events_from 0 x.bindings y.bindings
still_none x y same = sym (ap (λ (z : Seen). events_from 0 x.bindings z.bindings) same ∙ no_events 0 x.bindings)

news_are : (x y : Seen) (pick : ℕ) (stop : Stop) (Told : List Event → Type 0) → (m : Moves (λ s. turn s pick) x y stop Told) → m.1 ≡ events_from 0 x.bindings y.bindings
news_are x y pick stop Told m =
    let later = some_later y.left in
    let s : State = shown x Going (bytes_to_come (m.4.0 ++ later.0)) [] [] in
    let at = (m.4.2 later.0 later.1 [] []).1 in
    ap (λ (e : State). e.log) (sym at) ∙ turn_logged s pick ∙ ap (λ (e : State). events_from 0 x.bindings e.bindings) at

-- an instruction tells exactly the events of the bindings that it changes
turns_telling : (r : Option Stopped) (x y : Seen) (way way' : Option Way) (A B : Type 0) (Told Tells : List Event → Type 0) →
    ((news : List Event) → Told news → news ≡ events_from 0 x.bindings y.bindings → Tells news) → Turns r x y way way' A B Told → Turns r x y way way' A B Tells
turns_telling r x y way way' A B Told Tells f (inl t) = inl (t.0, t.1, t.2, f [] t.3 (still_none x y t.2), t.4)
turns_telling r x y way way' A B Told Tells f (inr t) = inr (
  t.0,
  t.1,
  t.2,
  outcomes_map r
      (λ stop m. (m.0, m.1, m.2, f m.1 m.3 (news_are x y t.0 stop Told m), m.4))
      (λ i. (i.0, f [] i.1 (still_none x y i.0), i.2, i.3))
      (λ o. (o.0, f [] o.1 (still_none x y o.0), o.2, o.3))
      (λ w. (w.0, f [] w.1 (still_none x y w.0), w.2))
      t.3,
)

-- what is told, and that it stands between one list of events and another
abbrev pub Also : (Told : List Event → Type 0) → (before now : List Event) → List Event → Type 0
Also Told before now news = Told news × (now ≡ before ++ news)

pub turns_logged : (r : Option Stopped) (x y : Seen) (way way' : Option Way) (A B : Type 0) (Told : List Event → Type 0) (events : List Event) →
    Turns r x y way way' A B Told → Turns r x y way way' A B (Also Told events (events ++ events_from 0 x.bindings y.bindings))
turns_logged r x y way way' A B Told events turns =
    turns_telling r x y way way' A B Told (Also Told events (events ++ events_from 0 x.bindings y.bindings)) (λ news heard are. (heard, ap (λ (es : List Event). events ++ es) (sym are))) turns

-- ---- what the code keeps of it

pub adds_none : (log : Option Log) → Adds [] log log
adds_none None = tt
adds_none (Some kept) = sym (append-nil kept.events)

pub adds_more : (events : List Event) (bound new : List Binding) (a b c : Option Log) → Adds events a b → HasCome bound b → Notes new b c → Adds (events ++ events_from 0 bound new) a c
adds_more events bound new a b None adds come notes = tt
adds_more events bound new a None (Some now) adds come notes = absurd notes
adds_more events bound new None (Some kept) (Some now) adds come notes = absurd adds
adds_more events bound new (Some was) (Some kept) (Some now) adds come notes =
    notes.1 ∙ ap₂ (λ (es : List Event) (bs : List Binding). es ++ events_from 0 bs new) adds come ∙ append_assoc was.events events (events_from 0 bound new)

pub comes_to : (new : List Binding) (a b : Option Log) → Notes new a b → HasCome new b
comes_to new a None notes = tt
comes_to new None (Some now) notes = absurd notes
comes_to new (Some kept) (Some now) notes = notes.0

pub has_count : (n : ℕ) (bound : List Binding) (log : Option Log) → HasCome bound log → length bound ≡ n → IfSome log (λ kept. length kept.bindings ≡ n)
has_count n bound None come count = tt
has_count n bound (Some kept) come count = ap length come ∙ count

-- events that were added behind events that were added
pub added : (before events xs ys all : List Event) → events ≡ before ++ xs → all ≡ events ++ ys → all ≡ before ++ (xs ++ ys)
added before events xs ys all first behind = behind ∙ ap (λ (es : List Event). es ++ ys) first ∙ append_assoc before xs ys

-- a log that was kept from the start on has exactly the events that were added
pub logs_of : (events : List Event) (was is : Option Log) (log : Option (List Event)) → IfSome was (λ kept. kept.events ≡ []) → Adds events was is → log ≡ events_of is → Logs log events
logs_of events was None log none adds e = subst (λ (o : Option (List Event)). Logs o events) (sym e) tt
logs_of events None (Some now) log none adds e = absurd adds
logs_of events (Some before) (Some now) log none adds e =
    subst (λ (o : Option (List Event)). Logs o events) (sym e) (adds ∙ ap (λ (es : List Event). es ++ events) none)

-- one that wasn't kept at the start isn't kept at the end
pub none_kept : (events : List Event) (was is : Option Log) → was ≡ None → Adds events was is → events_of is ≡ None
none_kept events None None none adds = refl
none_kept events None (Some now) none adds = absurd adds
none_kept events (Some before) is none adds = absurd (cc none)
