-- What a probe tells of itself.
use Rattle.std.specs.Prelude.{ℕ, ◌≡◌, ◌-◌, ◌<◌, ◌≤◌, List, ◌++◌, length, Option, Some, None, option_map, IfSome}
use Rattle.mv_bindings.specs.declared.binding.Event.{Event}
use Rattle.mv_probe.specs.declared.probe.Verdict.{Verdict}
use Rattle.mv_probe.specs.declared.probe.Verdict.TheVariants.{Keep, Leave}

-- the events that it was told, and the number of events until the one at which it leaves, each where it tells it
pub record Hearing : Type 0 where
  pub told : Option (List Event)
  pub patience : Option ℕ

abbrev pub hearing : (told : Option (List Event)) (patience : Option ℕ) → Hearing
hearing told patience = record { told = told; patience = patience }

-- what is left of a told patience after so many events
abbrev pub rest_of : Option ℕ → ℕ → Option ℕ
rest_of patience count = option_map (λ k. k - count) patience

-- a told patience is above 0
abbrev pub IsPatient : Hearing → Type 0
IsPatient h = IfSome h.patience (λ k. 0 < k)

-- it was told these events, in order, after what it had been told before
abbrev pub Hears : List Event → Hearing → Hearing → Type 0
Hears events was is = (is.told ≡ option_map (λ before. before ++ events) was.told) × (is.patience ≡ rest_of was.patience (length events))

-- it stays through so many events: fewer than a told patience
abbrev pub Stays : ℕ → Hearing → Type 0
Stays count was = IfSome was.patience (λ k. count < k)

-- it leaves within so many events: at least as many as a told patience
abbrev pub Leaves : ℕ → Hearing → Type 0
Leaves count was = IfSome was.patience (λ k. k ≤ count)

-- its answer to an event: it leaves exactly where this uses up its patience
abbrev pub Answers : Hearing → Verdict → Type 0
Answers was Keep = Stays 1 was
Answers was Leave = Leaves 1 was

-- an object in memory: where it stands, and by which type's methods it is called
abbrev pub object_at : {A B : Type 0} → (place : A) (methods : B) → A × B
object_at place methods = (place, methods)

-- what becomes of a probe while it is told these events, in order: it stays, the same object, and hears them all, or it leaves at one of them
abbrev pub Becomes : {P K : Type 0} → (object : P → K) → (of : P → Hearing) → List Event → P → Option P → Type 0
Becomes object of events was (Some is) = Stays (length events) (of was) × Hears events (of was) (of is) × (object is ≡ object was)
Becomes object of events was None = (0 < length events) × Leaves (length events) (of was)
