-- What the code keeps of the log of a run.
use Rattle.std.specs.Prelude.{◌≡◌, List, ◌++◌, Option, Some, None, IfSome}
use Rattle.mv_bindings.specs.declared.binding.Binding.{Binding}
use Rattle.mv_bindings.specs.declared.binding.Event.{Event}
use Rattle.mv_bindings.specs.Bindings.{events_from}
use Rattle.mv_machine.specs.declared.logging.Log.{Log}

-- a log that is kept has come to these bindings
abbrev pub HasCome : List Binding → Option Log → Type 0
HasCome bindings log = IfSome log (λ kept. kept.bindings ≡ bindings)

-- a log that is still kept has these events more
abbrev pub Adds : List Event → (was is : Option Log) → Type 0
Adds events was None = Unit {0}
Adds events None (Some now) = ⊥
Adds events (Some before) (Some now) = now.events ≡ before.events ++ events

-- it has an event more for each binding that differs
abbrev pub Notes : List Binding → (was is : Option Log) → Type 0
Notes bindings was None = Unit {0}
Notes bindings None (Some now) = ⊥
Notes bindings (Some before) (Some now) = (now.bindings ≡ bindings) × (now.events ≡ before.events ++ events_from 0 before.bindings bindings)

-- its events
abbrev pub events_of : Option Log → Option (List Event)
events_of None = None
events_of (Some log) = Some log.events
