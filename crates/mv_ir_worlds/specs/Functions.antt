-- What one attributed function or pointer switch, by its number among what may be bound, is in a list of bindings.
use Rattle.std.specs.Prelude.{◌≡◌, ℕ, false, List, Some, slice_get}
use Rattle.mv_bindings.specs.declared.binding.Binding.{Binding}
use Rattle.mv_bindings.specs.Bindings.{bound_to}

-- it isn't bound
abbrev pub IsFreeIn : List Binding → ℕ → Type 0
IsFreeIn bs n = (b : Binding) → slice_get bs n ≡ Some b → b.bound ≡ false

-- it is bound to these values
abbrev pub IsBoundIn : List Binding → ℕ → List ℕ → Type 0
IsBoundIn bs n vs = slice_get bs n ≡ Some (bound_to vs)
