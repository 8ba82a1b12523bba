-- What a machine keeps of itself between two instructions.
use Rattle.std.specs.Prelude.{ℕ, ◌≡◌, ◌≤◌, List, [], ◌∷◌, length, Option, Some, None, if◌then◌else◌}
use Rattle.mv_bindings.specs.declared.binding.Binding.{Binding}
use Rattle.mv_bindings.specs.declared.action.Action.{Action}
use Rattle.mv_bindings.specs.declared.binding.Event.{Event}
use Rattle.mv_bindings.specs.Bindings.{is_same_binding}
use Rattle.mv_bindings.specs.OrderNumbers as orders
use Rattle.mv_image.specs.Spelling.{Fields}
use Rattle.mv_patch.specs.Orders.{binding_count}
use Rattle.mv_patch.specs.Tables.{patchable}
use Rattle.mv_patch.specs.Plans.{Prepared}
use Rattle.mv_patch.specs.declared.order.Order.{Order}
use Rattle.mv_patch.specs.declared.order.Order.TheVariants.{CommitAll, RevertAll, CommitFunction, RevertFunction, CommitRefs, RevertRefs}

-- Each function and pointer switch of the image has a binding, in the plan too, which has room for each pair that the image can have.
pub record IsReady (image : Fields) (bound : List Binding) (plan : Prepared) : Type 0 where
  pub count : length bound ≡ binding_count image
  pub planned : length plan.planned.bound ≡ binding_count image
  pub reserved : patchable image ≤ plan.room

-- the first of the actions that are left is taken, where there is one
abbrev pub Taken : Option Action → (was is : List Action) → Type 0
Taken None was is = (was ≡ []) × (is ≡ [])
Taken (Some action) was is = was ≡ action ∷ is

-- an order has this code, and where it is of a function or a switch this index
abbrev pub IsAsked : (code index : ℕ) → Order → Type 0
IsAsked code index CommitAll = code ≡ orders.commit
IsAsked code index RevertAll = code ≡ orders.revert
IsAsked code index (CommitFunction f) = (code ≡ orders.commit_function) × (f ≡ index)
IsAsked code index (RevertFunction f) = (code ≡ orders.revert_function) × (f ≡ index)
IsAsked code index (CommitRefs s) = (code ≡ orders.commit_references) × (s ≡ index)
IsAsked code index (RevertRefs s) = (code ≡ orders.revert_references) × (s ≡ index)

-- the event of a function whose binding differs, and none where it is the same
abbrev pub change : (function : ℕ) → (old new : Binding) → List Event
change function old new = if is_same_binding old new then [] else record { function = function; binding = new } ∷ []
