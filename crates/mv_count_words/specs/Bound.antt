-- Bindings by which each bound function has a variant, as those of a run.
use Rattle.std.specs.Prelude.{◌<◌, ℕ, ◌≡◌, true, List, length, is_some, Option, Some, slice_get}
use Rattle.mv_bindings.specs.declared.action.Action.{Action}
use Rattle.mv_bindings.specs.declared.binding.Binding.{Binding}
use Rattle.mv_image.specs.Faults.{Rules}
use Rattle.mv_image.specs.Patched.{variant_under, target_under, pointer_number}
use Rattle.mv_image.specs.Spelling.{Fields}
use Rattle.mv_patch.specs.Orders.{binding_count, bound_values}
use Rattle.mv_machine.specs.Acts.{polls_of}
use Rattle.mv_machine.specs.Runs.{runs}

-- There is one for each function of an image, and where it binds the function, one of its variants fits the values; and then one for each pointer switch, and
-- where it binds that, there is the target.
pub record AreBound (image : Fields) (bs : List Binding) : Type 0 where
  pub count : length bs ≡ binding_count image
  pub fit : (f : ℕ) (b : Binding) → f < length image.functions → slice_get bs f ≡ Some b → b.bound ≡ true → is_some (variant_under image f (bound_values b)) ≡ true
  pub led : (q : ℕ) (b : Binding) → slice_get bs (pointer_number image q) ≡ Some b → b.bound ≡ true → is_some (target_under image (bound_values b)) ≡ true

-- In each state of a run, each bound function has a variant, and each bound pointer switch a target.
abbrev pub RunsAreBound : Type 0
RunsAreBound =
    (image : Fields) → Rules image → (input : List (Option ℕ)) (actions : List Action) (picks : List ℕ) (n : ℕ) → AreBound image (runs image input (polls_of actions) picks n).bindings
