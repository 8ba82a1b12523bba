-- A body that `select` takes, with a frame that is small enough, is within the limits of selection.
use Rattle.std.proofs.Common.{◌≡◌, ◌≤◌, Bool, true}
use Rattle.mv_ir.specs.declared.body.Body.{Body}
use Rattle.mv_select_code.specs.Control.Layouts.{are_small}
use Rattle.mv_select.specs.Bodies.SelectedBodies.{IsWithin}
use Rattle.mv_select.proofs.OfBodies.Small.{bodies_are_small}
use Rattle.mv_select.specs.Selected.{IsSuitable, FitsFrame}

pub is_within : (attributed : Bool) (body : Body) → IsSuitable body → FitsFrame body → IsWithin attributed body
is_within attributed body suitable fits = record {
  formed = suitable.formed;
  shallow = suitable.shallow;
  frame = fits;
  orders = suitable.orders;
}

-- so its temporaries are few, and its code is small
pub has_small_code : (attributed : Bool) (body : Body) → IsSuitable body → FitsFrame body → (body.temps ≤ 507) × (are_small body.code ≡ true)
has_small_code attributed body suitable fits = bodies_are_small attributed body (is_within attributed body suitable fits)
