-- What the fields of a `Plan` stand for.
use Rattle.std.specs.Prelude.{◌≡◌, ◌≤◌, length, vec_capacity}
use Rattle.mv_patch.specs.declared.prepared.Plan.TheInside.{Inside}
use Rattle.mv_patch.specs.Plans.{Prepared}

abbrev pub view : Inside → Prepared
view plan = record { planned = record { pairs = plan.pairs.items; bound = plan.bound.items; answer = plan.answer }; room = plan.room }

-- There is memory for as many pairs as the room says, and a variant, or none, for each binding.
pub record IsKept (plan : Inside) : Type 0 where
  pub room : plan.room ≤ vec_capacity plan.pairs
  pub before : length plan.before.items ≡ length plan.bound.items
  pub after : length plan.after.items ≡ length plan.bound.items
