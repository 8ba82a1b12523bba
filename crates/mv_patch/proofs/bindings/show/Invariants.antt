use Rattle.std.proofs.Common.{ℕ, ◌≡◌, ◌<◌, slice_get, Some}
use Rattle.mv_image.specs.Patched.{variant_under}
use Rattle.mv_patch.specs.Groups.{IsGroup}
use Rattle.mv_patch.specs.Orders.{values_of}
use Rattle.mv_patch.proofs.bindings.show.Given as goal

abbrev pub invariant-loop-i : goal.invariant-loop-i
invariant-loop-i l = record {
  group : IsGroup l.image l.group;
  function : l.group.function ≡ l.i;
  each : (f : ℕ) → f < l.i → slice_get l.shown f ≡ Some (variant_under l.image f (values_of l.bound f));
}
