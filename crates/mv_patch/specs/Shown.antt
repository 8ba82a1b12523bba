-- The variants that functions are bound to, one for each, and behind them one place for each pointer switch.
use Rattle.std.specs.Prelude.{ℕ, ◌≡◌, ◌<◌, List, length, slice_get, Option, Some}
use Rattle.mv_descriptors.specs.declared.rows.VariantRow.{VariantRow}
use Rattle.mv_image.specs.Spelling.{Fields}
use Rattle.mv_image.specs.Patched.{Bindings, variant_under}
use Rattle.mv_patch.specs.Orders.{binding_count, values_of}
use Rattle.mv_patch.specs.declared.changes.Showing.{Showing}

pub record AreShown (image : Fields) (bound : Bindings) (shown : List (Option VariantRow)) : Type 0 where
  pub count : length shown ≡ binding_count image
  pub each : (f : ℕ) → f < length image.functions → slice_get shown f ≡ Some (variant_under image f (bound f))

-- bindings, one for each function and pointer switch, and the variants that they lead functions to
pub record Shows (image : Fields) (showing : Showing) : Type 0 where
  pub count : length showing.bound.now ≡ binding_count image
  pub variants : AreShown image (values_of showing.bound.now) showing.variants.now
