-- The laws of the crates below that the laws on a program's bodies stand on.
use Rattle.mv_lower_spec.specs.Shape.Law.{LoweredReadNoMore}
use Rattle.mv_lower_names.specs.Laws.{FunctionsAreThere, OrdersAreThere}
use Rattle.mv_select.specs.Bodies.SelectedBodies.{CodeIsTheSame, RoomsStand}
use Rattle.mv_select.specs.Inline.Laws.{InlineIsTheSame}
use Rattle.mv_variants.specs.Bound.Led.{BodiesAreMade}
use Rattle.mv_variants.specs.Bound.Reads.{VariantsReadNoSwitch}
use Rattle.mv_variants.specs.Bound.Variants.{MadeNameNoMore}

-- of lowered code, its names and its rooms
pub record Laws : Type 0 where
  pub functions_there : FunctionsAreThere
  pub orders_there : OrdersAreThere
  pub same_code : CodeIsTheSame
  pub rooms_stand : RoomsStand

-- of variants, beside these
pub record VariantLaws : Type 0 where
  pub lowered : Laws
  pub reads : LoweredReadNoMore
  pub bodies_made : BodiesAreMade
  pub no_switch : VariantsReadNoSwitch
  pub name_no_more : MadeNameNoMore
  pub same_inline : InlineIsTheSame
