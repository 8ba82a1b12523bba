-- The body of which a function's own code is made, whose switches aren't bound.
use Rattle.std.specs.Prelude.{◌≡◌, ◌⊎◌}
use Rattle.mv_ir.specs.declared.body.Body.{Body}
use Rattle.mv_ir.specs.Shorts.{Shorts}
use Rattle.mv_select.specs.Bodies.SelectedBodies.{HasWords}
use Rattle.mv_regalloc.specs.Intervals.{IsRenamed}
use Rattle.mv_variants.specs.Bound.Shorts.{IsReady, HasRoom}
use Rattle.mv_variants.specs.Sizes.{HasSmallFrame}

-- A body whose constants are words, made ready, and then with its temporaries renamed. It is left as it was where its frame would be too large.
pub record IsGeneral (shorts : Shorts) (body result : Body) : Type 0 where
  pub words : HasWords body.code
  pub ready : Body
  pub is_ready : (IsReady shorts body ready × HasSmallFrame body) ⊎ (ready ≡ body)
  pub is_renamed : IsRenamed ready result
  pub room : HasRoom body result
