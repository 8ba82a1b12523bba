-- A body under each of some assignments.
use Rattle.std.specs.Prelude.{◌≡◌, List}
use Rattle.std.specs.List.{zip}
use Rattle.mv_ir.specs.declared.body.Body.{Body}
use Rattle.mv_ir.specs.declared.body.Assignment.{Assignment}
use Rattle.mv_ir.specs.Shorts.{Shorts}
use Rattle.mv_ir.specs.Combinations.{values_of}
use Rattle.mv_merge.specs.declared.rows.Bound.{Bound}
use Rattle.mv_merge.specs.declared.rows.Variants.{Variants}
use Rattle.mv_merge.specs.Grouping.{IsGrouped}
use Rattle.mv_merge.specs.Guards.{all_values}
use Rattle.mv_variants.specs.Bound.Led.{AreMade}
use Rattle.mv_variants.specs.Bound.Meant.{IsMadeUnder}

-- what is made of the body under an assignment, beside its values
pub record IsRowUnder (shorts : Shorts) (body : Body) (assignment : Assignment) (row : Bound) : Type 0 where
  pub values : row.assignment.values ≡ assignment.values
  pub made : IsMadeUnder shorts (zip body.switches assignment.values) body row.body

-- for each assignment, in order, what is made of the body under it
pub record AreRowsUnder (shorts : Shorts) (body : Body) (assignments : List Assignment) (rows : List Bound) : Type 0 where
  pub values : all_values rows ≡ values_of assignments
  pub made : AreMade shorts body rows

-- these rows, with equal bodies as one
pub record AreMergedUnder (shorts : Shorts) (body : Body) (assignments : List Assignment) (variants : Variants) : Type 0 where
  pub rows : List Bound
  pub under : AreRowsUnder shorts body assignments rows
  pub grouped : IsGrouped rows variants.bodies variants.guards
