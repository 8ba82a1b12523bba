-- The shapes of declarators.
use Rattle.std.specs.Prelude.{Bool, true, false}
use Rattle.mv_syntax.specs.declared.unit.Shape.{Shape-F}
use Rattle.mv_syntax.specs.declared.unit.Shape.TheOpen as shape

-- a name alone
abbrev pub is_plain_shape : {A B C : Type 0} → Shape-F A B C → Bool
is_plain_shape shape.Plain = true
is_plain_shape (shape.Array size) = false
is_plain_shape (shape.Function params) = false
is_plain_shape (shape.Pointer constant params) = false
is_plain_shape (shape.PointerArray constant size params) = false
