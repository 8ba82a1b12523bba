-- What a checker answers on the judgement on a unit.
use Rattle.std.specs.Prelude.{◌≡◌, None, Some, Result, Ok, Err}
use Rattle.mv_ast.specs.declared.program.Program.{Program}
use Rattle.mv_syntax.specs.declared.unit.Unit as unit
use Rattle.mv_check_expressions.specs.Judged.{Judged, Good, Broken}
use Rattle.mv_check_limits.specs.Ordered.{first_excess}
use Rattle.mv_types.specs.declared.error.TypeError.{TypeError}
use Rattle.mv_types.specs.declared.error.TypeError.TheVariants.{Rule, Limit, Memory}

abbrev pub IsChecked : unit.Unit → Judged Program → Result Program TypeError → Type 0
IsChecked u (Good p) (Ok q) = (q ≡ p) × (first_excess u p ≡ None)
IsChecked u (Good p) (Err (Rule place rule)) = ⊥
IsChecked u (Good p) (Err (Limit n c)) = first_excess u p ≡ Some (record { limit = n; count = c })
IsChecked u (Good p) (Err (Memory e)) = Unit {0}
IsChecked u (Broken place rule) (Ok q) = ⊥
IsChecked u (Broken place rule) (Err (Rule at r)) = (at ≡ place) × (r ≡ rule)
IsChecked u (Broken place rule) (Err (Limit n c)) = ⊥
IsChecked u (Broken place rule) (Err (Memory e)) = Unit {0}
