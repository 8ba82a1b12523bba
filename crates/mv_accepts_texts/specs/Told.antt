-- The limits on a program by what the text of its unit tells alone.
use Rattle.std.specs.Prelude.{◌≡◌, List, [], ◌∷◌, map, Option}
use Rattle.mv_ast.specs.declared.program.Program.{Program}
use Rattle.mv_syntax.specs.declared.unit.Unit as tree
use Rattle.mv_check_expressions.specs.Judged.{Good}
use Rattle.mv_check_limits.specs.declared.excess.Exceeded.{Exceeded}
use Rattle.mv_check_limits.specs.Limits.{Limit, functions_limit, globals_limit, parameters_limit, switches_limit, values_limit, switches_of_function_limit, assignments_limit, elements_limit, pointers_limit, excess, first_some}
use Rattle.mv_check_limits.specs.Ordered.{unit_parameters, unit_elements, first_excess}
use Rattle.mv_check_rules.specs.Units.{judged_by_rules}

abbrev pub told_parameters : tree.Unit → Program → Limit
told_parameters u p = record (parameters_limit p) { counts = unit_parameters u }

abbrev pub told_elements : tree.Unit → Program → Limit
told_elements u p = record (elements_limit p) { counts = unit_elements u p }

abbrev pub told_limits : tree.Unit → Program → List Limit
told_limits u p =
    functions_limit p ∷
    globals_limit p ∷
    told_parameters u p ∷
    switches_limit p ∷
    values_limit p ∷
    switches_of_function_limit p ∷
    assignments_limit p ∷
    told_elements u p ∷
    pointers_limit p ∷
    []

abbrev pub first_told : tree.Unit → Program → Option Exceeded
first_told u p = first_some (map excess (told_limits u p))

-- What the program of a unit that keeps the rules exceeds is what the text tells.
abbrev pub ExcessesAreTold : Type 0
ExcessesAreTold = (u : tree.Unit) (p : Program) → judged_by_rules u ≡ Good p → first_excess u p ≡ first_told u p
