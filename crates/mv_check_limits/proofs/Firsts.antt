-- The limits that counts decide come before the others.
use Rattle.std.proofs.Common.{◌≡◌, refl, List, [], ◌∷◌, ◌++◌, map, Option, Some, None}
use Rattle.std.specs.Option.{option_or}
use Rattle.mv_ast.specs.declared.program.Program.{Program}
use Rattle.mv_check_limits.specs.declared.excess.Exceeded.{Exceeded}
use Rattle.mv_syntax.specs.declared.unit.Unit as unit
use Rattle.mv_check_limits.specs.Limits.{excess, functions_limit, globals_limit, switches_limit, values_limit, switches_of_function_limit, assignments_limit, pointers_limit, first_some, exceeded_by_counts}
use Rattle.mv_check_limits.specs.Ordered.{ordered_parameters, ordered_elements, first_excess, counts_of, exceeded_by_contents}

first_of_both : (xs ys : List (Option Exceeded)) → first_some (xs ++ ys) ≡ option_or (first_some xs) (first_some ys)
first_of_both [] ys = refl
first_of_both (None ∷ xs) ys = first_of_both xs ys
first_of_both (Some e ∷ xs) ys = refl

pub by_counts : (u : unit.Unit) (p : Program) → first_excess u p ≡ option_or (exceeded_by_counts (counts_of u p)) (exceeded_by_contents u p)
unfolding excess
by_counts u p =
    first_of_both
    (map excess (functions_limit p ∷ globals_limit p ∷ ordered_parameters u p ∷ switches_limit p ∷ []))
    (map excess (values_limit p ∷ switches_of_function_limit p ∷ assignments_limit p ∷ ordered_elements u p ∷ pointers_limit p ∷ []))
