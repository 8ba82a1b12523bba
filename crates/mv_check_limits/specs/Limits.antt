-- The limits on a program: what each counts, in order of declaration, and the greatest count that it allows.
use Rattle.std.specs.Prelude.{ℕ, List, [], ◌∷◌, ◌++◌, map, length, nat_lt, if◌then◌else◌, Option, Some, None}
use Rattle.std.specs.List.{find, flat_map}
use Rattle.mv_num.specs.Limits.{function_limit, global_limit, parameter_limit, switch_limit, value_limit, own_switch_limit, assignment_limit, element_limit, pointer_limit}
use Rattle.mv_ast.specs.declared.program.Program.{Program}
use Rattle.mv_ast.specs.declared.program.Function.{Function}
use Rattle.mv_ast.specs.Counts.{assignments, elements_of}
use Rattle.mv_check_limits.specs.declared.counts.Counts.{Counts}
use Rattle.mv_check_limits.specs.declared.excess.Exceeded.{Exceeded}

-- a limit with its number, the greatest count that it allows, and the counts of the objects that it holds for
pub record Limit : Type 0 where
  pub number : ℕ
  pub greatest : ℕ
  pub counts : List ℕ

abbrev pub functions_limit : Program → Limit
functions_limit p = record { number = 1; greatest = function_limit; counts = length p.functions ∷ [] }

abbrev pub globals_limit : Program → Limit
globals_limit p = record { number = 2; greatest = global_limit; counts = length p.globals ∷ [] }

-- parameters of the types of functions and function pointers, each of which has its signature where it is first declared,
-- and of the defined functions themselves
abbrev pub parameters_limit : Program → Limit
parameters_limit p = record {
  number = 3;
  greatest = parameter_limit;
  counts = map (λ s. length s.params) p.signatures ++ map (λ f. f.params) p.functions;
}

abbrev pub switches_limit : Program → Limit
switches_limit p = record { number = 4; greatest = switch_limit; counts = length p.switches ∷ [] }

-- values of the domain of each switch
abbrev pub values_limit : Program → Limit
values_limit p = record { number = 5; greatest = value_limit; counts = map (λ s. length s.values) p.switches }

-- the switches of an attributed function; another has none
abbrev pub own_switches : Function → ℕ
own_switches f = if f.attributed then length f.switches else 0

abbrev pub switches_of_function_limit : Program → Limit
switches_of_function_limit p = record { number = 6; greatest = own_switch_limit; counts = map own_switches p.functions }

-- assignments of each attributed function; another has none
abbrev pub assignments_limit : Program → Limit
assignments_limit p = record { number = 7; greatest = assignment_limit; counts = map (λ f. assignments p f) p.functions }

-- elements of each array of the globals, and of each function's locals
abbrev pub global_sizes : Program → List ℕ
global_sizes p = map (λ g. elements_of g.size) p.globals

abbrev pub local_sizes : Program → List ℕ
local_sizes p = flat_map (λ f. map (λ l. elements_of l.size) f.locals) p.functions

-- the globals come first: a program doesn't tell which of its functions stand before which of its globals
abbrev pub elements_limit : Program → Limit
elements_limit p = record { number = 8; greatest = element_limit; counts = global_sizes p ++ local_sizes p }

abbrev pub pointers_limit : Program → Limit
pointers_limit p = record { number = 9; greatest = pointer_limit; counts = length p.pointers ∷ [] }

abbrev pub limits : Program → List Limit
limits p =
    functions_limit p ∷
    globals_limit p ∷
    parameters_limit p ∷
    switches_limit p ∷
    values_limit p ∷
    switches_of_function_limit p ∷
    assignments_limit p ∷
    elements_limit p ∷
    pointers_limit p ∷
    []

-- the first of some counts that is above a bound
abbrev pub first_above : ℕ → List ℕ → Option ℕ
first_above greatest counts = find (λ count. nat_lt greatest count) counts

abbrev pub reported : ℕ → Option ℕ → Option Exceeded
reported number None = None
reported number (Some count) = Some (record { limit = number; count = count })

-- the first count that exceeds a limit
unfoldable pub excess : Limit → Option Exceeded
excess limit = reported limit.number (first_above limit.greatest limit.counts)

-- the first that there is
abbrev pub first_some : List (Option Exceeded) → Option Exceeded
first_some [] = None
first_some (None ∷ os) = first_some os
first_some (Some e ∷ os) = Some e

-- the least limit that a program exceeds, with the first count that exceeds it
abbrev pub first_exceeded : Program → Option Exceeded
first_exceeded p = first_some (map excess (limits p))

-- the least of limits 1 to 4 that a program with these counts exceeds
abbrev pub exceeded_by_counts : Counts → Option Exceeded
exceeded_by_counts c =
    first_some
    (reported 1 (first_above function_limit (c.functions ∷ [])) ∷
    reported 2 (first_above global_limit (c.globals ∷ [])) ∷
    reported 3 c.parameters ∷
    reported 4 (first_above switch_limit (c.switches ∷ [])) ∷
    [])
