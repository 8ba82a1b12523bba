-- A program within the limits has few functions and few pointer switches.
use Rattle.std.proofs.Common.{◌≡◌, ℕ, ◌≤◌, Bool, true, false, List, [], ◌∷◌, length, refl, nat_lt, Option, Some, None, if◌then◌else◌}
use Rattle.std.proofs.lemmas.Bool.{ltb-false}
use Rattle.mv_ast.specs.declared.program.Program.{Program}
use Rattle.mv_check_limits.specs.Limits.{excess, reported, first_some, functions_limit, globals_limit, parameters_limit, switches_limit, values_limit, switches_of_function_limit, assignments_limit, elements_limit, pointers_limit, first_exceeded}
use Rattle.mv_check_limits.specs.declared.excess.Exceeded.{Exceeded}

rest_none : (o : Option Exceeded) (os : List (Option Exceeded)) → first_some (o ∷ os) ≡ None → first_some os ≡ None
rest_none None os h = h
rest_none (Some e) os h = absurd (cc)

pub first_none : (o : Option Exceeded) (os : List (Option Exceeded)) → first_some (o ∷ os) ≡ None → o ≡ None
first_none None os h = refl
first_none (Some e) os h = h

at_most : (number n c : ℕ) → reported number (if nat_lt n c then Some c else None) ≡ None → c ≤ n
at_most number n c h = by (nat_lt n c) refl h
  where
    by : (b : Bool) → nat_lt n c ≡ b → reported number (if b then Some c else None) ≡ None → c ≤ n
    by true e g = cc
    by false e g = ltb-false n c e

no_excess : (p : Program) → excess (functions_limit p) ≡ None → length p.functions ≤ 1000
unfolding excess
no_excess p h = at_most 1 1000 (length p.functions) h

pub few_functions : (p : Program) → first_exceeded p ≡ None → length p.functions ≤ 1000
few_functions p h = no_excess p (first_none (excess (functions_limit p)) _ h)

no_pointers_excess : (p : Program) → excess (pointers_limit p) ≡ None → length p.pointers ≤ 64
unfolding excess
no_pointers_excess p h = at_most 9 64 (length p.pointers) h

pub few_pointers : (p : Program) → first_exceeded p ≡ None → length p.pointers ≤ 64
few_pointers p h =
    let a = rest_none (excess (functions_limit p)) _ h in
    let b = rest_none (excess (globals_limit p)) _ a in
    let c = rest_none (excess (parameters_limit p)) _ b in
    let d = rest_none (excess (switches_limit p)) _ c in
    let e = rest_none (excess (values_limit p)) _ d in
    let f = rest_none (excess (switches_of_function_limit p)) _ e in
    let g = rest_none (excess (assignments_limit p)) _ f in
    let i = rest_none (excess (elements_limit p)) _ g in
    no_pointers_excess p (first_none (excess (pointers_limit p)) [] i)
