-- Whether a program exceeds a limit does not depend on the order of its parts.
use Rattle.std.proofs.Common.{◌≡◌, ℕ, refl, sym, ap, ◌∙◌, List, [], ◌∷◌, ◌++◌, nat_lt, Option, Some, None}
use Rattle.std.proofs.lemmas.List.Folds.{find-append}
use Rattle.std.specs.Option.{option_or}
use Rattle.mv_ast.specs.declared.program.Program.{Program}
use Rattle.mv_syntax.specs.declared.unit.Unit as unit
use Rattle.mv_check_limits.specs.declared.excess.Exceeded.{Exceeded}
use Rattle.mv_check_limits.specs.Limits.{Limit, functions_limit, globals_limit, parameters_limit, switches_limit, values_limit, switches_of_function_limit, assignments_limit, elements_limit, pointers_limit, first_above, reported, excess, first_some, first_exceeded}
use Rattle.mv_check_limits.specs.Ordered.{unit_parameters, unit_elements, in_text, ordered_parameters, ordered_elements, first_excess}
use Rattle.mv_check_limits.proofs.Told.{joined_none, none_told}

not_reported : (number : ℕ) (o : Option ℕ) → reported number o ≡ None → o ≡ None
not_reported number None h = refl
not_reported number (Some c) h = absurd (cc)

second_none : (a b : Option ℕ) → option_or a b ≡ None → b ≡ None
second_none None b h = h
second_none (Some c) b h = absurd (cc)

-- a limit that is kept with what a text tells is kept without it
not_told : (told : List ℕ) (l : Limit) → excess (in_text told l) ≡ None → excess l ≡ None
unfolding excess
not_told told l h =
    ap (reported l.number)
    (second_none (first_above l.greatest told) (first_above l.greatest l.counts)
    (sym (find-append (λ c. nat_lt l.greatest c) told l.counts) ∙ not_reported l.number (first_above l.greatest (told ++ l.counts)) h))

pub none_first : (o : Option Exceeded) (os : List (Option Exceeded)) → first_some (o ∷ os) ≡ None → (o ≡ None) × (first_some os ≡ None)
none_first None os h = (refl, h)
none_first (Some e) os h = absurd (cc)

none_more : (o : Option Exceeded) (os : List (Option Exceeded)) → o ≡ None → first_some os ≡ None → first_some (o ∷ os) ≡ None
none_more o os h k = rw h k

-- where no limit is exceeded in the order of the text, none is
pub none_exceeded : (u : unit.Unit) (p : Program) → first_excess u p ≡ None → first_exceeded p ≡ None
none_exceeded u p h =
    let a = none_first (excess (functions_limit p)) _ h in
    let b = none_first (excess (globals_limit p)) _ a.1 in
    let c = none_first (excess (ordered_parameters u p)) _ b.1 in
    let d = none_first (excess (switches_limit p)) _ c.1 in
    let e = none_first (excess (values_limit p)) _ d.1 in
    let f = none_first (excess (switches_of_function_limit p)) _ e.1 in
    let g = none_first (excess (assignments_limit p)) _ f.1 in
    let i = none_first (excess (ordered_elements u p)) _ g.1 in
    let j = none_first (excess (pointers_limit p)) [] i.1 in
    none_more (excess (functions_limit p)) _ a.0
    (none_more (excess (globals_limit p)) _ b.0
    (none_more (excess (parameters_limit p)) _ (not_told (unit_parameters u) (parameters_limit p) c.0)
    (none_more (excess (switches_limit p)) _ d.0
    (none_more (excess (values_limit p)) _ e.0
    (none_more (excess (switches_of_function_limit p)) _ f.0
    (none_more (excess (assignments_limit p)) _ g.0
    (none_more (excess (elements_limit p)) _ (not_told (unit_elements u p) (elements_limit p) i.0)
    (none_more (excess (pointers_limit p)) [] j.0 refl))))))))

pub not_exceeded : (l : Limit) → excess l ≡ None → first_above l.greatest l.counts ≡ None
unfolding excess
not_exceeded l h = not_reported l.number (first_above l.greatest l.counts) h

not_above : (l : Limit) → first_above l.greatest l.counts ≡ None → excess l ≡ None
unfolding excess
not_above l h = ap (reported l.number) h

-- and where none is, none is exceeded in the order of a text that has no type of too many parameters
pub none_in_order : (u : unit.Unit) (p : Program) → first_above 8 (unit_parameters u) ≡ None → first_exceeded p ≡ None → first_excess u p ≡ None
none_in_order u p few h =
    let a = none_first (excess (functions_limit p)) _ h in
    let b = none_first (excess (globals_limit p)) _ a.1 in
    let c = none_first (excess (parameters_limit p)) _ b.1 in
    let d = none_first (excess (switches_limit p)) _ c.1 in
    let e = none_first (excess (values_limit p)) _ d.1 in
    let f = none_first (excess (switches_of_function_limit p)) _ e.1 in
    let g = none_first (excess (assignments_limit p)) _ f.1 in
    let i = none_first (excess (elements_limit p)) _ g.1 in
    let j = none_first (excess (pointers_limit p)) [] i.1 in
    none_more (excess (functions_limit p)) _ a.0
    (none_more (excess (globals_limit p)) _ b.0
    (none_more (excess (ordered_parameters u p)) _
    (not_above (ordered_parameters u p) (joined_none 8 (unit_parameters u) (parameters_limit p).counts few (not_exceeded (parameters_limit p) c.0)))
    (none_more (excess (switches_limit p)) _ d.0
    (none_more (excess (values_limit p)) _ e.0
    (none_more (excess (switches_of_function_limit p)) _ f.0
    (none_more (excess (assignments_limit p)) _ g.0
    (none_more (excess (ordered_elements u p)) _
    (not_above (ordered_elements u p) (none_told u p (not_exceeded (elements_limit p) i.0)))
    (none_more (excess (pointers_limit p)) [] j.0 refl))))))))
