-- The counts of the program that a unit comes to, by what its declarations do.
use Rattle.std.proofs.Common.{◌≡◌, ℕ, suc, ◌+◌, List, [], ◌∷◌, ◌++◌, map, length, nat_lt, cond, if◌then◌else◌, is_some, Option, Some, None, refl, sym, ap, ◌∙◌, arith}
use Rattle.std.proofs.lemmas.List.{length-map}
use Rattle.std.proofs.lemmas.List.Folds.{find-append}
use Rattle.std.proofs.lemmas.List.Recursion.{is_count_by}
use Rattle.std.proofs.lemmas.List.Sums.{sum_by-cons}
use Rattle.std.specs.List.{count_by}
use Rattle.std.specs.Option.{option_or}
use Rattle.mv_ast.specs.declared.program.Function.{Function}
use Rattle.mv_ast.specs.declared.program.Switch.{Switch}
use Rattle.mv_check_limits.specs.declared.counts.Counts.{Counts}
use Rattle.mv_check_limits.specs.declared.excess.Exceeded.{Exceeded}
use Rattle.mv_syntax.specs.declared.unit.Unit as unit
use Rattle.mv_check_limits.specs.Limits.{first_above, exceeded_by_counts}
use Rattle.mv_check_limits.specs.Ordered.{unit_parameters, first_excess, counts_of, exceeded_by_contents}
use Rattle.mv_check_limits.proofs.Firsts.{by_counts}
use Rattle.mv_types.specs.declared.contents.Completed.{Completed}
use Rattle.mv_types.specs.declared.contents.Object.{Object}
use Rattle.mv_types.specs.Completed.{completed_program, params_or_none}
use Rattle.mv_types.specs.Contents.{present, switch_of, switches_from}
use Rattle.mv_types.specs.Units.{with_switches, program_of}

-- ---- each count

defined_counted : (fs : List (Option Function)) → length (present fs) ≡ count_by (λ f. is_some f) fs
defined_counted = is_count_by (λ fs. length (present fs)) (λ f. is_some f) refl step
  where
    step : (f : Option Function) (fs : List (Option Function)) →
        length (present (f ∷ fs)) ≡ cond (is_some f) (1 + length (present fs)) (length (present fs))
    step None fs = refl
    step (Some f) fs = omega arith

switch_counted : (n : ℕ) (d : Option (List ℕ)) (rest : List Switch) → length (switch_of n d ++ rest) ≡ cond (is_some d) 1 0 + length rest
switch_counted n None rest = omega arith
switch_counted n (Some values) rest = omega arith

switches_counted : (n : ℕ) (os : List Object) → length (switches_from n os) ≡ count_by (λ o. is_some o.domain) os
switches_counted n [] = refl
switches_counted n (o ∷ os) =
    switch_counted n o.domain (switches_from (suc n) os) ∙
    (ap (λ k. cond (is_some o.domain) 1 0 + k) (switches_counted (suc n) os) ∙ sym (sum_by-cons (λ p. cond (is_some p.domain) 1 0) o os))

-- a function that isn't defined has no parameters, which are not too many
first_defined : (fs : List (Option Function)) → first_above 8 (map params_or_none fs) ≡ first_above 8 (map (λ f. f.params) (present fs))
first_defined [] = refl
first_defined (None ∷ fs) = first_defined fs
first_defined (Some f ∷ fs) = ap (λ o. if nat_lt 8 f.params then Some f.params else o) (first_defined fs)

-- the switches of a function leave its parameters as they are
same_params : (switches : List Switch) (fs : List Function) → map (λ f. f.params) (map (with_switches switches) fs) ≡ map (λ f. f.params) fs
same_params switches [] = refl
same_params switches (f ∷ fs) = ap (λ l. f.params ∷ l) (same_params switches fs)

parameters_counted : (types : List ℕ) (switches : List Switch) (fs : List (Option Function)) →
    first_above 8 (types ++ map params_or_none fs) ≡ first_above 8 (types ++ map (λ f. f.params) (map (with_switches switches) (present fs)))
parameters_counted types switches fs =
    find-append (λ c. nat_lt 8 c) types (map params_or_none fs) ∙
    (ap (λ o. option_or (first_above 8 types) o) (first_defined fs ∙ ap (λ ns. first_above 8 ns) (sym (same_params switches (present fs)))) ∙
    sym (find-append (λ c. nat_lt 8 c) types (map (λ f. f.params) (map (with_switches switches) (present fs)))))

-- and behind those that the text tells
told_counted : (told types : List ℕ) (switches : List Switch) (fs : List (Option Function)) →
    first_above 8 (told ++ (types ++ map params_or_none fs)) ≡ first_above 8 (told ++ (types ++ map (λ f. f.params) (map (with_switches switches) (present fs))))
told_counted told types switches fs =
    find-append (λ c. nat_lt 8 c) told (types ++ map params_or_none fs) ∙
    (ap (λ o. option_or (first_above 8 told) o) (parameters_counted types switches fs) ∙
    sym (find-append (λ c. nat_lt 8 c) told (types ++ map (λ f. f.params) (map (with_switches switches) (present fs)))))

-- ---- all counts

abbrev made : ℕ → ℕ → Option ℕ → ℕ → Counts
made f g p s = record { functions = f; globals = g; parameters = p; switches = s }

alike : (f g F G : ℕ) (p P : Option ℕ) (s S : ℕ) → f ≡ F → g ≡ G → p ≡ P → s ≡ S → made f g p s ≡ made F G P S
alike f g F G p P s S e1 e2 e3 e4 = cc

pub counted : (t : unit.Unit) (u : Completed) (f g : ℕ) (p : Option ℕ) (s : ℕ) → f ≡ count_by (λ f. is_some f) u.contents.functions → g ≡ length u.contents.objects →
    p ≡ first_above 8 (unit_parameters t ++ (map (λ s. length s.params) u.contents.scope.signatures ++ map params_or_none u.contents.functions)) →
    s ≡ count_by (λ o. is_some o.domain) u.contents.objects → made f g p s ≡ counts_of t (completed_program u)
unfolding program_of
counted t u f g p s e1 e2 e3 e4 =
    let c = u.contents in
    let switches : List Switch = switches_from 0 c.objects in
    alike f g _ _ p _ s _
    (e1 ∙ (sym (defined_counted c.functions) ∙ sym (length-map (present c.functions) (with_switches switches))))
    (e2 ∙ sym (length-map c.objects (λ (o : Object). o.global)))
    (e3 ∙ told_counted (unit_parameters t) (map (λ s. length s.params) c.scope.signatures) switches c.functions)
    (e4 ∙ sym (switches_counted 0 c.objects))

-- what the counts exceed is what the program does
pub excess_counted : (t : unit.Unit) (u : Completed) (e : Exceeded) → exceeded_by_counts (counts_of t (completed_program u)) ≡ Some e →
    first_excess t (completed_program u) ≡ Some e
excess_counted t u e h = by_counts t (completed_program u) ∙ ap (λ o. option_or o (exceeded_by_contents t (completed_program u))) h
