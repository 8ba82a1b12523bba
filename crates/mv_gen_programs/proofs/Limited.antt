-- The programs of generated texts exceed no limit.
use Rattle.std.proofs.Common.{◌≡◌, ℕ, zero, suc, ◌<◌, ◌≤◌, false, List, [], ◌∷◌, ◌++◌, length, map, Option, None, refl, ◌∙◌, ap, arith, length-append}
use Rattle.std.specs.Prelude.{nat_lt}
use Rattle.std.specs.List.{flat_map}
use Rattle.std.proofs.lemmas.Bool.{le-ltb}
use Rattle.mv_ast.specs.declared.program.Function.{Function}
use Rattle.mv_ast.specs.declared.program.Program.{Program}
use Rattle.mv_ast.specs.Counts.{assignments, product_of, elements_of}
use Rattle.mv_ast.specs.Switches.{switch_domain}
use Rattle.mv_check_limits.specs.declared.excess.Exceeded.{Exceeded}
use Rattle.mv_check_limits.specs.Limits.{Limit, functions_limit, globals_limit, parameters_limit, switches_limit, values_limit, own_switches as counted_switches, switches_of_function_limit, assignments_limit, elements_limit, pointers_limit, first_above, reported, excess, first_some, first_exceeded}
use Rattle.mv_check_limits.proofs.Orders.{none_in_order}
use Rattle.mv_check_rules.proofs.Units.{same_judgement}
use Rattle.mv_front.specs.Verdicts.{IsProgram}
use Rattle.mv_gen.specs.Generated.{drawn, functions, form_of, switch_of, constant_of, generated}
use Rattle.mv_gen_programs.proofs.Bodies.{four}
use Rattle.mv_gen_programs.proofs.FewParameters.{few_parameters}
use Rattle.mv_gen_programs.proofs.Judged.{main_function}
use Rattle.mv_gen_programs.proofs.Read.{unit_of, unit_reads}
use Rattle.mv_gen_programs.proofs.Shallow.{unit_shallow}
use Rattle.mv_gen_programs.proofs.Program.{marked_function, marked_functions, program_with, program, unit_good}

-- none of some counts is above a bound
abbrev pub AtMost : ℕ → List ℕ → Type 0
AtMost g [] = Unit {0}
AtMost g (c ∷ cs) = (c ≤ g) × AtMost g cs

none_above : (g : ℕ) (cs : List ℕ) → AtMost g cs → first_above g cs ≡ None
none_above g [] h = refl
none_above g (c ∷ cs) h =
    let e : nat_lt g c ≡ false = le-ltb g c h.0 in
    rw e (none_above g cs h.1)

kept : (l : Limit) → AtMost l.greatest l.counts → excess l ≡ None
unfolding excess
kept l h = ap (reported l.number) (none_above l.greatest l.counts h)

-- a count of functions
functions_most : (g : ℕ) (h : Function → ℕ) → ((i f j c : ℕ) → j < 4 → h (marked_function i f j c) ≤ g) → (seed i count : ℕ) (rest : List Function) → AtMost g (map h rest) →
    AtMost g (map h (marked_functions seed i count ++ rest))
unfolding marked_functions
functions_most g h each seed i zero rest last = last
functions_most g h each seed i (suc count) rest last =
    let x = drawn seed (suc i) in
    (each i (form_of x) (switch_of x) (constant_of x) (omega arith), functions_most g h each seed (suc i) count rest last)

pub functions_long : (seed i count : ℕ) → length (marked_functions seed i count) ≡ count
unfolding marked_functions
functions_long seed i zero = refl
functions_long seed i (suc count) = ap suc (functions_long seed (suc i) count)

-- ---- each limit

switches_few : (i f j c : ℕ) → j < 4 → counted_switches (marked_function i f j c) ≤ 6
switches_few i zero j c h = omega arith
switches_few i (suc zero) j c h = omega arith
switches_few i (suc (suc zero)) j c h = omega arith
switches_few i (suc (suc (suc f))) j c h = omega arith

module _ (seed count : ℕ) where
  abbrev p : Program
  p = program_with seed count

  one_domain : (j : ℕ) → j < 4 → product_of (map (λ s. length (switch_domain p s)) (j ∷ [])) ≡ 4
  one_domain j h = four (λ j. product_of (map (λ s. length (switch_domain p s)) (j ∷ [])) ≡ 4) j h refl refl refl refl

  pub assignments_few : (i f j c : ℕ) → j < 4 → assignments p (marked_function i f j c) ≤ 4
  assignments_few i zero j c h = omega (arith, one_domain j h)
  assignments_few i (suc zero) j c h = omega (arith, one_domain j h)
  assignments_few i (suc (suc zero)) j c h = omega (arith, one_domain j h)
  assignments_few i (suc (suc (suc f))) j c h = omega arith

  assignments_most : (i f j c : ℕ) → j < 4 → assignments p (marked_function i f j c) ≤ 64
  assignments_most i f j c h = omega (arith, assignments_few i f j c h)

  locals_most : (i n : ℕ) (rest : List Function) → AtMost 262144 (flat_map (λ f. map (λ l. elements_of l.size) f.locals) rest) →
      AtMost 262144 (flat_map (λ f. map (λ l. elements_of l.size) f.locals) (marked_functions seed i n ++ rest))
  unfolding marked_functions
  locals_most i zero rest h = h
  locals_most i (suc n) rest h = (omega arith, locals_most (suc i) n rest h)

  many : count ≤ 40 → length p.functions ≤ 1000
  many few = omega (arith, few, functions_long seed 0 count, length-append (marked_functions seed 0 count) (main_function count ∷ []))

  pub none_exceeded : count ≤ 40 → first_exceeded p ≡ None
  none_exceeded few =
      let a = kept (functions_limit p) (many few, tt) in
      let b = kept (globals_limit p) (omega arith, tt) in
      let c = kept (parameters_limit p)
      (omega arith, (omega arith, functions_most 8 (λ f. f.params) (λ i f j c h. omega arith) seed 0 count (main_function count ∷ []) (omega arith, tt))) in
      let d = kept (switches_limit p) (omega arith, tt) in
      let e = kept (values_limit p) (omega arith, (omega arith, (omega arith, (omega arith, tt)))) in
      let f = kept (switches_of_function_limit p) (functions_most 6 counted_switches switches_few seed 0 count (main_function count ∷ []) (omega arith, tt)) in
      let g = kept (assignments_limit p) (functions_most 64 (λ f. assignments p f) assignments_most seed 0 count (main_function count ∷ []) (omega arith, tt)) in
      let h = kept (elements_limit p)
      (omega arith, (omega arith, (omega arith, (omega arith, (omega arith, locals_most 0 count (main_function count ∷ []) (omega arith, tt)))))) in
      let i = kept (pointers_limit p) (omega arith, tt) in
      nine _ _ _ _ _ _ _ _ _ a b c d e f g h i
    where
      nine : (a b c d e f g h i : Option Exceeded) → a ≡ None → b ≡ None → c ≡ None → d ≡ None → e ≡ None → f ≡ None → g ≡ None → h ≡ None → i ≡ None →
          first_some (a ∷ b ∷ c ∷ d ∷ e ∷ f ∷ g ∷ h ∷ i ∷ []) ≡ None
      nine a b c d e f g h i p q r s t u v w x = rw (p, q, r, s, t, u, v, w, x) refl

-- ---- the program

pub is_program : (seed : ℕ) → IsProgram (generated seed) (program seed)
unfolding unit_reads
is_program seed = record {
  unit = unit_of seed;
  reads = record { reads = unit_reads seed; shallow = unit_shallow seed };
  good = same_judgement (unit_of seed) ∙ unit_good seed;
  within = none_in_order (unit_of seed) (program seed) (few_parameters seed) (none_exceeded seed (functions seed) (omega arith));
}
