-- The slots of four words in the code of a function's bodies, by their pointer switches.
use Rattle.std.proofs.Common.{arith, ◌≡◌, ℕ, Bool, true, false, eqb, ◌&&◌, refl, sym, ap, ◌∙◌}
use Rattle.std.specs.Prelude.{nat_eq}
use Rattle.std.proofs.lemmas.Bool.{eq-eqb, eqb-true}
use Rattle.std.proofs.Math.Path.{fun_ext}
use Rattle.mv_ast.specs.declared.program.Program.{Program}
use Rattle.mv_ast.specs.declared.program.Function.{Function}
use Rattle.mv_ast.specs.Counts.{calls_through, is_pointer}
use Rattle.mv_num.proofs.Booleans.{and_false, from_falsity, same_bools}
use Rattle.mv_ir.specs.declared.stm.Array.TheVariants as array
use Rattle.mv_ir.specs.declared.body.Body.{Body}
use Rattle.mv_ir.specs.WellFormed as ir
use Rattle.mv_source_forms.specs.WellFormed.{IsWellFormed}
use Rattle.mv_select_code.specs.Trees.Rooms.{place_in}
use Rattle.mv_select_code.specs.Control.Layouts.{size_in}
use Rattle.mv_select.specs.Calls.CallCode.{is_marked}
use Rattle.mv_select.specs.Functions.Functions.{shape_of}
use Rattle.mv_select.specs.Selected.{selected_lines}
use Rattle.mv_select.proofs.OfBodies.Lists.{each_true}
use Rattle.mv_lower_spec.specs.Functions.{names_global, lower_function}
use Rattle.mv_lower_spec.specs.Shape.Calls.{code_through}
use Rattle.mv_lower_spec.specs.Shape.Law.{CallsAsOften, LoweredAreWellFormed, LoweredCallAsOften}
use Rattle.mv_variants.specs.Bound.Slots.{points_where, PointsAreCalls}
use Rattle.mv_variants.proofs.OfBound.Meant.{made}
use Rattle.mv_variants.proofs.OfBound.Variants.{CountsNoMore, worked_no_more, made_no_more}
use Rattle.mv_variants.proofs.OfBound.Generals.{kept, general_no_more, general_same}
use Rattle.mv_variants.proofs.OfBound.Weights.{throughs, throughs_of_calls}
use Rattle.mv_count_code.specs.Sizes.{IsBodyOf, general, folded, bound}
use Rattle.mv_count_slots.specs.Calls.{PointersHaveSlots}
use Rattle.mv_count_slots.proofs.Places.{places_apart}
use Rattle.mv_count_slots.proofs.Through.{same_through}

-- ---- what each body of a function keeps

pub rooms_kept : (p : Program) (g : Function) (b : Body) → IsBodyOf p g b → b.rooms ≡ (lower_function p g).rooms
rooms_kept p g b (general r) = (kept r.shorts (lower_function p g) b r.general).rooms
rooms_kept p g b (folded body i r) = ap (λ (x : Body). x.rooms) r.changes ∙ i.rooms
rooms_kept p g b (bound ps m) = (made m.shorts ps (lower_function p g) b m.made).rooms

pub no_more : (p : Program) (g : Function) (b : Body) → IsBodyOf p g b → CountsNoMore (lower_function p g) b
no_more p g b (general r) layer m of calls = general_no_more r.shorts (lower_function p g) b r.general of calls
no_more p g b (folded body i r) layer m of calls = worked_no_more of (lower_function p g) body b i r
no_more p g b (bound ps h) layer m of calls = made_no_more of calls h.shorts ps (lower_function p g) b h.made

-- ---- calls through the pointer switch at a place

and_twice : (a b : Bool) → ((a && b) && b) ≡ (a && b)
and_twice true b = and_with_itself b
  where
    and_with_itself : (c : Bool) → (c && c) ≡ c
    and_with_itself true = refl
    and_with_itself false = refl
and_twice false b = refl

module _ (p : Program) (g : Function) (formed : IsWellFormed p) (often : CallsAsOften p g (lower_function p g)) (body_formed : ir.IsWellFormed (lower_function p g))
    (x : ℕ) (pointed : is_pointer p x ≡ true) where
  abbrev lowered : Body
  lowered = lower_function p g

  abbrev place : ℕ → ℕ
  place = place_in lowered.rooms

  abbrev pub of_pointers : (ℕ → Bool) → ℕ → Bool
  of_pointers test k = test k && is_pointer p k

  are_pointers : (test : ℕ → Bool) → code_through (of_pointers test) lowered.code ≡ calls_through (of_pointers test) g
  are_pointers test = often.pointers (of_pointers test) ∙ ap (λ t. calls_through t g) (fun_ext (λ k. and_twice (test k) (is_pointer p k)))

  only : (k : ℕ) → of_pointers (nat_eq x) k ≡ nat_eq x k
  only k = by (nat_eq x k) refl
    where
      by : (same : Bool) → nat_eq x k ≡ same → (same && is_pointer p k) ≡ same
      by true e = sym (ap (is_pointer p) (eqb-true x k e)) ∙ pointed
      by false e = refl

  -- the calls that a test picks, where of the pointer switches that have rooms it picks this one alone
  pub calls_by : (test : ℕ → Bool) → ((k : ℕ) → ir.is_there lowered.rooms lowered.arrays (array.Global k) ≡ true → of_pointers test k ≡ of_pointers (nat_eq x) k) →
      code_through test lowered.code ≡ calls_through (nat_eq x) g
  calls_by test agree =
      let there = ir.is_there lowered.rooms lowered.arrays in
      let same = same_through (of_pointers test) (of_pointers (nat_eq x)) (λ a. there a ≡ true) agree lowered.code (each_true there (ir.named lowered.code) body_formed.named) in
      often.pointers test ∙ (sym (are_pointers test) ∙ (same ∙ (are_pointers (nat_eq x) ∙ ap (λ t. calls_through t g) (fun_ext only))))

  -- ---- its slots

  -- the globals that stand where it does
  abbrev at_place : ℕ → Bool
  at_place k = eqb (place x) (place k)

  agree : (k : ℕ) → ir.is_there lowered.rooms lowered.arrays (array.Global k) ≡ true → of_pointers at_place k ≡ of_pointers (nat_eq x) k
  agree k there = by (is_pointer p k) (nat_eq x k) refl refl
    where
      by : (is same : Bool) → is_pointer p k ≡ is → nat_eq x k ≡ same → (at_place k && is) ≡ (same && is)
      by false same e f = and_false (at_place k) ∙ sym (and_false same)
      by true true e f = ap (λ b. b && true) (eq-eqb (place x) (place k) (ap place (eqb-true x k f)))
      by true false e f =
          let other : x ≡ k → ⊥ = λ same. from_falsity (sym f ∙ eq-eqb x k same) in
          let apart = places_apart p formed (names_global lowered.code) x k pointed e other there in
          ap (λ b. b && true) (same_bools (at_place k) false (λ t. absurd (apart (eqb-true (place x) (place k) t))) (λ t. from_falsity t))

  calls_are : code_through at_place lowered.code ≡ calls_through (nat_eq x) g
  calls_are = calls_by at_place agree

  module _ (are_calls : PointsAreCalls) (attributed : Bool) where
    abbrev points_at : Body → ℕ
    points_at b = points_where (eqb (place_in b.rooms x)) (selected_lines attributed b)

    points_are : (b : Body) → IsBodyOf p g b → points_at b ≡ code_through at_place b.code
    points_are b of =
        are_calls (place_in b.rooms) (size_in b.rooms) (is_marked b.marked) (shape_of attributed b) b.code (eqb (place_in b.rooms x))
        ∙ ap (λ rooms. code_through (λ k. eqb (place_in rooms x) (place_in rooms k)) b.code) (rooms_kept p g b of)

pub pointers_have_slots : PointsAreCalls → LoweredCallAsOften → LoweredAreWellFormed → PointersHaveSlots
pointers_have_slots are_calls often well_formed p f g h attributed x pointed =
    let calls = calls_are p g h.formed (often p f g h) (well_formed p f g h) x pointed in
    let points = points_are p g h.formed (often p f g h) (well_formed p f g h) x pointed are_calls attributed in
    let at = at_place p g h.formed (often p f g h) (well_formed p f g h) x pointed in (
      λ b r. points b (general r) ∙ (general_same r.shorts (lower_function p g) b r.general (throughs at) (throughs_of_calls at) (λ k short there to args. refl) ∙ calls),
      λ b of none. omega (arith, points b of, no_more p g b of _ _ (throughs at) (throughs_of_calls at), calls, none),
    )
