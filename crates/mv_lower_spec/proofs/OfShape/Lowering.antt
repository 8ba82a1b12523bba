-- The lowering of a well-formed program keeps its promises: the laws on its functions, on the whole and on the form of its code, together.
use Rattle.std.proofs.Common.{◌≡◌, ℕ, Option, Some, refl, sym, ◌∙◌, ap, subst}
use Rattle.std.specs.Prelude.{slice_get, option_map}
use Rattle.std.proofs.lemmas.List.{length-map}
use Rattle.std.proofs.lemmas.Option.{slice_get-map}
use Rattle.mv_ast.specs.declared.program.Program.{Program}
use Rattle.mv_ast.specs.declared.program.Function.{Function}
use Rattle.mv_ir.specs.declared.body.Body.{Body}
use Rattle.mv_lower_spec.specs.Functions.{lower_function, lower_program}
use Rattle.mv_lower_spec.specs.Programs.Laws.{FunctionsAreRight, ProgramsAreRight}
use Rattle.mv_source_forms.specs.WellFormed.{IsWellFormed}
use Rattle.mv_lower_spec.specs.Shape.Law.{IsFunctionOf, LoweredAreShallow, LoweredAreWhole, LoweredAreWellFormed, LoweredCallAsOften, LoweredReadNoMore, LoweredAreSmall}
use Rattle.mv_lower_spec.specs.Shape.Lowering.{IsLoweredFunction, IsLowering}

-- the body with the number of a function is its lowering
body_is : (p : Program) (f : ℕ) (g : Function) (b : Body) → slice_get p.functions f ≡ Some g → slice_get (lower_program p).bodies f ≡ Some b → lower_function p g ≡ b
body_is p f g b there here =
    let e : Some (lower_function p g) ≡ Some b = sym (ap (λ (o : Option Function). option_map (lower_function p) o) there) ∙ (sym (slice_get-map (lower_function p) p.functions f) ∙ here) in
    cc

module _ (functions : FunctionsAreRight) (programs : ProgramsAreRight) (shallow : LoweredAreShallow) (whole : LoweredAreWhole) (well_formed : LoweredAreWellFormed) (often : LoweredCallAsOften) (reads : LoweredReadNoMore)
    (small : LoweredAreSmall) (p : Program) (formed : IsWellFormed p) where
  function_right : (f : ℕ) (g : Function) → slice_get p.functions f ≡ Some g → IsLoweredFunction p (lower_program p) f g (lower_function p g)
  function_right f g there =
      let known : IsFunctionOf p f g = record { formed = formed; there = there } in
      record {
        means = λ numbers bound contents vs frame w count globals strays. functions p numbers bound f g formed there contents vs frame w count globals strays;
        params = refl;
        switches = refl;
        whole = whole p f g known;
        well_formed = well_formed p f g known;
        shallow = shallow p g;
        calls = often p f g known;
        reads = reads p f g known;
        small = small p f g known;
      }

  pub lowering_right : IsLowering p (lower_program p)
  lowering_right = record {
    program = refl;
    means = λ numbers numbering hart input actions bound fit. programs p numbers formed numbering hart input actions bound fit;
    as_many = length-map p.functions (lower_function p);
    functions = λ f g b there here. subst (IsLoweredFunction p (lower_program p) f g) (body_is p f g b there here) (function_right f g there);
  }
