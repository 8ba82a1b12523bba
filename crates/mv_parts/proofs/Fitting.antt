-- The variants of functions with small frames are bodies that code can be selected for.
use Rattle.std.proofs.Common.{◌≡◌, ℕ, All, List, Some, length, slice_get, sym, ap, ◌∙◌}
use Rattle.std.specs.List.{zip}
use Rattle.std.proofs.lemmas.Option.{slice_get_within}
use Rattle.mv_ast.specs.declared.program.Program.{Program}
use Rattle.mv_ast.specs.declared.program.Function.{Function}
use Rattle.mv_lower_spec.specs.Functions.{lower_function}
use Rattle.mv_lower_spec.specs.Shape.Law.{LoweredAreShallow, LoweredAreWellFormed}
use Rattle.mv_source_forms.specs.WellFormed.{IsWellFormed}
use Rattle.mv_variants.specs.Bound.Led.{BodiesAreMade}
use Rattle.mv_variants.specs.Bound.Meant.{IsVariantOf, MadeAreVariants}
use Rattle.mv_variants.specs.Bound.Switches.{domains_in}
use Rattle.mv_variants.proofs.OfBound.Variants.{room_fits}
use Rattle.mv_variants.specs.declared.variant.Variant.{Variant}
use Rattle.mv_variants.specs.Domains.{switch_kind}
use Rattle.mv_variants.specs.Variants.{AreVariants}
use Rattle.mv_parts.specs.Codes.{FramesFit}
use Rattle.mv_parts.specs.Parts.{FitsVariant}
use Rattle.mv_parts.proofs.Lists.{all_by_index, map_at}

module _ (made : MadeAreVariants) (came : BodiesAreMade) (shallow : LoweredAreShallow) (well : LoweredAreWellFormed) (p : Program) (formed : IsWellFormed p)
    (frames : FramesFit p (length p.functions)) (f : ℕ) (g : Function) (there : slice_get p.functions f ≡ Some g) (variants : List Variant) (are : AreVariants p g variants) where
  fits : (i : ℕ) (v : Variant) → slice_get variants i ≡ Some v → FitsVariant v
  fits i v is =
      let kept : slice_get are.merged.bodies i ≡ Some v.body = ap (λ xs. slice_get xs i) (sym are.grouped.bodies) ∙ map_at (λ (x : Variant). x.body) variants i v is in
      let from = came (domains_in p (switch_kind p) g) are.rows are.merged are.is_merged are.shorts (lower_function p g) are.made i v.body kept in
      let variant : IsVariantOf are.shorts (zip (lower_function p g).switches from.0.assignment.values) (lower_function p g) v.body =
      made are.shorts (zip (lower_function p g).switches from.0.assignment.values) (lower_function p g) v.body from.2 in
      let own = frames f g (slice_get_within p.functions f g there) there in
      record {
        formed = variant.well_formed (well p f g (record { formed = formed; there = there }));
        shallow = variant.deepest (shallow p g);
        frame = room_fits (lower_function p g) v.body variant.sizes variant.room own;
      }

  pub variants_fit : All FitsVariant variants
  variants_fit = all_by_index FitsVariant variants fits
