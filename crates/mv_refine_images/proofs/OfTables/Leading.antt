-- The rows of a program's image lead to the variants that mean what the functions mean.
use Rattle.std.proofs.Common.{◌≡◌, ℕ, List, Some, length, map, slice_get, sym, ap, ◌∙◌, subst, arith}
use Rattle.std.specs.List.{zip}
use Rattle.std.proofs.lemmas.List.{length-map}
use Rattle.mv_ast.specs.declared.program.Program.{Program}
use Rattle.mv_ast.specs.declared.program.Function.{Function}
use Rattle.mv_descriptors.specs.declared.rows.GuardRow.{GuardRow}
use Rattle.mv_image.specs.Spelling.{Fields}
use Rattle.mv_ir.specs.declared.body.Body.{Body}
use Rattle.mv_ir.specs.Combinations.{AllApart}
use Rattle.mv_ir.specs.Shorts.{Shorts}
use Rattle.mv_lower_spec.specs.Functions.{lower_function}
use Rattle.mv_variants.specs.Bound.Led.{IsLed}
use Rattle.mv_variants.specs.Bound.Meant.{IsVariantOf, MadeAreVariants}
use Rattle.mv_variants.specs.Bound.Shorts.{AreShortsOf}
use Rattle.mv_variants.specs.Bound.Switches.{LeadsFunction, FunctionsAreLed}
use Rattle.mv_variants.specs.Bound.Rows as merged
use Rattle.mv_linker.specs.declared.parts.Parts.{Parts}
use Rattle.mv_linker.specs.Outcome.{IsLinked}
use Rattle.mv_variants.specs.declared.variant.Variant.{Variant}
use Rattle.mv_variants.specs.Domains.{switch_kind}
use Rattle.mv_variants.specs.Variants.{AreVariants, bodies_of, guards_of}
use Rattle.mv_parts.specs.Parts.{ArePartsOf}
use Rattle.mv_refine_images.specs.Tables.Leads.{IsLedTo, LeadsToVariants}
use Rattle.mv_refine_images.specs.Tables.Rows.{IsNth}
use Rattle.mv_parts.proofs.Lists.{map_at}
use Rattle.mv_refine_images.proofs.OfTables.Tabled.{groups, has_tables, own_row}
use Rattle.mv_num.proofs.Lists.{there_at}
use Rattle.std.proofs.lemmas.Option.{same_Some}

-- one body of a function's variants is that of one of them
module _ (p : Program) (g : Function) (image : Fields) (variants : List Variant) (n : ℕ) (bodies : List Body) (are : bodies_of variants ≡ bodies) (made : MadeAreVariants)
    (shorts : Shorts) (known : AreShortsOf p shorts) where
  led_to : (vs : List ℕ) → IsLed shorts image (lower_function p g) bodies n vs → IsLedTo p g image variants n vs
  led_to vs led =
      let count = sym (length-map variants (λ (v : Variant). v.body)) ∙ ap length are in
      let below = led.below in
      let found = there_at variants led.place (omega (arith, count, below)) in
      let in_bodies : slice_get bodies led.place ≡ Some found.0.body =
      subst (λ (bs : List Body). slice_get bs led.place ≡ Some found.0.body) are (map_at (λ (v : Variant). v.body) variants led.place found.0 found.1) in
      let same : led.result ≡ found.0.body = same_Some led.result found.0.body (sym led.there ∙ in_bodies) in record {
        place = led.place;
        variant = found.0;
        there = found.1;
        fits = led.fits;
        shorts = shorts;
        known = known;
        is_variant = subst (IsVariantOf shorts (zip (lower_function p g).switches vs) (lower_function p g)) same
            (made shorts (zip (lower_function p g).switches vs) (lower_function p g) led.result led.made);
      }

module _ (functions_led : FunctionsAreLed) (made : MadeAreVariants) (p : Program) (bodies : List Body) (tables : List (List Variant)) (parts : Parts)
    (are : ArePartsOf p bodies tables parts) (image : Fields) (linked : IsLinked parts image) where
  leads_with : (n f : ℕ) (g : Function) (variants : List Variant) → IsNth p tables n f g variants → AreVariants p g variants → LeadsToVariants p g image variants n
  leads_with n f g variants nth v =
      let own = own_row p bodies tables parts are image linked n f g variants nth in
      let table : slice_get (groups p bodies tables parts are) n ≡ Some (merged.groups v.merged) =
      subst (λ (gs : List (List GuardRow)). slice_get (map guards_of tables) n ≡ Some gs) v.grouped.guards (map_at guards_of tables n variants nth.table) in
      let led : LeadsFunction p g image v.merged.bodies n =
      functions_led p g (switch_kind p) image (groups p bodies tables parts are) (has_tables p bodies tables parts are image linked) v.words v.rows v.merged v.all v.is_merged v.shorts v.known v.made
      n own.row table own.there own.switches in record {
        assignments = λ vs is_one. led_to p g image variants n v.merged.bodies v.grouped.bodies made led.shorts led.known vs (led.combinations vs is_one);
        others = led.others;
        apart = subst AllApart (sym v.grouped.bodies) v.is_merged.apart;
      }

  pub leads : (n f : ℕ) (g : Function) (variants : List Variant) → IsNth p tables n f g variants → LeadsToVariants p g image variants n
  leads n f g variants nth = leads_with n f g variants nth (are.codes.are_tables.each n f variants nth.number nth.table g nth.there)
