use Rattle.std.proofs.Common.{◌≡◌, ap, length, length-append, sym, refl, subst, arith, List, ◌++◌, ◌∷◌, []}
use Rattle.std.proofs.lemmas.Option.{slice_get_read}
use Rattle.mv_linker.specs.declared.parts.PartVariant.{PartVariant}
use Rattle.mv_parts.specs.Parts.{FitsVariant}
use Rattle.mv_parts.proofs.Tables.{EachVariant, variant_push}
use Rattle.mv_parts.proofs.attributed.part_variants.Goals as goal

pub part_variant-requires : goal.part_variant-requires
part_variant-requires c = subst FitsVariant (sym c.variant-item.is) (c.requires c.loop-variant.variant-index c.variant-item.result c.loop-variant-test.true)

pub loop-variant-preserved : goal.loop-variant-preserved
loop-variant-preserved c =
    let variants = c.args.variants.now in
    let part = c.in_ok-part_variant.field-0 in
    let at = slice_get_read variants (length variants) c.loop-variant.variant-index c.variant-item.result refl c.loop-variant-test.true c.variant-item.is in
    let pushed : c.push.new.self ≡ c.loop-variant.parts ++ part ∷ [] = c.in_ok-push.ensures.ok in
    let each = variant_push variants c.loop-variant.parts c.loop-variant.invariant.each c.loop-variant.variant-index c.loop-variant.invariant.one_each c.variant-item.result at part
    c.in_ok-part_variant.ensures in record {
      one_each = omega (arith, simp length-append at (ap length pushed), c.loop-variant.invariant.one_each);
      each = subst (λ (xs : List PartVariant). EachVariant variants xs) (sym pushed) each;
    }
