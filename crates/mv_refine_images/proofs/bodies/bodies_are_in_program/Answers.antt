use Rattle.mv_refine_images.proofs.OfBodies.Facts.{Laws, VariantLaws}
use Rattle.mv_refine_images.proofs.OfBodies.Own.{has_own_code}
use Rattle.mv_refine_images.proofs.OfBodies.Varied.{has_variant_code}
use Rattle.mv_refine_images.proofs.bodies.bodies_are_in_program.Goals as goal

pub returns-clause-functions : goal.returns-clause-functions
returns-clause-functions c =
    let names = c.lowered_names_are_there.ensures in
    let laws : Laws = record {
      functions_there = names.functions;
      orders_there = names.orders;
      same_code = c.code_is_the_same.ensures;
      rooms_stand = c.rooms_stand.ensures;
    } in
    has_own_code laws

pub returns-clause-variants : goal.returns-clause-variants
returns-clause-variants c =
    let names = c.lowered_names_are_there.ensures in
    let laws : VariantLaws = record {
      lowered = record {
        functions_there = names.functions;
        orders_there = names.orders;
        same_code = c.code_is_the_same.ensures;
        rooms_stand = c.rooms_stand.ensures;
      };
      reads = c.lowered_forms_are_right.ensures.reads;
      bodies_made = c.rows_lead_to_variants.ensures.bodies;
      no_switch = c.variants_read_no_switch.ensures;
      name_no_more = c.variants_can_be_selected.ensures.names;
      same_inline = c.inline_law.ensures.same;
    } in
    has_variant_code laws
