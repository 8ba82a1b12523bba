use Rattle.std.proofs.Common.{List, slice_get, Some, None, sym, ap, ◌∙◌}
use Rattle.mv_descriptors.specs.declared.rows.VariantRow.{VariantRow}
use Rattle.mv_patch.proofs.Padded.{variant_at}
use Rattle.mv_patch.proofs.bindings.bound_variant.Goals as goal

pub returns-in-None : goal.returns-in-None
returns-in-None c =
    sym (variant_at c.args.image.now c.args.group.function c.args.binding.now c.min-count.result c.padded-values.result None c.if-not-binding.false c.has_six.ensures c.min-count.ensures c.padded-values.ensures c.in-None.ensures)

pub returns-in-Some : goal.returns-in-Some
returns-in-Some c =
    c.copied.ensures ∙ c.get.ensures ∙ ap (λ (l : List VariantRow). slice_get l c.in-Some.number) c.variants.ensures
    ∙ sym (variant_at c.args.image.now c.args.group.function c.args.binding.now c.min-count.result c.padded-values.result
    (Some c.in-Some.number) c.if-not-binding.false c.has_six.ensures c.min-count.ensures c.padded-values.ensures c.in-Some.ensures)
