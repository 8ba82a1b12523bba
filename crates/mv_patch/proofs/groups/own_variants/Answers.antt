use Rattle.std.proofs.Common.{◌∙◌, ap, arith, length}
use Rattle.mv_patch.proofs.GroupRows.{variants_within}
use Rattle.mv_patch.proofs.groups.own_variants.Goals as goal

pub overflow_add-end : goal.overflow_add-end
overflow_add-end c =
    let within = variants_within c.args.image.now c.args.group.function c.args.row.now c.rows_belong.ensures.variants c.requires.row.there in
    omega (arith, within, c.requires.group.variant, c.within_limits.ensures.variants)

pub slice_bounds-result-end : goal.slice_bounds-result-end
slice_bounds-result-end c =
    let within = variants_within c.args.image.now c.args.group.function c.args.row.now c.rows_belong.ensures.variants c.requires.row.there in
    omega (arith, within, c.requires.group.variant, ap length (c.as_slice.ensures ∙ c.variants.ensures))
