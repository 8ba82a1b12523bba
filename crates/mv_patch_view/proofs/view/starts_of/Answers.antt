use Rattle.std.proofs.Common.{List, ap, arith, get_or, length, ◌∙◌}
use Rattle.std.proofs.lemmas.Option.{slice_get-get_or}
use Rattle.mv_descriptors.specs.declared.rows.FunctionRow.{FunctionRow}
use Rattle.mv_patch.proofs.GroupRows.{variants_within}
use Rattle.mv_patch.proofs.TablePlaces.{no_function}
use Rattle.mv_patch_view.proofs.view.starts_of.Goals as goal

pub overflow_add-count : goal.overflow_add-count
overflow_add-count c =
    let image = c.args.image.now in
    let i = c.loop-row.row-index in
    let rows = c.as_slice-row-items.ensures ∙ c.functions.ensures in
    let lt = c.loop-row-test.true in
    let here = ap (λ (rows : List FunctionRow). (get_or rows i no_function).variants) rows in
    let there = ap length rows in
    let within = variants_within image i (get_or image.functions i no_function) c.rows_belong.ensures.variants (slice_get-get_or image.functions i no_function (omega (arith, lt, there))) in
    omega (arith, within, here, c.loop-row.invariant.sum, c.within_limits.ensures.variants)
