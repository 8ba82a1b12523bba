use Rattle.std.proofs.Common.{List, drop, ap, ◌∙◌}
use Rattle.std.proofs.lemmas.List.{take_rest}
use Rattle.mv_descriptors.specs.declared.rows.GuardRow.{GuardRow}
use Rattle.mv_patch.proofs.Fits.{fits}
use Rattle.mv_patch.proofs.groups.fitting_variant.Goals as goal

pub returns : goal.returns
returns c =
    let rows = c.as_slice.ensures ∙ c.guards.ensures in
    c.fitting.ensures
    ∙ fits c.args.image.now c.args.group c.args.row.now c.args.values.now _ _ _ c.requires.group c.requires.row c.kinds_of-kinds.ensures c.own_variants-variants.ensures.variants
    (take_rest c.as_slice.result.now c.args.group.guard ∙ ap (λ (l : List GuardRow). drop c.args.group.guard l) rows)
