use Rattle.std.proofs.Common.{ℕ, ◌+◌, ap, arith}
use Rattle.std.specs.List.{sum_by}
use Rattle.std.proofs.lemmas.Option.{slice_get_within}
use Rattle.mv_descriptors.specs.declared.rows.VariantRow.{VariantRow}
use Rattle.mv_image.specs.Patched.{guards_before}
use Rattle.mv_patch.proofs.GroupRows.{variants_next, guards_next, guards_within}
use Rattle.mv_patch.proofs.groups.next_group.Goals as goal

pub overflow_add-result : goal.overflow_add-result
overflow_add-result c =
    let lt = slice_get_within c.args.image.now.functions c.args.group.function c.args.row.now c.requires.row.there in
    omega (arith, lt, c.within_limits.ensures.functions)

pub overflow_add-result-2 : goal.overflow_add-result-2
overflow_add-result-2 c = omega (arith, c.own_variants-variants.ensures.count, c.own_variants-variants.ensures.within, c.within_limits.ensures.variants)

pub count_guards-requires : goal.count_guards-requires
count_guards-requires c = omega (arith, c.own_variants-variants.ensures.count, c.own_variants-variants.ensures.within, c.within_limits.ensures.variants)

pub overflow_add-result-3 : goal.overflow_add-result-3
overflow_add-result-3 c =
    let image = c.args.image.now in
    let group = c.args.group in
    let next = guards_next image group.variant c.args.row.now.variants in
    let own = ap (sum_by (λ (row : VariantRow). row.guards)) c.own_variants-variants.ensures.variants in
    let within = guards_within image (group.variant + c.args.row.now.variants) c.rows_belong.ensures.guards in
    omega (arith, next, own, within, c.count_guards.ensures, c.requires.group.guard, c.within_limits.ensures.guards)

pub returns-clause-group : goal.returns-clause-group
returns-clause-group c =
    let image = c.args.image.now in
    let group = c.args.group in
    let more = variants_next image group.function c.args.row.now c.requires.row.there in
    let count = c.own_variants-variants.ensures.count in
    let next = guards_next image group.variant c.args.row.now.variants in
    let own = ap (sum_by (λ (row : VariantRow). row.guards)) c.own_variants-variants.ensures.variants in
    let there = ap (λ (n : ℕ). guards_before image (group.variant + n)) count in
    record {
      variant = omega (arith, more, count, c.requires.group.variant);
      guard = omega (arith, next, own, there, c.count_guards.ensures, c.requires.group.guard);
    }
