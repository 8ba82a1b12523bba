use Rattle.std.proofs.Common.{◌≡◌, sym, subst, length, get_or, ◌<◌, ◌≤◌, ℕ, List}
use Rattle.std.proofs.lemmas.Result.{err_from_is_err_and}
use Rattle.mv_ir.specs.declared.body.Assignment.{Assignment}
use Rattle.mv_ir.specs.declared.body.Body.{Body}
use Rattle.mv_variants.specs.Fronts.{AreMeasured, PassesUnder, PassesWithinOf}
use Rattle.mv_variants.specs.Sizes.{OnLimit}
use Rattle.mv_variants.proofs.Fronts.{on_limit}
use Rattle.mv_variants.specs.Rows.{AreMergedUnder}
use Rattle.mv_variants.proofs.Functions.{attributed_there}
use Rattle.mv_variants.proofs.Whole.{all_few, are_variants, body_formed, body_shallow, body_whole, first_bodies, domains_apart, switches_few, values_fit}
use Rattle.mv_variants.proofs.variants_of.Goals as goal

pub merged_under-requires-clause-formed : goal.merged_under-requires-clause-formed
merged_under-requires-clause-formed c =
    body_formed c.args.program.now c.requires.formed c.args.function (attributed_there c.args.program.now c.args.function c.requires.attributed) c.lowered_forms_are_right.ensures.well_formed
    c.args.body.now c.requires.lowered

pub merged_under-requires-clause-whole : goal.merged_under-requires-clause-whole
merged_under-requires-clause-whole c =
    body_whole c.args.program.now c.requires.formed c.args.function (attributed_there c.args.program.now c.args.function c.requires.attributed) c.lowered_forms_are_right.ensures.whole
    c.args.body.now c.requires.lowered

pub merged_under-requires-clause-short : goal.merged_under-requires-clause-short
merged_under-requires-clause-short c = λ f b there. (c.requires.shorts f b there).short

pub merged_under-requires-clause-values : goal.merged_under-requires-clause-values
merged_under-requires-clause-values c =
    let p = c.args.program.now in
    let a = attributed_there p c.args.function c.requires.attributed in
    let all = c.in_ok-all.all in
    subst (λ (xs : List Assignment). (k : ℕ) (d : Assignment) → k < length xs → length c.args.body.now.switches ≡ length (get_or xs k d).values) (sym c.as_slice.ensures)
    (values_fit p c.requires.formed c.args.function a all (c.in_ok-all.ensures.every (domains_apart p c.requires.formed c.args.function a)) c.in_ok-all.ensures.count c.args.body.now c.requires.lowered)

pub merged_under-requires-clause-switches : goal.merged_under-requires-clause-switches
merged_under-requires-clause-switches c =
    let p = c.args.program.now in
    switches_few p c.requires.formed c.args.function (attributed_there p c.args.function c.requires.attributed) c.args.body.now c.requires.lowered

pub merged_under-requires-clause-few : goal.merged_under-requires-clause-few
merged_under-requires-clause-few c =
    let p = c.args.program.now in
    let a = attributed_there p c.args.function c.requires.attributed in
    let all = c.in_ok-all.all in
    subst (λ (xs : List Assignment). length xs ≤ 64) (sym c.as_slice.ensures)
    (all_few p c.requires.formed c.args.function a all (c.in_ok-all.ensures.every (domains_apart p c.requires.formed c.args.function a)) c.in_ok-all.ensures.count)

pub merged_under-requires-clause-shallow : goal.merged_under-requires-clause-shallow
merged_under-requires-clause-shallow c =
    body_shallow c.args.program.now c.requires.formed c.args.function (attributed_there c.args.program.now c.args.function c.requires.attributed) c.lowered_forms_are_right.ensures.shallow
    c.args.body.now c.requires.lowered

pub returns-clause-variants : goal.returns-clause-variants
returns-clause-variants c =
    let p = c.args.program.now in
    let a = attributed_there p c.args.function c.requires.attributed in
    let every = c.in_ok-all.ensures.every (domains_apart p c.requires.formed c.args.function a) in
    let merged = c.in_ok-kept.field-0.variants in
    are_variants p c.requires.formed c.args.function a c.in_ok-all.all every c.in_ok-all.ensures.count c.args.shorts.now c.requires.shorts c.args.body.now c.requires.lowered merged
    (subst (λ (xs : List Assignment). AreMergedUnder c.args.shorts.now c.args.body.now xs merged) c.as_slice.ensures c.in_ok-kept.ensures.merged) c.added_rows_are_merged.ensures.all
    c.in_ok-_domains._domains c.in_ok-_domains.ensures c.in_ok-variants.variants c.in_ok-variants.ensures

pub returns-clause-measured : goal.returns-clause-measured
returns-clause-measured c =
    subst (λ (bs : List Body). AreMeasured c.args.shorts.now c.args.body.now c.args.size bs c.in_ok-kept.field-0.size) (sym c.in_ok-variants.ensures.bodies) c.in_ok-kept.ensures.measured

pub returns-in_err-kept-clause-limit : goal.returns-in_err-kept-clause-limit
returns-in_err-kept-clause-limit c =
    let p = c.args.program.now in
    let shorts = c.args.shorts.now in
    let body = c.args.body.now in
    let size = c.args.size in
    let a = attributed_there p c.args.function c.requires.attributed in
    let all = c.in_ok-all.all in
    let every = c.in_ok-all.ensures.every (domains_apart p c.requires.formed c.args.function a) in
    let e = c.in_err-kept.field-0.0 in
    let q = err_from_is_err_and c.from_residual-in_err-kept.result c.from_residual-in_err-kept.ensures.1 in
    rw (q.1, q.2)
    (on_limit (PassesUnder shorts body all size) (PassesWithinOf p c.args.function size)
    (λ over h. first_bodies p c.requires.formed c.args.function a all every c.in_ok-all.ensures.count c.in_ok-all.ensures.order shorts c.requires.shorts body c.requires.lowered size over h) e
    (subst (λ (xs : List Assignment). OnLimit e (PassesUnder shorts body xs size)) c.as_slice.ensures c.in_err-kept.ensures.limit))
