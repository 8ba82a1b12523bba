use Rattle.std.proofs.Common.{◌≡◌, ap, length, map, take, get_or, sym, subst, arith, All, List, ◌+◌, ◌++◌, ◌∷◌, []}
use Rattle.std.proofs.lemmas.Option.{slice_get_within}
use Rattle.mv_linker.specs.declared.parts.PartFunction.{PartFunction}
use Rattle.mv_variants.specs.declared.variant.Variant.{Variant}
use Rattle.mv_parts.specs.Parts.{FitsVariant, IsPartFunction}
use Rattle.mv_parts.proofs.Numbers.{attributed_at, number_at}
use Rattle.mv_parts.proofs.Fitting.{variants_fit}
use Rattle.mv_parts.proofs.Tables.{EachPart, function_at, table_at, part_push, numbers_push, parts_count}
use Rattle.mv_parts.proofs.attributed.part_functions.Goals as goal

pub bounds-functions-number : goal.bounds-functions-number
bounds-functions-number c =
    let p = c.args.program.now in
    let f = get_or c.args.numbers.now c.loop-place.place 0 in
    let a = attributed_at p c.loop-place.place f (number_at p c.args.numbers.now c.requires.numbers c.loop-place.place 0 c.loop-place-test.true) in
    let below = slice_get_within p.functions f a.function a.there in
    omega (arith, below, ap length c.as_slice-functions.ensures)

pub part_function-requires : goal.part_function-requires
part_function-requires c =
    let p = c.args.program.now in
    let n = c.loop-place.place in
    let f = get_or c.args.numbers.now n 0 in
    let at = number_at p c.args.numbers.now c.requires.numbers n 0 c.loop-place-test.true in
    let a = attributed_at p n f at in
    let variants = c.index-tables-place.result in
    let in_table = table_at p c.args.tables.now c.requires.tables c.args.numbers.now c.requires.numbers n c.loop-place-test.true variants c.index-tables-place.is in
    let are = c.requires.tables.each n f variants at in_table a.function a.there in
    let forms = c.lowered_forms_are_right.ensures in
    subst (λ (vs : List Variant). All FitsVariant vs) (sym c.as_slice.ensures)
    (variants_fit c.made_bodies_are_variants.ensures.all c.rows_lead_to_variants.ensures.bodies forms.shallow forms.well_formed p c.requires.formed c.requires.frames f a.function a.there
    variants are)

pub loop-place-preserved : goal.loop-place-preserved
loop-place-preserved c =
    let p = c.args.program.now in
    let n = c.loop-place.place in
    let f = get_or c.args.numbers.now n 0 in
    let at = number_at p c.args.numbers.now c.requires.numbers n 0 c.loop-place-test.true in
    let g = c.index-functions-number.result in
    let there = function_at p n f at c.as_slice-functions.result.now c.as_slice-functions.ensures g c.index-functions-number.is in
    let variants = c.index-tables-place.result in
    let in_table = table_at p c.args.tables.now c.requires.tables c.args.numbers.now c.requires.numbers n c.loop-place-test.true variants c.index-tables-place.is in
    let part = c.in_ok-part_function.field-0 in
    let is : IsPartFunction g f variants part = subst (λ (vs : List Variant). IsPartFunction g f vs part) c.as_slice.ensures c.in_ok-part_function.ensures in
    let parts = c.loop-place.parts in
    let before = c.loop-place.invariant in
    let count = parts_count c.args.numbers.now n parts c.loop-place-test.true before.numbers in
    let pushed : c.push.new.self ≡ parts ++ part ∷ [] = c.in_ok-push.ensures.ok in
    record {
      numbers =
          subst (λ (xs : List PartFunction). map (λ (a : PartFunction). a.function) xs ≡ take (n + 1) c.args.numbers.now) (sym pushed)
          (numbers_push c.args.numbers.now n 0 parts part c.loop-place-test.true before.numbers is.function);
      each =
          subst (λ (xs : List PartFunction). EachPart p c.args.tables.now xs) (sym pushed)
          (part_push p c.args.tables.now parts before.each n count f at g there variants in_table part is);
    }
