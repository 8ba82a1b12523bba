use Rattle.std.proofs.Common.{◌≡◌, ◌∙◌, ap, length, length-append, get_or, sym, subst, arith, List, ◌++◌, ◌∷◌, []}
use Rattle.std.proofs.lemmas.List.{length-map}
use Rattle.std.proofs.lemmas.Option.{slice_get_within}
use Rattle.std.proofs.lemmas.Result.{err_from_is_err_and}
use Rattle.mv_ast.specs.Counts.{is_attributed}
use Rattle.mv_lower_spec.specs.Functions.{lower_function}
use Rattle.mv_variants.specs.declared.variant.Variant.{Variant}
use Rattle.mv_parts.proofs.Numbers.{attributed_at, number_at}
use Rattle.mv_variants.specs.Fronts.{PassesWithinOf}
use Rattle.mv_variants.specs.Sizes.{HasSmallFrame, IsWith}
use Rattle.mv_variants.proofs.Fronts.{on_limit}
use Rattle.mv_parts.specs.Fronts.{all_bodies, AreCoded, AreFirstTables, PassesFront}
use Rattle.mv_parts.proofs.Fronts.{coded_push, front_over, none_coded, none_first, none_with, with_push}
use Rattle.mv_parts.proofs.Tables.{lowered_from, table_push}
use Rattle.mv_parts.proofs.attributed.tables_of.Goals as goal

pub bounds-lowered-number : goal.bounds-lowered-number
bounds-lowered-number c =
    let p = c.args.program.now in
    let f = get_or c.args.numbers.now c.loop-number.number-index 0 in
    let a = attributed_at p c.loop-number.number-index f (number_at p c.args.numbers.now c.requires.numbers c.loop-number.number-index 0 c.loop-number-test.true) in
    let below = slice_get_within p.functions f a.function a.there in
    let count = ap length c.requires.lowered ∙ length-map p.functions (lower_function p) in
    omega (arith, below, count)

pub variants_of-requires-clause-attributed : goal.variants_of-requires-clause-attributed
variants_of-requires-clause-attributed c =
    let p = c.args.program.now in
    let f = get_or c.args.numbers.now c.loop-number.number-index 0 in
    let a = attributed_at p c.loop-number.number-index f (number_at p c.args.numbers.now c.requires.numbers c.loop-number.number-index 0 c.loop-number-test.true) in
    ap is_attributed a.there ∙ a.attributed

pub variants_of-requires-clause-lowered : goal.variants_of-requires-clause-lowered
variants_of-requires-clause-lowered c =
    let p = c.args.program.now in
    let f = get_or c.args.numbers.now c.loop-number.number-index 0 in
    let a = attributed_at p c.loop-number.number-index f (number_at p c.args.numbers.now c.requires.numbers c.loop-number.number-index 0 c.loop-number-test.true) in
    let below = slice_get_within p.functions f a.function a.there in
    let count = ap length c.requires.lowered ∙ length-map p.functions (lower_function p) in
    lowered_from p c.args.lowered.now c.requires.lowered f c.index-lowered-number.result (omega (arith, below, count)) c.index-lowered-number.is

pub variants_of-requires-clause-frame : goal.variants_of-requires-clause-frame
variants_of-requires-clause-frame c =
    let p = c.args.program.now in
    let f = get_or c.args.numbers.now c.loop-number.number-index 0 in
    let a = attributed_at p c.loop-number.number-index f (number_at p c.args.numbers.now c.requires.numbers c.loop-number.number-index 0 c.loop-number-test.true) in
    let below = slice_get_within p.functions f a.function a.there in
    let count = ap length c.requires.lowered ∙ length-map p.functions (lower_function p) in
    let lowered = lowered_from p c.args.lowered.now c.requires.lowered f c.index-lowered-number.result (omega (arith, below, count)) c.index-lowered-number.is in
    subst HasSmallFrame (sym (lowered a.function a.there)) (c.requires.frames f a.function below a.there)

pub variants_of-requires-clause-room : goal.variants_of-requires-clause-room
variants_of-requires-clause-room c = c.loop-number.invariant.fits

pub loop-number-init : goal.loop-number-init
loop-number-init c =
    let none = c.new-tables.ensures in
    record {
      one_each = ap length none;
      each = none_first c.args.program.now _ none;
      coded = none_coded c.args.program.now _ none;
      is = none_with c.args.program.now _ none c.args.size c.requires.room;
      fits = c.requires.room;
    }

pub loop-number-preserved : goal.loop-number-preserved
loop-number-preserved c =
    let p = c.args.program.now in
    let f = get_or c.args.numbers.now c.loop-number.number-index 0 in
    let at = number_at p c.args.numbers.now c.requires.numbers c.loop-number.number-index 0 c.loop-number-test.true in
    let a = attributed_at p c.loop-number.number-index f at in
    let below = slice_get_within p.functions f a.function a.there in
    let count = ap length c.requires.lowered ∙ length-map p.functions (lower_function p) in
    let body = c.index-lowered-number.result in
    let lowered = lowered_from p c.args.lowered.now c.requires.lowered f body (omega (arith, below, count)) c.index-lowered-number.is in
    let measured = c.in_ok-measured.measured in
    let variants = measured.variants in
    let old = c.loop-number.tables in
    let i = c.loop-number.invariant in
    let pushed : c.push.new.self ≡ old ++ variants ∷ [] = c.in_ok-push.ensures.ok in
    let each = table_push p old i.each c.loop-number.number-index f i.one_each at variants c.in_ok-measured.ensures.variants in
    let coded = coded_push p c.args.size old i.coded c.loop-number.number-index f i.one_each at c.loop-number.with i.is body lowered c.args.shorts.now c.requires.shorts variants c.in_ok-measured.ensures.measured.each in
    let is = with_push p c.args.size old i.coded c.loop-number.number-index f i.one_each at c.loop-number.with i.is variants measured.size c.in_ok-measured.ensures.measured.is in
    record {
      one_each = omega (arith, simp length-append at (ap length pushed), i.one_each);
      each = subst (AreFirstTables p) (sym pushed) each;
      coded = subst (AreCoded p) (sym pushed) coded;
      is = subst (λ (xs : List (List Variant)). IsWith c.args.size (all_bodies xs) measured.size) (sym pushed) is;
      fits = c.in_ok-measured.ensures.measured.fits;
    }

pub returns-clause-room : goal.returns-clause-room
returns-clause-room c =
    let i = c.loop-number.invariant in
    record { coded = i.coded; with = c.loop-number.with; is = i.is; fits = i.fits }

pub returns-in_err-measured-clause-limit : goal.returns-in_err-measured-clause-limit
returns-in_err-measured-clause-limit c =
    let p = c.args.program.now in
    let n = c.loop-number.number-index in
    let f = get_or c.args.numbers.now n 0 in
    let at = number_at p c.args.numbers.now c.requires.numbers n 0 c.loop-number-test.true in
    let a = attributed_at p n f at in
    let i = c.loop-number.invariant in
    let before = c.loop-number.with in
    let q = err_from_is_err_and c.from_residual.result c.from_residual.ensures.1 in
    rw (q.1, q.2)
    (on_limit (PassesWithinOf p f before) (PassesFront p c.args.size)
    (λ over h. front_over p c.args.size c.loop-number.tables i.coded n f i.one_each at before i.is i.each a.function a.there over (h a.function a.there)) c.in_err-measured.field-0.0
    c.in_err-measured.ensures.limit)
