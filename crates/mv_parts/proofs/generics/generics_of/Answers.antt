use Rattle.std.proofs.Common.{◌≡◌, ◌∙◌, ap, length, length-append, sym, subst, arith, List, ◌++◌, ◌∷◌, []}
use Rattle.mv_ir.specs.declared.body.Body.{Body}
use Rattle.mv_parts.proofs.Functions.{EachGeneral, all_short, lowered_at, whole_at, formed_at, general_push}
use Rattle.mv_parts.proofs.generics.generics_of.Goals as goal

pub general-requires-clause-whole : goal.general-requires-clause-whole
general-requires-clause-whole c =
    let p = c.args.program.now in
    let items = c.as_slice-body-items.ensures ∙ c.requires.lowered in
    whole_at p c.lowered_forms_are_right.ensures.whole c.requires.formed c.loop-body.body-index c.body-item.result
    (lowered_at p c.as_slice-body-items.result.now c.loop-body.body-index c.body-item.result items c.loop-body-test.true c.body-item.is)

pub general-requires-clause-formed : goal.general-requires-clause-formed
general-requires-clause-formed c =
    let p = c.args.program.now in
    let items = c.as_slice-body-items.ensures ∙ c.requires.lowered in
    formed_at p c.lowered_forms_are_right.ensures.well_formed c.requires.formed c.loop-body.body-index c.body-item.result
    (lowered_at p c.as_slice-body-items.result.now c.loop-body.body-index c.body-item.result items c.loop-body-test.true c.body-item.is)

pub general-requires-clause-short : goal.general-requires-clause-short
general-requires-clause-short c = all_short c.args.program.now c.args.shorts.now c.requires.shorts

pub loop-body-preserved : goal.loop-body-preserved
loop-body-preserved c =
    let p = c.args.program.now in
    let items = c.as_slice-body-items.ensures ∙ c.requires.lowered in
    let lowered = lowered_at p c.as_slice-body-items.result.now c.loop-body.body-index c.body-item.result items c.loop-body-test.true c.body-item.is in
    let other = c.in_ok-general.field-0 in
    let pushed : c.push.new.self ≡ c.loop-body.generics ++ other ∷ [] = c.in_ok-push.ensures.ok in
    let each = general_push p c.loop-body.generics c.loop-body.invariant.each c.loop-body.body-index c.loop-body.invariant.one_each c.body-item.result other lowered
    c.args.shorts.now c.requires.shorts c.in_ok-general.ensures in record {
      one_each = omega (arith, simp length-append at (ap length pushed), c.loop-body.invariant.one_each);
      each = subst (λ (xs : List Body). EachGeneral p xs) (sym pushed) each;
    }
