use Rattle.std.proofs.Common.{◌∙◌, ℕ, List, ap, arith, length, slice_get, subst, sym}
use Rattle.std.specs.List.{zip}
use Rattle.std.proofs.lemmas.Bool.{false≢true}
use Rattle.mv_ir.specs.declared.body.Assignment.{Assignment}
use Rattle.mv_ir.specs.declared.body.Body.{Body}
use Rattle.mv_variants.specs.Sizes.{Fits, IfNew, IsSelectable}
use Rattle.mv_variants.proofs.OfBound.Meant.{ready_kept}
use Rattle.mv_variants.proofs.Fronts.{none_measured, passes_under}
use Rattle.mv_variants.proofs.Rows.{few_more, merged_push, none_merged, row_short}
use Rattle.mv_variants.proofs.Sizes.{made_selectable, measured_more, new_over, new_selectable, new_with}
use Rattle.mv_variants.proofs.making.merged_under.Goals as goal

pub loop-assignment-init : goal.loop-assignment-init
loop-assignment-init c = record {
  merged = none_merged c.args.shorts.now c.args.body.now _ c.new.ensures c.new-2.ensures c.added_rows_are_merged.ensures.none;
  few = omega (arith, ap length c.new.ensures);
  measured = none_measured c.args.shorts.now c.args.body.now c.args.size _ c.new.ensures c.requires.room;
}

pub row_under-requires-clause-ready_formed : goal.row_under-requires-clause-ready_formed
row_under-requires-clause-ready_formed c = (ready_kept c.args.shorts.now c.args.body.now c.in_ok-ready.ready c.in_ok-ready.ensures).well_formed c.requires.formed

pub row_under-requires-clause-ready_whole : goal.row_under-requires-clause-ready_whole
row_under-requires-clause-ready_whole c = (ready_kept c.args.shorts.now c.args.body.now c.in_ok-ready.ready c.in_ok-ready.ensures).whole c.requires.whole

pub row_under-requires-clause-same : goal.row_under-requires-clause-same
row_under-requires-clause-same c = (ready_kept c.args.shorts.now c.args.body.now c.in_ok-ready.ready c.in_ok-ready.ensures).switches

pub row_under-requires-clause-values : goal.row_under-requires-clause-values
row_under-requires-clause-values c =
    c.requires.values c.loop-assignment.assignment-index c.assignment-item.result c.loop-assignment-test.true ∙ ap (λ (a : Assignment). length a.values) (sym c.assignment-item.is)

pub add-requires-clause-values : goal.add-requires-clause-values
add-requires-clause-values c =
    let a = c.assignment-item.result in
    let each = c.requires.values c.loop-assignment.assignment-index a c.loop-assignment-test.true ∙ ap (λ (x : Assignment). length x.values) (sym c.assignment-item.is) in
    row_short c.args.shorts.now c.args.body.now c.args.assignments.now c.loop-assignment.assignment-index a c.loop-assignment-test.true c.assignment-item.is c.in_ok-row.row
    (c.in_ok-row.ensures c.args.shorts.now c.in_ok-ready.ensures) each
    c.requires.switches

pub with_new-requires : goal.with_new-requires
with_new-requires c =
    let old = c.loop-assignment.variants in
    let new = c.add.new.variants in
    let row = c.in_ok-row.row in
    let place = c.len-before.result in
    let values = c.assignment-item.result.values in
    let selectable =
    made_selectable c.made_bodies_are_variants.ensures.all c.args.shorts.now (zip c.args.body.now.switches values) c.args.body.now row.body c.requires.formed c.requires.shallow c.requires.frame
    (c.in_ok-row.ensures c.args.shorts.now c.in_ok-ready.ensures).made
    in
    let there = new_selectable old.bodies old.guards row new.bodies new.guards c.in_ok-add.ensures selectable in
    subst (λ (bs : List Body). IfNew IsSelectable (slice_get bs place)) (sym c.as_slice.ensures)
    (subst (λ (n : ℕ). IfNew IsSelectable (slice_get new.bodies n)) (sym c.len-before.ensures) there)

pub returns-then-not-fits-clause-limit : goal.returns-then-not-fits-clause-limit
returns-then-not-fits-clause-limit c =
    let old = c.loop-assignment.variants in
    let new = c.add.new.variants in
    let row = c.in_ok-row.row in
    let shorts = c.args.shorts.now in
    let is_row = c.in_ok-row.ensures shorts c.in_ok-ready.ensures in
    let body = c.args.body.now in
    let all = c.args.assignments.now in
    let k = c.loop-assignment.assignment-index in
    let a = c.assignment-item.result in
    let below = c.loop-assignment-test.true in
    let i = c.loop-assignment.invariant in
    let with = c.loop-assignment.with in
    let grown = c.in_ok-grown.grown in
    let added = c.in_ok-add.ensures in
    let merged = merged_push shorts body all k a below c.assignment-item.is row is_row old new c.added_rows_are_merged.ensures.more i.merged added in
    let few = few_more old.bodies old.guards row new.bodies new.guards added k i.few in
    let is = new_with old.bodies new.bodies with grown _ _ c.as_slice.ensures c.len-before.ensures c.in_ok-grown.ensures in
    let past : Fits grown → ⊥ = λ h. false≢true (sym c.if-not-fits.true ∙ c.fits.ensures.1 h) in
    let over = new_over old.bodies old.guards row new.bodies new.guards added shorts body (zip body.switches a.values) is_row.made c.args.size with grown i.measured is past in
    passes_under shorts body all k c.args.size grown old.bodies row.body new below merged few over

pub loop-assignment-preserved : goal.loop-assignment-preserved
loop-assignment-preserved c =
    let old = c.loop-assignment.variants in
    let new = c.add.new.variants in
    let row = c.in_ok-row.row in
    let shorts = c.args.shorts.now in
    let is_row = c.in_ok-row.ensures shorts c.in_ok-ready.ensures in
    let body = c.args.body.now in
    let all = c.args.assignments.now in
    let k = c.loop-assignment.assignment-index in
    let a = c.assignment-item.result in
    let below = c.loop-assignment-test.true in
    let i = c.loop-assignment.invariant in
    let with = c.loop-assignment.with in
    let grown = c.in_ok-grown.grown in
    let added = c.in_ok-add.ensures in
    let is = new_with old.bodies new.bodies with grown _ _ c.as_slice.ensures c.len-before.ensures c.in_ok-grown.ensures in
    record {
      merged = merged_push shorts body all k a below c.assignment-item.is row is_row old new c.added_rows_are_merged.ensures.more i.merged added;
      few = few_more old.bodies old.guards row new.bodies new.guards added k i.few;
      measured = measured_more old.bodies old.guards row new.bodies new.guards added shorts body (zip body.switches a.values) is_row.made c.args.size with grown i.measured is
          (c.fits.ensures.0 c.if-not-fits.false);
    }
