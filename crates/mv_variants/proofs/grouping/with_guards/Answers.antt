use Rattle.std.proofs.Common.{◌≡◌, ◌∙◌, ap, length}
use Rattle.mv_variants.specs.Bound.Rows.{rows_of}
use Rattle.mv_variants.proofs.Grouped.{group_push}
use Rattle.mv_variants.proofs.grouping.with_guards.Goals as goal

pub loop-body-preserved : goal.loop-body-preserved
loop-body-preserved c =
    let old = c.loop-body.variants in
    let rows = c.in_ok-rows.rows in
    let led : rows ≡ rows_of c.args.guards.now (length old) = c.in_ok-rows.ensures ∙ ap (rows_of c.args.guards.now) c.len.ensures in
    group_push c.args.guards.now c.loop-body.yielded old c.push.new.self c.in-Some.body rows c.loop-body.invariant led c.in_ok-push.ensures.ok
