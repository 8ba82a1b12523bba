use Rattle.std.proofs.Common.{◌∙◌, ap}
use Rattle.mv_check_outline.specs.Names.{with_names}
use Rattle.mv_check_outline.specs.Outlined.{names_in}
use Rattle.mv_check_outline.proofs.OneMore.{next_named}
use Rattle.mv_check_outline.proofs.outline.all_names.Goals as goal

pub loop-item-preserved : goal.loop-item-preserved
loop-item-preserved c =
    c.in_ok-add_names.ensures ∙
    (ap (λ ns. with_names ns (names_in c.args.wanted c.item-item.result)) c.loop-item.invariant ∙
    next_named c.args.wanted c.args.items.now c.loop-item.item-index c.item-item.result c.loop-item-test.true c.item-item.is)
