use Rattle.std.proofs.Common.{◌∙◌, ap}
use Rattle.mv_check_outline.specs.Names.{with_names}
use Rattle.mv_types.specs.Foreknown.{names_in}
use Rattle.mv_types.proofs.OneMore.{next_named}
use Rattle.mv_types.proofs.foreknown.all_names.Goals as goal

pub loop-item-preserved : goal.loop-item-preserved
loop-item-preserved c =
    c.in_ok-add_names.ensures ∙
    (ap (λ ns. with_names ns (names_in c.args.said c.item-item.result)) c.loop-item.invariant ∙
    next_named c.args.said c.args.items.now c.loop-item.item-index c.item-item.result c.loop-item-test.true c.item-item.is)
