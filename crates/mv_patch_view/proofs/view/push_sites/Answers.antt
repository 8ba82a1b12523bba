use Rattle.mv_patch_view.proofs.Turns.{sites_more, turned}
use Rattle.mv_patch_view.proofs.view.push_sites.Goals as goal

pub loop-number-preserved : goal.loop-number-preserved
loop-number-preserved c =
    turned _ _ _ _ _ _ c.in_ok-push_called.ensures (sites_more c.args.image.now _ c.loop-number.number c.site_at-site.result c.site_at-site.ensures.there) c.loop-number.invariant
