use Rattle.mv_image.proofs.Upgraded.{upgraded_fits}
use Rattle.mv_image.proofs.copying.upgrade.Goals as goal

pub with_version-requires : goal.with_version-requires
with_version-requires c = upgraded_fits c.args.image.now c.fits_format.ensures
