use Rattle.std.proofs.Common.{sym, subst}
use Rattle.mv_image.specs.Versions.{versioned}
use Rattle.mv_image.specs.Format.{FitsFormat}
use Rattle.mv_image.proofs.image.Image.copied.Goals as goal

pub with_version-requires : goal.with_version-requires
with_version-requires c = subst (λ v. FitsFormat (versioned v c.args.self.now)) (sym c.version.ensures) c.fits_format.ensures
