use Rattle.mv_image.proofs.RulesAreTables.{fits_format}
use Rattle.mv_image.proofs.facts.fits_format.Goals as goal

pub returns : goal.returns
returns c = fits_format c.args.image.now c.entry-entry.ensures.rules
