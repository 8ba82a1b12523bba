use Rattle.mv_image.proofs.RowsFit.{switches_fit, functions_fit, variants_fit, sites_fit, pointers_fit, points_fit, targets_fit}
use Rattle.mv_image.proofs.facts.rows_fit.Goals as goal

pub returns-clause-switches : goal.returns-clause-switches
returns-clause-switches c = switches_fit c.args.image.now c.entry-entry.ensures.rules

pub returns-clause-functions : goal.returns-clause-functions
returns-clause-functions c = functions_fit c.args.image.now c.entry-entry.ensures.rules

pub returns-clause-variants : goal.returns-clause-variants
returns-clause-variants c = variants_fit c.args.image.now c.entry-entry.ensures.rules

pub returns-clause-sites : goal.returns-clause-sites
returns-clause-sites c = sites_fit c.args.image.now c.entry-entry.ensures.rules

pub returns-clause-pointers : goal.returns-clause-pointers
returns-clause-pointers c = pointers_fit c.args.image.now c.entry-entry.ensures.rules

pub returns-clause-points : goal.returns-clause-points
returns-clause-points c = points_fit c.args.image.now c.entry-entry.ensures.rules

pub returns-clause-targets : goal.returns-clause-targets
returns-clause-targets c = targets_fit c.args.image.now c.entry-entry.ensures.rules
