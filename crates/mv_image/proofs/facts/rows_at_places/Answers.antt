use Rattle.mv_image.proofs.RowsStand.{counts_of, switch_is, function_is, variant_is, guard_is, site_is, pointer_is, point_is, target_is, text_is, globals_are, image_fits}
use Rattle.mv_image.proofs.facts.rows_at_places.Goals as goal

pub returns-clause-fit : goal.returns-clause-fit
returns-clause-fit c = image_fits c.args.image.now c.entry-entry.ensures.rules

pub returns-clause-counts : goal.returns-clause-counts
returns-clause-counts c = counts_of c.args.image.now c.entry-entry.ensures.rules

pub returns-clause-text : goal.returns-clause-text
returns-clause-text c = text_is c.args.image.now c.entry-entry.ensures.rules

pub returns-clause-globals : goal.returns-clause-globals
returns-clause-globals c = globals_are c.args.image.now c.entry-entry.ensures.rules

pub returns-clause-switches : goal.returns-clause-switches
returns-clause-switches c = switch_is c.args.image.now c.entry-entry.ensures.rules

pub returns-clause-functions : goal.returns-clause-functions
returns-clause-functions c = function_is c.args.image.now c.entry-entry.ensures.rules

pub returns-clause-variants : goal.returns-clause-variants
returns-clause-variants c = variant_is c.args.image.now c.entry-entry.ensures.rules

pub returns-clause-guards : goal.returns-clause-guards
returns-clause-guards c = guard_is c.args.image.now c.entry-entry.ensures.rules

pub returns-clause-sites : goal.returns-clause-sites
returns-clause-sites c = site_is c.args.image.now c.entry-entry.ensures.rules

pub returns-clause-pointers : goal.returns-clause-pointers
returns-clause-pointers c = pointer_is c.args.image.now c.entry-entry.ensures.rules

pub returns-clause-points : goal.returns-clause-points
returns-clause-points c = point_is c.args.image.now c.entry-entry.ensures.rules

pub returns-clause-targets : goal.returns-clause-targets
returns-clause-targets c = target_is c.args.image.now c.entry-entry.ensures.rules
