use Rattle.mv_image.proofs.Apart.{entries_ascend, sites_apart, entry_outside, points_apart, entry_outside_point, site_beside_point}
use Rattle.mv_image.proofs.patched.entries_and_sites.Goals as goal

pub returns-clause-ascend : goal.returns-clause-ascend
returns-clause-ascend c = entries_ascend c.args.image.now c.entry-entry.ensures.rules

pub returns-clause-apart : goal.returns-clause-apart
returns-clause-apart c = sites_apart c.args.image.now c.entry-entry.ensures.rules

pub returns-clause-outside : goal.returns-clause-outside
returns-clause-outside c = entry_outside c.args.image.now c.entry-entry.ensures.rules

pub returns-clause-points : goal.returns-clause-points
returns-clause-points c = points_apart c.args.image.now c.entry-entry.ensures.rules

pub returns-clause-outside_points : goal.returns-clause-outside_points
returns-clause-outside_points c = entry_outside_point c.args.image.now c.entry-entry.ensures.rules

pub returns-clause-beside_points : goal.returns-clause-beside_points
returns-clause-beside_points c = site_beside_point c.args.image.now c.entry-entry.ensures.rules
