use Rattle.mv_image.proofs.Limits.{is_within}
use Rattle.mv_image.proofs.facts.within_limits.Goals as goal

pub returns-clause-some_text : goal.returns-clause-some_text
returns-clause-some_text c = (is_within c.args.image.now c.entry-entry.ensures.rules).some_text

pub returns-clause-text : goal.returns-clause-text
returns-clause-text c = (is_within c.args.image.now c.entry-entry.ensures.rules).text

pub returns-clause-globals : goal.returns-clause-globals
returns-clause-globals c = (is_within c.args.image.now c.entry-entry.ensures.rules).globals

pub returns-clause-switches : goal.returns-clause-switches
returns-clause-switches c = (is_within c.args.image.now c.entry-entry.ensures.rules).switches

pub returns-clause-functions : goal.returns-clause-functions
returns-clause-functions c = (is_within c.args.image.now c.entry-entry.ensures.rules).functions

pub returns-clause-variants : goal.returns-clause-variants
returns-clause-variants c = (is_within c.args.image.now c.entry-entry.ensures.rules).variants

pub returns-clause-guards : goal.returns-clause-guards
returns-clause-guards c = (is_within c.args.image.now c.entry-entry.ensures.rules).guards

pub returns-clause-sites : goal.returns-clause-sites
returns-clause-sites c = (is_within c.args.image.now c.entry-entry.ensures.rules).sites

pub returns-clause-entry_aligned : goal.returns-clause-entry_aligned
returns-clause-entry_aligned c = (is_within c.args.image.now c.entry-entry.ensures.rules).entry.aligned

pub returns-clause-entry_not_before : goal.returns-clause-entry_not_before
returns-clause-entry_not_before c = (is_within c.args.image.now c.entry-entry.ensures.rules).entry.not_before

pub returns-clause-entry_within : goal.returns-clause-entry_within
returns-clause-entry_within c = (is_within c.args.image.now c.entry-entry.ensures.rules).entry.within

pub returns-clause-pointers : goal.returns-clause-pointers
returns-clause-pointers c = (is_within c.args.image.now c.entry-entry.ensures.rules).pointers

pub returns-clause-points : goal.returns-clause-points
returns-clause-points c = (is_within c.args.image.now c.entry-entry.ensures.rules).points

pub returns-clause-places : goal.returns-clause-places
returns-clause-places c = (is_within c.args.image.now c.entry-entry.ensures.rules).places

pub returns-clause-targets : goal.returns-clause-targets
returns-clause-targets c = (is_within c.args.image.now c.entry-entry.ensures.rules).targets
