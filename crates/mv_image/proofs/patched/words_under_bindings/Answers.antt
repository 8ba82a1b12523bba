use Rattle.mv_image.proofs.PatchLaws.{entry_word, site_word_is, through_word, next_word_is}
use Rattle.mv_image.proofs.patched.words_under_bindings.Goals as goal

pub returns-clause-entry : goal.returns-clause-entry
returns-clause-entry c = entry_word c.args.image.now c.entry-entry.ensures.rules

pub returns-clause-site : goal.returns-clause-site
returns-clause-site c = site_word_is c.args.image.now c.entry-entry.ensures.rules

pub returns-clause-next : goal.returns-clause-next
returns-clause-next c = next_word_is c.args.image.now c.entry-entry.ensures.rules

pub returns-clause-through : goal.returns-clause-through
returns-clause-through c = through_word c.args.image.now c.entry-entry.ensures.rules
