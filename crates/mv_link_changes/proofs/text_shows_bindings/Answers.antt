use Rattle.mv_link_changes.proofs.Changed.{text_shows, free_unchanged}
use Rattle.mv_link_changes.proofs.text_shows_bindings.Goals as goal

pub returns-clause-bound : goal.returns-clause-bound
returns-clause-bound c = text_shows

pub returns-clause-free : goal.returns-clause-free
returns-clause-free c = free_unchanged
