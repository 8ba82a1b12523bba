use Rattle.std.proofs.Common.{refl}
use Rattle.mv_harts_turns.proofs.Leading.{shows_committed}
use Rattle.mv_harts_turns.proofs.group.Group.note_commit.Goals as goal

pub returns-clause-shows : goal.returns-clause-shows
returns-clause-shows c = λ image actions bytes hs h. shows_committed image actions bytes c.args.self.now _ _ hs refl c.free.ensures refl refl refl c.in_ok-push.ensures.ok c.in_ok-all.ensures h
