use Rattle.mv_harts_turns.proofs.Leading.{shows_waits}
use Rattle.mv_harts_turns.proofs.group.Group.wait.Goals as goal

pub returns-clause-shows : goal.returns-clause-shows
returns-clause-shows c = λ image actions bytes hs h. shows_waits image actions bytes c.args.self.now hs h
