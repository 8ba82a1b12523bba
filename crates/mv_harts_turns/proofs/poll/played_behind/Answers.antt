use Rattle.mv_harts_turns.proofs.Leading.{played_more, played_other}
use Rattle.mv_harts_turns.proofs.poll.played_behind.Goals as goal

pub returns-in_default : goal.returns-in_default
returns-in_default c = played_other c.args.place c.args.actions.now c.args.played c.in_default.not-AtPoll

pub returns-then-played-actions : goal.returns-then-played-actions
returns-then-played-actions c = played_more c.args.place c.args.actions.now c.args.played c.in-AtPoll.is
