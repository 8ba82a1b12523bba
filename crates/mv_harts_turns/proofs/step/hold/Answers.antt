use Rattle.mv_harts_turns.proofs.Holding.{seat_held}
use Rattle.mv_harts_turns.proofs.step.hold.Goals as goal

pub returns-clause-holds : goal.returns-clause-holds
returns-clause-holds c = λ image commits number bytes o h. seat_held image commits number bytes c.args.seat.now o c.args.mode h
