use Rattle.std.proofs.Common.{[]}
use Rattle.mv_harts_one.proofs.Executing.{asked_once}
use Rattle.mv_harts_one.proofs.Skipping.{has_skipped}
use Rattle.mv_harts_one.proofs.seat.Seat.skip.Goals as goal

pub returns-clause-skips : goal.returns-clause-skips
returns-clause-skips g c = λ number bytes o was written sits one polls.
    has_skipped number c.args.self.now bytes o was sits c.requires.on one polls c.refuse.new.engine c.refuse.ensures.number (c.refuse.ensures.does []) written

pub returns-clause-asks : goal.returns-clause-asks
returns-clause-asks g c = asked_once _ _ c.picked-pick.result c.picked-pick.ensures
