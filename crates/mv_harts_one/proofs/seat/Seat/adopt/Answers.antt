use Rattle.std.proofs.Common.{subst}
use Rattle.mv_harts_one.proofs.Sitting.{IsAdopted, adopts_sits}
use Rattle.mv_harts_one.proofs.seat.Seat.adopt.Goals as goal

pub returns-clause-adopts : goal.returns-clause-adopts
returns-clause-adopts c = adopts_sits c.args.self.now c.adopt.new.engine c.args.bindings.now c.requires.on c.adopt.ensures.number (subst (λ bs. IsAdopted c.args.self.now c.adopt.new.engine bs) c.as_slice.ensures c.adopt.ensures.adopts)
