use Rattle.std.proofs.Common.{sym, ◌∙◌}
use Rattle.mv_harts_one.proofs.Sitting.{fetches_some, place_is, told_is}
use Rattle.mv_harts_one.proofs.seat.Seat.glance.Goals as goal

pub returns-in-None-clause-place : goal.returns-in-None-clause-place
returns-in-None-clause-place c = λ number bytes o sits one. absurd (fetches_some number c.args.self.now bytes o sits one (sym c.in-None.is ∙ c.only_choice.ensures))

pub returns-in-None-clause-store : goal.returns-in-None-clause-store
returns-in-None-clause-store c = λ number bytes o sits one. absurd (fetches_some number c.args.self.now bytes o sits one (sym c.in-None.is ∙ c.only_choice.ensures))

pub returns-in-Some-clause-place : goal.returns-in-Some-clause-place
returns-in-Some-clause-place c = λ number bytes o sits one. place_is number c.args.self.now bytes o sits c.in-Some.word (sym c.in-Some.is ∙ c.only_choice.ensures) _ c.place_at.ensures

pub returns-in-Some-clause-store : goal.returns-in-Some-clause-store
returns-in-Some-clause-store c = λ number bytes o sits one. told_is number c.args.self.now bytes o sits c.in-Some.word (sym c.in-Some.is ∙ c.only_choice.ensures) _ c.store_at.ensures
