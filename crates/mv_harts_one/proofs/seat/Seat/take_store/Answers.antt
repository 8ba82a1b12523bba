use Rattle.std.proofs.Common.{refl, sym, ◌∙◌}
use Rattle.std.proofs.lemmas.Result.{on_ok_weaker}
use Rattle.mv_harts_one.proofs.Sitting.{takes_none, takes_outside, takes_inside}
use Rattle.mv_harts_one.proofs.seat.Seat.take_store.Goals as goal

pub returns-in_default-clause-sits : goal.returns-in_default-clause-sits
returns-in_default-clause-sits c = λ number bytes o sits. takes_none number c.args.self.now bytes o sits c.args.store c.in_default.is

pub returns-then-not-lies_in_text-clause-sits : goal.returns-then-not-lies_in_text-clause-sits
returns-then-not-lies_in_text-clause-sits c = λ number bytes o sits. takes_outside number c.args.self.now bytes o sits c.args.store c.in-Some.store c.in-Some.is (sym c.lies_in_text.ensures ∙ c.if-not-lies_in_text.true)

pub returns-clause-sits : goal.returns-clause-sits
returns-clause-sits c =
    on_ok_weaker c.put.result
    (λ put. λ number bytes o sits.
    takes_inside number c.args.self.now bytes o sits c.args.store _ c.in-Some.store c.in-Some.is (sym c.lies_in_text.ensures ∙ c.if-not-lies_in_text.false)
    (sym (c.is_on.ensures number bytes o sits) ∙ c.if-not-is_on.false) put refl (λ output log. refl) refl refl refl refl)
    c.put.ensures
