use Rattle.mv_refine_machine.proofs.OfCommits.Orders as lemmas
use Rattle.mv_refine_machine.proofs.commits.laws.tabled_orders_are_served.Goals as goal

pub returns : goal.returns
returns c = lemmas.tabled_orders_are_served c.laws_below.ensures
