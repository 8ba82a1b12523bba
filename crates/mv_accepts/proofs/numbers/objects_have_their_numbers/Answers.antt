use Rattle.mv_accepts.proofs.OfNumbers.Pointers.{pointers_counted}
use Rattle.mv_accepts.proofs.OfNumbers.Switches.{switches_counted}
use Rattle.mv_accepts.proofs.numbers.objects_have_their_numbers.Goals as goal

pub returns-clause-switches : goal.returns-clause-switches
returns-clause-switches c items d pointers main q =
    switches_counted items c.good_bodies_are_typed.ensures.grows c.good_parameters_fit.ensures d pointers main q

pub returns-clause-pointers : goal.returns-clause-pointers
returns-clause-pointers c items d q = pointers_counted items c.good_bodies_are_typed.ensures.grows c.good_parameters_fit.ensures d q
