use Rattle.mv_lower_names.proofs.Lowered.{functions_there, orders_there, only_direct, nothing_marked, words_there}
use Rattle.mv_lower_names.proofs.Pointers.{pointers_there}
use Rattle.mv_lower_names.proofs.lowered_names_are_there.Goals as goal

pub returns-clause-functions : goal.returns-clause-functions
returns-clause-functions c = functions_there

pub returns-clause-pointers : goal.returns-clause-pointers
returns-clause-pointers c = pointers_there

pub returns-clause-orders : goal.returns-clause-orders
returns-clause-orders c = orders_there

pub returns-clause-direct : goal.returns-clause-direct
returns-clause-direct c = only_direct

pub returns-clause-marked : goal.returns-clause-marked
returns-clause-marked c = nothing_marked

pub returns-clause-words : goal.returns-clause-words
returns-clause-words c = words_there
