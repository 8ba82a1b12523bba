use Rattle.mv_variants.proofs.OfBound.NamesKept.{binding_names, carrying_names, folding_names}
use Rattle.mv_variants.proofs.bound.passes_name_no_more.Goals as goal

pub returns-clause-bind : goal.returns-clause-bind
returns-clause-bind c = binding_names

pub returns-clause-carry : goal.returns-clause-carry
returns-clause-carry c = carrying_names

pub returns-clause-fold : goal.returns-clause-fold
returns-clause-fold c = folding_names
