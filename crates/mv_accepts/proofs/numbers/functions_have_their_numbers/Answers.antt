use Rattle.mv_accepts.proofs.OfNumbers.Attributed.{attributed_counted}
use Rattle.mv_accepts.proofs.OfNumbers.Functions.{functions_defined, items_known}
use Rattle.mv_accepts.proofs.numbers.functions_have_their_numbers.Goals as goal

pub returns-clause-defined : goal.returns-clause-defined
returns-clause-defined c items d q = functions_defined items d q

pub returns-clause-attributed : goal.returns-clause-attributed
returns-clause-attributed c items d pointers main q = attributed_counted items d pointers main q

pub returns-clause-known : goal.returns-clause-known
returns-clause-known c items = items_known items
