use Rattle.mv_meaning_numbering.proofs.Lawful.{two_numberings, any_numbering, no_strays, own_numbering}
use Rattle.mv_meaning_numbering.proofs.law.numbering_law.Goals as goal

pub returns-clause-two : goal.returns-clause-two
returns-clause-two c = two_numberings

pub returns-clause-any : goal.returns-clause-any
returns-clause-any c = any_numbering

pub returns-clause-strays : goal.returns-clause-strays
returns-clause-strays c = no_strays

pub returns-clause-own : goal.returns-clause-own
returns-clause-own c = own_numbering
