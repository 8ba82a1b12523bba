use Rattle.mv_lower_spec.proofs.OfShape.Bodies.{lowered_shallow}
use Rattle.mv_lower_spec.proofs.OfShape.OfPrograms.{whole, well_formed, often, reads, small}
use Rattle.mv_lower_spec.proofs.shape.lowered_forms_are_right.Goals as goal

pub returns-clause-shallow : goal.returns-clause-shallow
returns-clause-shallow c = lowered_shallow

pub returns-clause-whole : goal.returns-clause-whole
returns-clause-whole c = λ p f g h. whole p f g h

pub returns-clause-well_formed : goal.returns-clause-well_formed
returns-clause-well_formed c = λ p f g h. well_formed p f g h

pub returns-clause-calls : goal.returns-clause-calls
returns-clause-calls c = λ p f g h. often p f g h

pub returns-clause-reads : goal.returns-clause-reads
returns-clause-reads c = λ p f g h. reads p f g h

pub returns-clause-small : goal.returns-clause-small
returns-clause-small c = λ p f g h. small p f g h
