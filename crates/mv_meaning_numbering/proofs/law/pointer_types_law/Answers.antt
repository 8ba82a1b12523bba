use Rattle.mv_meaning_numbering.proofs.Lawful.{typed_pointers}
use Rattle.mv_meaning_numbering.proofs.law.pointer_types_law.Goals as goal

pub returns : goal.returns
returns c = typed_pointers
