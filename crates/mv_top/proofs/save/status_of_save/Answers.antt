use Rattle.mv_top.proofs.Counting.{names_of_error}
use Rattle.mv_top.proofs.save.status_of_save.Goals as goal

pub returns-in-Err-clause-names : goal.returns-in-Err-clause-names
returns-in-Err-clause-names c = rw c.in-Err.is (names_of_error c.in-Err.error c.status_of_shelf.result c.status_of_shelf.ensures)
