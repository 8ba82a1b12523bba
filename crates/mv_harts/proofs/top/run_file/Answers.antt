use Rattle.std.proofs.Common.{refl, ap}
use Rattle.std.specs.Prelude.{Err}
use Rattle.mv_io.proofs.Common.{count_kept}
use Rattle.mv_harts_words.specs.Asked.{asked}
use Rattle.mv_harts.proofs.Coming.{given, names_of_error, not_loaded}
use Rattle.mv_harts.proofs.top.run_file.Goals as goal

pub returns-in-Ok-clause-comes : goal.returns-in-Ok-clause-comes
returns-in-Ok-clause-comes g c = given _ _ (asked c.args.command.now) c.run_text.result c.in-Ok.text c.as_slice.result.now c.as_slice.ensures.value c.in-Ok.ensures.bytes c.run_text.ensures.comes c.load.ensures.same

pub returns-in-Err-clause-comes : goal.returns-in-Err-clause-comes
returns-in-Err-clause-comes g c =
    not_loaded _ _ (asked c.args.command.now) c.status_of_shelf.result c.in-Err.error c.status_of_shelf.ensures (λ same. c.in-Err.ensures.failed (ap Err same)) (refl, c.load.ensures.same)

pub returns-in-Ok-clause-count : goal.returns-in-Ok-clause-count
returns-in-Ok-clause-count g c = count_kept _ _ _ c.in-Ok.ensures.count

pub returns-in-Err-clause-count : goal.returns-in-Err-clause-count
returns-in-Err-clause-count g c = rw (names_of_error c.in-Err.error c.status_of_shelf.result c.status_of_shelf.ensures) c.in-Err.ensures.count

pub returns-in-Err-clause-writing : goal.returns-in-Err-clause-writing
returns-in-Err-clause-writing g c = count_kept _ _ _ refl
