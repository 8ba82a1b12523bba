use Rattle.std.proofs.Common.{refl, ap, ◌∙◌}
use Rattle.std.specs.Prelude.{Err}
use Rattle.mv_io.proofs.Common.{count_since}
use Rattle.mv_top.specs.Checking.{text_alone}
use Rattle.mv_top.proofs.Checks.{asked_behind, checked_behind}
use Rattle.mv_top.proofs.Counting.{names_of_error}
use Rattle.mv_top.proofs.Loading.{given, not_loaded}
use Rattle.mv_top.proofs.check.check_file.Goals as goal

pub returns-in-Ok-clause-does : goal.returns-in-Ok-clause-does
returns-in-Ok-clause-does g c e =
    given _ _ _ c.args.file.now _ c.check_text.result c.in-Ok.text c.as_slice.result.now c.as_slice.ensures.value c.in-Ok.ensures.bytes
    (checked_behind _ _ _ e c.args.image.now _ _ _ _ _ _ _ c.check_text.result c.load.ensures.same c.load.ensures.later (c.check_text.ensures.does e), refl)

pub returns-in-Err-clause-does : goal.returns-in-Err-clause-does
returns-in-Err-clause-does g c e =
    not_loaded _ _ _ c.args.file.now _ c.status_of_shelf.result c.in-Err.error c.status_of_shelf.ensures (λ same. c.in-Err.ensures.failed (ap Err same)) (refl, c.load.ensures.same)

pub returns-in-Ok-clause-files : goal.returns-in-Ok-clause-files
returns-in-Ok-clause-files g c = c.check_text.ensures.files ∙ c.load.ensures.same

pub returns-in-Ok-clause-asks : goal.returns-in-Ok-clause-asks
returns-in-Ok-clause-asks g c e =
    asked_behind _ _ c.args.file.now c.args.image.now c.in-Ok.text c.as_slice.result.now c.as_slice.ensures.value c.in-Ok.ensures.bytes _ c.load.ensures.asks c.check_text.ensures.asks

pub returns-in-Err-clause-asks : goal.returns-in-Err-clause-asks
returns-in-Err-clause-asks g c e = text_alone c.load.ensures.asks

pub returns-in-Ok-clause-count : goal.returns-in-Ok-clause-count
returns-in-Ok-clause-count g c = count_since _ _ _ _ c.in-Ok.ensures.count c.check_text.ensures.count

pub returns-in-Err-clause-count : goal.returns-in-Err-clause-count
returns-in-Err-clause-count g c = rw (names_of_error c.in-Err.error c.status_of_shelf.result c.status_of_shelf.ensures) c.in-Err.ensures.count
