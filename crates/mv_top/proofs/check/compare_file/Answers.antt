use Rattle.std.proofs.Common.{ap}
use Rattle.std.specs.Prelude.{Err}
use Rattle.mv_io.proofs.Common.{count_kept}
use Rattle.mv_top.proofs.Counting.{names_of_error}
use Rattle.mv_top.proofs.Loading.{given, not_loaded}
use Rattle.mv_top.proofs.check.compare_file.Goals as goal

pub returns-in-Ok-clause-does : goal.returns-in-Ok-clause-does
returns-in-Ok-clause-does g c e =
    given _ _ _ c.args.name.now _ c.compare.result c.in-Ok.bytes c.as_slice.result.now c.as_slice.ensures.value c.in-Ok.ensures.bytes c.compare.ensures

pub returns-in-Err-clause-does : goal.returns-in-Err-clause-does
returns-in-Err-clause-does g c e =
    not_loaded _ _ _ c.args.name.now _ c.status_of_shelf.result c.in-Err.error c.status_of_shelf.ensures (λ same. c.in-Err.ensures.failed (ap Err same)) tt

pub returns-in-Ok-clause-count : goal.returns-in-Ok-clause-count
returns-in-Ok-clause-count g c = count_kept _ _ _ c.in-Ok.ensures.count

pub returns-in-Err-clause-count : goal.returns-in-Err-clause-count
returns-in-Err-clause-count g c = rw (names_of_error c.in-Err.error c.status_of_shelf.result c.status_of_shelf.ensures) c.in-Err.ensures.count
