use Rattle.std.proofs.Common.{refl, subst, sym}
use Rattle.mv_io.proofs.Common.{count_kept}
use Rattle.mv_top.specs.Makers.{IsMade}
use Rattle.mv_top.specs.Saving.{unmade}
use Rattle.mv_top.proofs.Saves.{saved}
use Rattle.mv_top.proofs.save.save_made.Goals as goal

pub returns-in-Ok-clause-does : goal.returns-in-Ok-clause-does
returns-in-Ok-clause-does g c e =
    saved _ _ c.args.name.now _ _ c.status_of_save.result c.as_slice.result.now c.save.result c.status_of_save.ensures.status
    (subst (λ b. IsMade c.args.maker c.args.bytes.now b) (sym c.as_slice.ensures.value) c.in-Ok.ensures) c.save.ensures.bytes c.save.ensures.failed

pub returns-in-Err-clause-does : goal.returns-in-Err-clause-does
returns-in-Err-clause-does g c e = unmade c.in-Err.status c.in-Err.ensures refl

pub returns-in-Ok-clause-count : goal.returns-in-Ok-clause-count
returns-in-Ok-clause-count g c = rw c.status_of_save.ensures.names c.save.ensures.count

pub returns-in-Err-clause-count : goal.returns-in-Err-clause-count
returns-in-Err-clause-count g c = count_kept _ _ _ refl
