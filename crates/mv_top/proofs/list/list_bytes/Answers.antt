use Rattle.std.proofs.Common.{refl}
use Rattle.mv_io.proofs.Common.{count_kept}
use Rattle.mv_top.proofs.Images.{not_listed}
use Rattle.mv_top.proofs.list.list_bytes.Goals as goal

pub returns-in-Ok-clause-does : goal.returns-in-Ok-clause-does
returns-in-Ok-clause-does g c input way = c.list_image.ensures.does c.args.bytes.now input way c.in-Ok.ensures.ok

pub returns-in-Err-clause-does : goal.returns-in-Err-clause-does
returns-in-Err-clause-does g c input way =
    not_listed _ _ _ c.args.bytes.now c.status_of_load.result c.in-Err.error c.status_of_load.ensures c.in-Err.ensures.err refl

pub returns-in-Err-clause-writing : goal.returns-in-Err-clause-writing
returns-in-Err-clause-writing g c = count_kept _ _ _ refl
