use Rattle.mv_regalloc.specs.declared.liveness.Row.TheVariants.{Saved}
use Rattle.mv_regalloc.specs.Shared.{row_of}
use Rattle.mv_tidy.specs.Walking.{IsGone}
use Rattle.mv_tidy.proofs.ChoosingWalked.{put_stands}
use Rattle.mv_tidy.proofs.choices.put.Goals as goal

pub returns-in_ok-push-in_default : goal.returns-in_ok-push-in_default
returns-in_ok-push-in_default c =
    put_stands (IsGone c.args.temps (row_of c.args.liveness.now (Saved 0))) c.args.kept c.push.new.self c.args.stm
    c.in_ok-push-in_default.ensures.ok
