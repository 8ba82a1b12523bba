use Rattle.mv_tidy.proofs.Walked.{loop_turned}
use Rattle.mv_tidy.proofs.walk.turn_in.Goals as goal

pub returns : goal.returns
returns c =
    loop_turned c.args.liveness.now c.save.new.self c.live_loop.new.liveness c.enter.new.self c.forget.new.self c.args.code.now c.in_ok-save.ensures.ok
    c.in_ok-live_loop.ensures c.in_ok-enter.ensures.ok c.forget.ensures
