use Rattle.std.proofs.Common.{◌∙◌}
use Rattle.mv_eval.proofs.Pieces.{grew_more, still_within}
use Rattle.mv_eval.proofs.writing.write_all.Goals as goal

pub loop-done-preserved : goal.loop-done-preserved
loop-done-preserved g c =
    let i = c.loop-done.invariant in
    record {
      within = still_within c.args.bytes.now c.loop-done.done c.in_ok-done.field-0 i.within c.in_ok-done.ensures.count.1;
      grew = grew_more c.args.bytes.now c.loop-done.done c.in_ok-done.field-0 (g.S.Sink.written c.args.sink.now) (g.S.Sink.written c.loop-done.sink) (g.S.Sink.written c.write.new.self) i.grew c.in_ok-done.ensures.bytes;
      stands = c.in_ok-done.ensures.cause.count ∙ i.stands;
    }
