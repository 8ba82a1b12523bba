use Rattle.std.proofs.Common.{length, refl, arith}
use Rattle.std.proofs.lemmas.Option.{slice_get_read}
use Rattle.mv_harts_turns.specs.Groups.{IsFreed}
use Rattle.mv_harts_turns.proofs.Changing.{changed_more, changed_all}
use Rattle.mv_harts_turns.proofs.share.free.Goals as goal

pub loop-place-preserved : goal.loop-place-preserved
loop-place-preserved c =
    let others = c.loop-place.others in
    let seat = c.index_mut.result.now in
    record {
      count = c.loop-place.invariant.count;
      changed = changed_more (λ n. IsFreed) c.loop-place.place c.args.others.now.items others.items seat c.free_one.new.seat
          (slice_get_read others.items (length others.items) c.loop-place.place seat refl (omega (arith, others.ok.0, c.loop-place.invariant.count, c.len-place-end.ensures, c.loop-place-test.true)) c.index_mut.ensures.value)
          c.free_one.ensures c.loop-place.invariant.changed;
    }

pub returns : goal.returns
returns c = changed_all (λ n. IsFreed) c.loop-place.place c.args.others.now.items c.loop-place.others.items (omega (arith, c.args.others.now.ok.0, c.len-place-end.ensures, c.loop-place-test.false)) c.loop-place.invariant.changed
