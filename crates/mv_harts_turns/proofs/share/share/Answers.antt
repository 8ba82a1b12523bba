use Rattle.std.proofs.Common.{Option, option_map, length, sym, refl, subst, arith}
use Rattle.std.proofs.lemmas.Option.{slice_get_read}
use Rattle.mv_harts_one.specs.declared.store.Store.{Store}
use Rattle.mv_harts_one.specs.Seats.{store_as}
use Rattle.mv_harts_turns.specs.Groups.{Shared}
use Rattle.mv_harts_turns.proofs.Changing.{TakesFrom, changed_more, shared_all, shared_nothing}
use Rattle.mv_harts_turns.proofs.share.share.Goals as goal

pub loop-place-preserved : goal.loop-place-preserved
loop-place-preserved c =
    let others = c.loop-place.others in
    let seat = c.index_mut.result.now in
    record {
      count = c.loop-place.invariant.count;
      changed = changed_more (TakesFrom (option_map store_as c.args.store) c.args.from) c.loop-place.place c.args.others.now.items others.items seat c.take_store.new.self
          (slice_get_read others.items (length others.items) c.loop-place.place seat refl (omega (arith, others.ok.0, c.loop-place.invariant.count, c.len-place-end.ensures, c.loop-place-test.true)) c.index_mut.ensures.value) (
            λ e. absurd (c.if-place-from.false (omega (arith, e))),
            λ ne. record {
              sits = c.in_ok-take_store.ensures.sits;
              image = c.in_ok-take_store.ensures.image;
              taken = c.in_ok-take_store.ensures.taken;
              stop = c.in_ok-take_store.ensures.stop;
            },
          )
          c.loop-place.invariant.changed;
    }

pub returns : goal.returns
returns c =
    shared_all (option_map store_as c.args.store) c.args.from c.loop-place.place c.args.others.now.items c.loop-place.others.items
    (omega (arith, c.args.others.now.ok.0, c.len-place-end.ensures, c.loop-place-test.false)) c.loop-place.invariant.changed

pub returns-in_default : goal.returns-in_default
returns-in_default c =
    let seats = c.args.others.now.items in
    subst (λ (st : Option Store). Shared (option_map store_as st) c.args.from seats seats) (sym c.in_default.is) (shared_nothing c.args.from seats)
