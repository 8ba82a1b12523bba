use Rattle.std.proofs.Common.{◌≡◌, ◌+◌, suc, false, Some, None, length, slice_get, option_map, set, subst, refl, arith}
use Rattle.std.proofs.lemmas.Option.{slice_get_read}
use Rattle.mv_num.proofs.Lists.{set_there}
use Rattle.mv_harts_one.specs.Seats.{store_as}
use Rattle.mv_harts_turns.specs.Groups.{IsSeat, Shared}
use Rattle.mv_harts_turns.proofs.Places.{both_at}
use Rattle.mv_harts_turns.proofs.Reaching.{turned_err}
use Rattle.mv_harts_turns.proofs.Following.{on_ok, on_step_refused, on_store_refused}
use Rattle.mv_harts_turns.proofs.group.Group.run_on.Goals as goal
use Rattle.mv_harts_runs.proofs.Lists.{set_other}

pub step-requires-clause-on : goal.step-requires-clause-on
step-requires-clause-on g c =
    let items = c.args.self.now.others.items in
    c.requires.on c.index_mut.result.now (slice_get_read items (length items) c.args.place c.index_mut.result.now refl (omega (arith, c.args.self.now.others.ok.0, c.requires.there)) c.index_mut.ensures.value)

pub step-requires-clause-few : goal.step-requires-clause-few
step-requires-clause-few g c =
    let items = c.args.self.now.others.items in
    (c.requires.ready.others c.args.place c.index_mut.result.now (slice_get_read items (length items) c.args.place c.index_mut.result.now refl (omega (arith, c.args.self.now.others.ok.0, c.requires.there)) c.index_mut.ensures.value)).0

pub returns-in_err-step-clause-goes : goal.returns-in_err-step-clause-goes
returns-in_err-step-clause-goes g c = λ image actions bytes hs o shown there glance left.
    let s = c.args.self.now in
    let n = c.args.place in
    let items = s.others.items in
    let old = c.index_mut.result.now in
    let at : slice_get items n ≡ Some old = slice_get_read items (length items) n old refl (omega (arith, s.others.ok.0, c.requires.there)) c.index_mut.ensures.value in
    let is = both_at (IsSeat image hs.commits (suc n) (bytes (suc n))) (slice_get items n) (slice_get hs.others n) old o at there (shown.others n) in
    turned_err image actions (suc n) bytes _ _ _ hs _ _ c.from_residual.result _ c.from_residual.ensures.1 false (λ e. absurd (cc))
    (on_step_refused image actions bytes _ s s hs n o c.args.glance shown there glance (c.in_err-step.ensures.steps image hs.commits (suc n) (bytes (suc n)) o None is glance left refl))

pub returns-in_err-take_store-clause-goes : goal.returns-in_err-take_store-clause-goes
returns-in_err-take_store-clause-goes g c = λ image actions bytes hs o shown there glance left.
    let s = c.args.self.now in
    let n = c.args.place in
    let items = s.others.items in
    let old = c.index_mut.result.now in
    let at : slice_get items n ≡ Some old = slice_get_read items (length items) n old refl (omega (arith, s.others.ok.0, c.requires.there)) c.index_mut.ensures.value in
    let is = both_at (IsSeat image hs.commits (suc n) (bytes (suc n))) (slice_get items n) (slice_get hs.others n) old o at there (shown.others n) in
    let r = on_store_refused image actions bytes _ s s hs n o c.args.glance shown there glance _ _ c.requires.on (c.in_ok-step.ensures.steps image hs.commits (suc n) (bytes (suc n)) o None is glance left refl) in
    turned_err image actions (suc n) bytes _ _ _ hs _ _ c.from_residual-in_err-take_store.result _ c.from_residual-in_err-take_store.ensures.1 r.0 r.1 r.2

pub returns-in_err-share-clause-goes : goal.returns-in_err-share-clause-goes
returns-in_err-share-clause-goes g c = λ image actions bytes hs o shown there glance left.
    let s = c.args.self.now in
    let n = c.args.place in
    let items = s.others.items in
    let old = c.index_mut.result.now in
    let at : slice_get items n ≡ Some old = slice_get_read items (length items) n old refl (omega (arith, s.others.ok.0, c.requires.there)) c.index_mut.ensures.value in
    let is = both_at (IsSeat image hs.commits (suc n) (bytes (suc n))) (slice_get items n) (slice_get hs.others n) old o at there (shown.others n) in
    let r = on_store_refused image actions bytes _ s s hs n o c.args.glance shown there glance _ _ c.requires.on (c.in_ok-step.ensures.steps image hs.commits (suc n) (bytes (suc n)) o None is glance left refl) in
    turned_err image actions (suc n) bytes _ _ _ hs _ _ c.from_residual-in_err-share.result _ c.from_residual-in_err-share.ensures.1 r.0 r.1 r.2

pub returns-clause-goes : goal.returns-clause-goes
returns-clause-goes g c = λ image actions bytes hs o shown there glance left.
    let s = c.args.self.now in
    let n = c.args.place in
    let items = s.others.items in
    let old = c.index_mut.result.now in
    let new = c.step.new.seat in
    let at : slice_get items n ≡ Some old = slice_get_read items (length items) n old refl (omega (arith, s.others.ok.0, c.requires.there)) c.index_mut.ensures.value in
    let is = both_at (IsSeat image hs.commits (suc n) (bytes (suc n))) (slice_get items n) (slice_get hs.others n) old o at there (shown.others n) in
    let one : n + 1 ≡ suc n = omega arith in
    let stores = c.in_ok-take_store.ensures in
    on_ok image actions bytes _ s _ hs n o c.args.glance shown there glance (set items n new) new _ c.requires.on (c.in_ok-step.ensures.steps image hs.commits (suc n) (bytes (suc n)) o None is glance left refl)
    (record { sits = stores.sits; image = stores.image; taken = stores.taken; stop = stores.stop }) (set_there items n old new at) (λ k ne. set_other items n k new ne)
    (subst (λ from. Shared (option_map store_as c.args.glance.store) from (set items n new) c.share.new.others.items) one c.in_ok-share.ensures) refl refl refl refl
