use Rattle.std.proofs.Common.{◌≡◌, ◌∙◌, suc, false, inl, Some, None, [], length, slice_get, sym, ap, refl, arith}
use Rattle.std.proofs.lemmas.Option.{slice_get_read}
use Rattle.mv_num.proofs.Lists.{set_there}
use Rattle.mv_bindings.specs.Acts.{Skip}
use Rattle.mv_harts_runs.specs.Harts.{move, last_of}
use Rattle.mv_harts_runs.proofs.Lists.{set_other}
use Rattle.mv_harts_one.specs.declared.seat.Seat.{Seat}
use Rattle.mv_harts_one.specs.Seats.{mode_of}
use Rattle.mv_harts_turns.specs.Groups.{IsSeat, adopts_last}
use Rattle.mv_harts_turns.proofs.Seats.{none_on, on_none}
use Rattle.mv_harts_turns.proofs.Places.{both_at}
use Rattle.mv_harts_turns.proofs.Reaching.{turned_map, turned_err, move_place, way_none, grew_nothing}
use Rattle.mv_harts_turns.proofs.Following.{tested_goes, tested_waits, tested_adopts, freed_by, held_ok, adopted_ok, seat_by_code, seat_adopted, adopts_output, adopts_asked, adopts_on}
use Rattle.mv_harts_turns.proofs.group.Group.follow.Goals as goal

pub returns-in-Waits-clause-follows : goal.returns-in-Waits-clause-follows
returns-in-Waits-clause-follows g c = λ image actions bytes hs o shown there one left.
    let s = c.args.self.now in
    let n = c.args.place in
    let items = s.others.items in
    let seen = c.index-seat.result.now in
    let old = c.index_mut.result.now in
    let at : slice_get items n ≡ Some seen = slice_get_read items (length items) n seen refl (omega (arith, s.others.ok.0, c.requires.there)) c.index-seat.ensures in
    let old_at : slice_get items n ≡ Some old = slice_get_read items (length items) n old refl (omega (arith, s.others.ok.0, c.requires.there)) c.index_mut.ensures.value in
    let is = both_at (IsSeat image hs.commits (suc n) (bytes (suc n))) (slice_get items n) (slice_get hs.others n) seen o at there (shown.others n) in
    let old_is = both_at (IsSeat image hs.commits (suc n) (bytes (suc n))) (slice_get items n) (slice_get hs.others n) old o old_at there (shown.others n) in
    let m = move o.state Skip None 0 in
    let place = c.glance-glance.ensures.place (suc n) (bytes (suc n)) o is.sits one ∙ sym (move_place o.state Skip None) in
    let answer = tested_waits hs n o m seen s c.glance-glance.result.place false c.in-Waits.mode (record { mode = is.sits.mode; wanted = shown.wanted; under = shown.under; at = place }) (sym c.in-Waits.ensures) in (
      false,
      tt,
      held_ok image actions bytes _ s _ hs n o m (mode_of c.in-Waits.mode) false old c.hold.new.seat answer (record {
        few = omega arith;
        left_is = left;
        same_written = refl;
        same_counts = (refl, refl);
        way_is = way_none _ 0 refl;
        shown = shown;
        there = there;
        counted = omega arith;
        same_output = refl;
        is_seat = c.hold.ensures.holds image hs.commits (suc n) (bytes (suc n)) o old_is;
        same_leader = refl;
        old_there = old_at;
        own = set_there items n old c.hold.new.seat old_at;
        rest = λ k ne. set_other items n k c.hold.new.seat ne;
        same_stop = c.hold.ensures.stop;
        same_played = refl;
        same_wanted = refl;
        same_under = refl;
        same_commits = refl;
      }),
    )

pub adopt-requires-clause-on : goal.adopt-requires-clause-on
adopt-requires-clause-on g c =
    let items = c.args.self.now.others.items in
    c.requires.on c.index_mut-in-Adopts.result.now (slice_get_read items (length items) c.args.place c.index_mut-in-Adopts.result.now refl (omega (arith, c.args.self.now.others.ok.0, c.requires.there)) c.index_mut-in-Adopts.ensures.value)

pub adopt-requires-clause-few : goal.adopt-requires-clause-few
adopt-requires-clause-few g c =
    let items = c.args.self.now.others.items in
    (c.requires.ready.others c.args.place c.index_mut-in-Adopts.result.now
    (slice_get_read items (length items) c.args.place c.index_mut-in-Adopts.result.now refl
    (omega (arith, c.args.self.now.others.ok.0, c.requires.there)) c.index_mut-in-Adopts.ensures.value)).0

pub adopt-requires-clause-ready : goal.adopt-requires-clause-ready
adopt-requires-clause-ready g c =
    let s = c.args.self.now in
    let n = c.args.place in
    let items = s.others.items in
    let seen = c.index-seat.result.now in
    let old = c.index_mut-in-Adopts.result.now in
    let at : slice_get items n ≡ Some seen = slice_get_read items (length items) n seen refl (omega (arith, s.others.ok.0, c.requires.there)) c.index-seat.ensures in
    let old_at : slice_get items n ≡ Some old = slice_get_read items (length items) n old refl (omega (arith, s.others.ok.0, c.requires.there)) c.index_mut-in-Adopts.ensures.value in
    let same : seen ≡ old = cc in
    (c.requires.ready.others n old old_at).1 (c.requires.on old old_at) (ap (λ (t : Seat). t.mode) (sym same) ∙ freed_by c.glance-glance.result.place seen.mode s.wanted s.under (sym c.in-Adopts.ensures))

pub returns-in_err-adopt-in-Adopts-clause-follows : goal.returns-in_err-adopt-in-Adopts-clause-follows
returns-in_err-adopt-in-Adopts-clause-follows g c = λ image actions bytes hs o shown there one left.
    turned_err image actions (suc c.args.place) bytes _ _ _ hs _ _ c.from_residual.result _ c.from_residual.ensures.1 false tt (record { more = []; written = grew_nothing _ _ refl; either = inl (refl, (refl, refl)) })

pub returns-in_ok-adopt-in-Adopts-clause-follows : goal.returns-in_ok-adopt-in-Adopts-clause-follows
returns-in_ok-adopt-in-Adopts-clause-follows g c = λ image actions bytes hs o shown there one left.
    let s = c.args.self.now in
    let n = c.args.place in
    let items = s.others.items in
    let seen = c.index-seat.result.now in
    let old = c.index_mut-in-Adopts.result.now in
    let at : slice_get items n ≡ Some seen = slice_get_read items (length items) n seen refl (omega (arith, s.others.ok.0, c.requires.there)) c.index-seat.ensures in
    let old_at : slice_get items n ≡ Some old = slice_get_read items (length items) n old refl (omega (arith, s.others.ok.0, c.requires.there)) c.index_mut-in-Adopts.ensures.value in
    let is = both_at (IsSeat image hs.commits (suc n) (bytes (suc n))) (slice_get items n) (slice_get hs.others n) seen o at there (shown.others n) in
    let old_is = both_at (IsSeat image hs.commits (suc n) (bytes (suc n))) (slice_get items n) (slice_get hs.others n) old o old_at there (shown.others n) in
    let m = move o.state Skip None 0 in
    let place = c.glance-glance.ensures.place (suc n) (bytes (suc n)) o is.sits one ∙ sym (move_place o.state Skip None) in
    let answer = tested_adopts hs n o m seen s c.glance-glance.result.place false (record { mode = is.sits.mode; wanted = shown.wanted; under = shown.under; at = place }) (sym c.in-Adopts.ensures) in
    let by_code = seat_by_code image hs.commits s.commits (suc n) (bytes (suc n)) old o shown.commits old_is in
    let is_seat = seat_adopted image hs.commits s.commits (suc n) (bytes (suc n)) c.adopt.new.seat o shown.commits (c.in_ok-adopt-in-Adopts.ensures.adopts image (suc n) (bytes (suc n)) o by_code) in (
      false,
      tt,
      adopted_ok image actions bytes _ s _ hs n o m false old c.adopt.new.seat answer (record {
        few = omega arith;
        left_is = left;
        same_written = refl;
        same_counts = (refl, refl);
        way_is = c.in_ok-adopt-in-Adopts.ensures.way;
        shown = shown;
        there = there;
        counted = adopts_asked o (last_of hs.commits);
        same_output = adopts_output o (last_of hs.commits);
        is_seat = is_seat;
        same_leader = refl;
        old_there = old_at;
        own = set_there items n old c.adopt.new.seat old_at;
        rest = λ k ne. set_other items n k c.adopt.new.seat ne;
        same_stop = none_on (suc n) c.adopt.new.seat (bytes (suc n)) (adopts_last o (last_of hs.commits)) is_seat.sits
            (adopts_on o (last_of hs.commits) ∙ on_none (suc n) old (bytes (suc n)) o old_is.sits (c.requires.on old old_at)) ∙ sym (c.requires.on old old_at);
        same_played = refl;
        same_wanted = refl;
        same_under = refl;
        same_commits = refl;
      }),
    )

pub returns-in-Goes-clause-follows : goal.returns-in-Goes-clause-follows
returns-in-Goes-clause-follows g c = λ image actions bytes hs o shown there one left.
    let s = c.args.self.now in
    let n = c.args.place in
    let items = s.others.items in
    let seen = c.index-seat.result.now in
    let at : slice_get items n ≡ Some seen = slice_get_read items (length items) n seen refl (omega (arith, s.others.ok.0, c.requires.there)) c.index-seat.ensures in
    let is = both_at (IsSeat image hs.commits (suc n) (bytes (suc n))) (slice_get items n) (slice_get hs.others n) seen o at there (shown.others n) in
    let m = move o.state Skip None 0 in
    let glance_place = c.glance-glance.ensures.place (suc n) (bytes (suc n)) o is.sits one in
    turned_map image actions (suc n) bytes _ _ _ hs _ _ _ _
    (λ f d. (
      tt,
      sym (tested_goes hs n o m seen s c.glance-glance.result.place f
          (record { mode = is.sits.mode; wanted = shown.wanted; under = shown.under; at = glance_place ∙ sym (move_place o.state Skip None) })
          (sym c.in-Goes.ensures) d),
    )) c.run_on.result
    (c.run_on.ensures.goes image actions bytes hs o shown there (record { one = one; place = glance_place; store = c.glance-glance.ensures.store (suc n) (bytes (suc n)) o is.sits one }) left)
