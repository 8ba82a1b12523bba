use Rattle.std.proofs.Common.{◌≡◌, ◌∙◌, ◌-◌, suc, Some, length, slice_get, refl, arith}
use Rattle.std.proofs.lemmas.Option.{slice_get_read}
use Rattle.mv_num.proofs.Lists.{set_there}
use Rattle.mv_bindings.specs.Acts.{Skip}
use Rattle.mv_harts_runs.specs.Harts.{next_act}
use Rattle.mv_harts_runs.proofs.Lists.{set_other}
use Rattle.mv_harts_turns.specs.Groups.{IsSeat}
use Rattle.mv_harts_turns.proofs.Places.{both_right}
use Rattle.mv_harts_turns.proofs.Seats.{on_none}
use Rattle.mv_harts_turns.proofs.Advancing.{leads, follows, not_under, leader_stands, other_stands, executed_leader, executed_other}
use Rattle.mv_harts_turns.proofs.group.Group.advance.Goals as goal

pub returns-then-hart-eq0-clause-advances : goal.returns-then-hart-eq0-clause-advances
returns-then-hart-eq0-clause-advances g c = λ e image actions bytes hs shown fetches.
    let s = c.args.self.now in
    let stop = c.advance.ensures.on e in
    let on = on_none 0 s.leader (bytes 0) hs.leader shown.leader.sits stop in
    let p = c.args.oracle.now in
    let q = c.advance.new.oracle in
    leads image actions bytes s c.advance.new.self hs shown stop c.if-self.false c.args.hart c.if-hart-eq0.true
    ((goal.FetchOracle-dyn g (p.vtable, p.value)).way p.value) ((goal.FetchOracle-dyn g (q.vtable, q.value)).way q.value)
    (c.advance.ensures.asks e) c.advance.ensures.image c.advance.ensures.taken c.advance.ensures.stop
    (c.advance.ensures.advances e 0 (bytes 0) hs.leader (next_act hs.actions) shown.leader.sits (fetches.leader on) (fetches.leader_stores on (not_under hs.under (shown.under ∙ c.if-self.false))))

pub returns-then-hart-eq0-clause-stands : goal.returns-then-hart-eq0-clause-stands
returns-then-hart-eq0-clause-stands g c = λ e.
    leader_stands c.args.self.now c.advance.new.self c.advance.ensures.image c.advance.ensures.taken c.advance.ensures.stop (c.advance.ensures.stays e).0

pub returns-clause-advances : goal.returns-clause-advances
returns-clause-advances g c = λ e image actions bytes hs shown fetches.
    let s = c.args.self.now in
    let n = c.args.hart - 1 in
    let items = s.others.items in
    let old = c.index_mut.result.now in
    let seat = c.advance-2.new.self in
    let is_hart : c.args.hart ≡ suc n = omega (arith, c.if-hart-eq0.false) in
    let at : slice_get items n ≡ Some old = slice_get_read items (length items) n old refl (omega (arith, s.others.ok.0, c.requires.there, c.if-hart-eq0.false)) c.index_mut.ensures.value in
    let stop = c.advance-2.ensures.on e in
    let o = both_right (IsSeat image hs.commits (suc n) (bytes (suc n))) (slice_get items n) (slice_get hs.others n) old at (shown.others n) in
    let on = on_none (suc n) old (bytes (suc n)) o.0 o.2.sits stop in
    let p = c.args.oracle.now in
    let q = c.advance-2.new.oracle in
    follows image actions bytes s _ hs n old seat shown stop
    (record { leader = refl; at = at; own = set_there items n old seat at; rest = λ k ne. set_other items n k seat ne; played = refl; wanted = refl; under = refl; commits = refl })
    o.0 o.1 o.2 c.args.hart is_hart ((goal.FetchOracle-dyn g (p.vtable, p.value)).way p.value)
    ((goal.FetchOracle-dyn g (q.vtable, q.value)).way q.value)
    (c.advance-2.ensures.asks e) c.advance-2.ensures.image c.advance-2.ensures.taken c.advance-2.ensures.stop
    (c.advance-2.ensures.advances e (suc n) (bytes (suc n)) o.0 Skip o.2.sits (fetches.others n o.0 o.1 on) (fetches.stores n o.0 o.1 on))

pub returns-clause-stands : goal.returns-clause-stands
returns-clause-stands g c = λ e.
    let s = c.args.self.now in
    let n = c.args.hart - 1 in
    let items = s.others.items in
    let old = c.index_mut.result.now in
    let seat = c.advance-2.new.self in
    let at : slice_get items n ≡ Some old = slice_get_read items (length items) n old refl (omega (arith, s.others.ok.0, c.requires.there, c.if-hart-eq0.false)) c.index_mut.ensures.value in
    other_stands s _ n old seat (record { leader = refl; at = at; own = set_there items n old seat at; rest = λ k ne. set_other items n k seat ne; played = refl; wanted = refl; under = refl; commits = refl })
    c.advance-2.ensures.image c.advance-2.ensures.taken c.advance-2.ensures.stop (c.advance-2.ensures.stays e).0

pub returns-then-hart-eq0-clause-executed : goal.returns-then-hart-eq0-clause-executed
returns-then-hart-eq0-clause-executed g c = λ most h. executed_leader c.args.self.now c.advance.new.self most c.advance.ensures.instructions h

pub returns-clause-executed : goal.returns-clause-executed
returns-clause-executed g c = λ most h.
    let s = c.args.self.now in
    let n = c.args.hart - 1 in
    let items = s.others.items in
    let old = c.index_mut.result.now in
    let seat = c.advance-2.new.self in
    let at : slice_get items n ≡ Some old = slice_get_read items (length items) n old refl (omega (arith, s.others.ok.0, c.requires.there, c.if-hart-eq0.false)) c.index_mut.ensures.value in
    executed_other s _ n most old seat (record { leader = refl; at = at; own = set_there items n old seat at; rest = λ k ne. set_other items n k seat ne; played = refl; wanted = refl; under = refl; commits = refl })
    c.advance-2.ensures.instructions h
