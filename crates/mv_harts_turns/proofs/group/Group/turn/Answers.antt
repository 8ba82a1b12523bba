use Rattle.std.proofs.Common.{◌≡◌, ◌-◌, ◌∙◌, suc, Some, length, slice_get, sym, ap, refl, arith}
use Rattle.std.proofs.lemmas.Option.{slice_get_read}
use Rattle.mv_harts_one.specs.declared.seat.Seat.{Seat}
use Rattle.mv_harts_turns.proofs.Turning.{stop_none, off_zero, on_zero, off_suc, on_suc}
use Rattle.mv_harts_turns.proofs.group.Group.turn.Goals as goal

pub lead-requires-clause-on : goal.lead-requires-clause-on
lead-requires-clause-on g c = stop_none c.args.self.now.leader c.is_some.result c.is_some.ensures c.if-is_some.false

pub returns-then-is_some-clause-turns : goal.returns-then-is_some-clause-turns
returns-then-is_some-clause-turns g c = λ image bytes hs shown fetches left.
    off_zero image c.args.actions.now bytes _ c.args.self.now hs c.args.hart shown c.if-hart-eq0.true left refl refl (refl, refl) (sym c.is_some.ensures ∙ c.if-is_some.true)

pub returns-then-hart-eq0-clause-turns : goal.returns-then-hart-eq0-clause-turns
returns-then-hart-eq0-clause-turns g c = λ image bytes hs shown fetches left.
    on_zero image c.args.actions.now bytes _ c.args.self.now hs c.args.hart shown c.lead.new.self c.lead.result c.if-hart-eq0.true (stop_none c.args.self.now.leader c.is_some.result c.is_some.ensures c.if-is_some.false) fetches
    (λ one. c.lead.ensures.leads image bytes hs shown one (left ∙ ap (λ h. Some (bytes h)) c.if-hart-eq0.true))

pub returns-then-is_some-2-clause-turns : goal.returns-then-is_some-2-clause-turns
returns-then-is_some-2-clause-turns g c = λ image bytes hs shown fetches left.
    let s = c.args.self.now in
    let n = c.args.hart - 1 in
    let items = s.others.items in
    let seat = c.index.result.now in
    let is_hart : c.args.hart ≡ suc n = omega (arith, c.if-hart-eq0.false) in
    let at : slice_get items n ≡ Some seat = slice_get_read items (length items) n seat refl (omega (arith, s.others.ok.0, c.requires.there, c.if-hart-eq0.false)) c.index.ensures in
    off_suc image c.args.actions.now bytes _ s hs c.args.hart shown n seat is_hart at left refl refl (refl, refl) (sym c.is_some-2.ensures ∙ c.if-is_some-2.true)

pub follow-requires-clause-on : goal.follow-requires-clause-on
follow-requires-clause-on g c = λ seat there.
    let s = c.args.self.now in
    let n = c.args.hart - 1 in
    let items = s.others.items in
    let found = c.index.result.now in
    let at : slice_get items n ≡ Some found = slice_get_read items (length items) n found refl (omega (arith, s.others.ok.0, c.requires.there, c.if-hart-eq0.false)) c.index.ensures in
    let same : seat ≡ found = cc in
    ap (λ (t : Seat). t.stop) same ∙ stop_none found c.is_some-2.result c.is_some-2.ensures c.if-is_some-2.false

pub returns-clause-turns : goal.returns-clause-turns
returns-clause-turns g c = λ image bytes hs shown fetches left.
    let s = c.args.self.now in
    let n = c.args.hart - 1 in
    let items = s.others.items in
    let seat = c.index.result.now in
    let is_hart : c.args.hart ≡ suc n = omega (arith, c.if-hart-eq0.false) in
    let at : slice_get items n ≡ Some seat = slice_get_read items (length items) n seat refl (omega (arith, s.others.ok.0, c.requires.there, c.if-hart-eq0.false)) c.index.ensures in
    on_suc image c.args.actions.now bytes _ s hs c.args.hart shown n seat is_hart at c.follow.new.self c.follow.result (stop_none seat c.is_some-2.result c.is_some-2.ensures c.if-is_some-2.false) fetches
    (λ o there one. c.follow.ensures.follows image c.args.actions.now bytes hs o shown there one (left ∙ ap (λ h. Some (bytes h)) is_hart))
