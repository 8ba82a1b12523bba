use Rattle.std.proofs.Common.{◌≡◌, ◌-◌, ◌∙◌, length, slice_get, get_or, Some, refl, sym, ap, subst, arith}
use Rattle.mv_harts_one.specs.Seats.{Sits, adopted}
use Rattle.mv_harts_turns.specs.declared.group.Committed.{Committed}
use Rattle.std.proofs.lemmas.Option.{slice_get_read}
use Rattle.mv_harts_turns.proofs.Holding.{seat_adopts, followed}
use Rattle.mv_harts_turns.proofs.step.adopt.Goals as goal

pub returns-in_err-push-clause-way : goal.returns-in_err-push-clause-way
returns-in_err-push-clause-way g c = followed _ _ _ _ c.picked-pick.ensures

pub returns-clause-way : goal.returns-clause-way
returns-clause-way g c = followed _ _ _ _ c.picked-pick.ensures

pub returns-clause-adopts : goal.returns-clause-adopts
returns-clause-adopts g c = λ image number bytes o is.
    let commits = c.args.commits.now in
    let k = c.len-last.result - 1 in
    let last = c.index-as_slice-last.result in
    let there : slice_get commits k ≡ Some last = slice_get_read commits (length commits) k last refl (omega (arith, c.len-last.ensures, c.requires.ready.some)) (c.index-as_slice-last.is ∙ ap (λ l. get_or l k last) c.as_slice.ensures) in
    seat_adopts image commits number bytes c.args.seat.now c.adopt.new.self o k last
    (omega (arith, c.len-last.ensures, c.requires.ready.some)) there is c.adopt.ensures.image c.adopt.ensures.taken
    (λ acts. subst (λ (l : Committed). Sits number c.adopt.new.self bytes (adopted o l.all acts)) (sym c.index-as_slice-last.is)
    (c.adopt.ensures.adopts number bytes o acts is.sits)) c.push.new.self c.in_ok-push.ensures.ok
