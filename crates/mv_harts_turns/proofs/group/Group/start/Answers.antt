use Rattle.std.proofs.Common.{[], refl, sym, subst}
use Rattle.std.proofs.lemmas.Result.{IfOk-at_ok}
use Rattle.mv_machine.specs.Runs.{bytes_to_come}
use Rattle.mv_harts_runs.specs.Harts.{first_of, hart_from}
use Rattle.mv_harts_turns.specs.Groups.{IsSeat}
use Rattle.mv_harts_turns.proofs.Starting.{first_seat, shows_first}
use Rattle.mv_harts_turns.proofs.group.Group.start.Goals as goal

pub returns : goal.returns
returns c = λ bytes actions.
    let image = c.args.image.now in
    let seat = first_seat image 0 (bytes 0) c.in_ok-leader.leader (c.in_ok-leader.ensures.sits (bytes 0)) c.in_ok-leader.ensures.taken in
    shows_first image actions bytes _ c.args.others
    (subst (λ s. IsSeat image [] 0 (bytes 0) s (hart_from (first_of 0 image (bytes_to_come (bytes 0)) []))) (sym c.in_ok-leader-2.ensures.first) seat)
    (IfOk-at_ok _ c.in_ok-leader-2.ensures.step c.others_from.ensures bytes) refl refl refl c.new.ensures
