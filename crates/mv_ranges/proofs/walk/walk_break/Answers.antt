use Rattle.std.proofs.Common.{◌∙◌, ap, subst, sym}
use Rattle.std.specs.Option.{option_copied}
use Rattle.mv_ranges.specs.Facts.{AllHold}
use Rattle.mv_ranges.specs.Following.{OnExit}
use Rattle.mv_ranges.proofs.Marks.{break_marked}
use Rattle.mv_ranges.proofs.walk.walk_break.Goals.{in-Some+in_ok-checked-in-Some, in-None}
use Rattle.mv_ranges.proofs.walk.walk_break.Goals as goal

pub returns : goal.returns
returns c = break_marked c.args.ground.temps c.args.around.now c.args.facts c.args.n (λ s known. elim c.match-claim.branch [
  | in-Some+in_ok-checked-in-Some w ↦ subst (λ o. OnExit c.args.ground.temps o s) (sym (ap option_copied w.in-Some.is) ∙ c.claim.ensures)
      (record { enough = known.enough; true = subst (AllHold s) w.as_slice-in-Some.ensures (w.in_ok-checked-in-Some.ensures s (subst (AllHold s) (sym w.as_slice.ensures) known.true)) })
  | in-None w ↦ subst (λ o. OnExit c.args.ground.temps o s) (sym (ap option_copied w.in-None.is) ∙ c.claim.ensures) tt
])
